use Rattle.site_bytes.proofs.Numerals.{count-step, count-end}
use Rattle.site_bytes.proofs.numeral_length.Goals as goal

pub loop-rest-preserved : goal.loop-rest-preserved
loop-rest-preserved c = count-step _ _ _ c.loop-rest.invariant c.loop-rest-test.true

pub returns : goal.returns
returns c = count-end _ _ _ c.loop-rest.invariant c.loop-rest-test.false
