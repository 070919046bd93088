use Rattle.query_domains.proofs.Fills.{all-filled}
use Rattle.query_domains.proofs.fill.Goals as goal

pub returns : goal.returns
returns c = all-filled _ _ _ _ c.loop-v.invariant c.loop-v-test.false
