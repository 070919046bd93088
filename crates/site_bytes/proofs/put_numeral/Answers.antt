use Rattle.std.proofs.Common.{refl}
use Rattle.site_bytes.proofs.Numerals.{some_left, numeral-step, numeral-end}
use Rattle.site_bytes.proofs.put_numeral.Goals as goal

pub overflow_sub-i : goal.overflow_sub-i
overflow_sub-i c = some_left _ _ _ _ _ _ c.loop-rest.invariant c.loop-rest-test.true

pub loop-rest-preserved : goal.loop-rest-preserved
loop-rest-preserved c = numeral-step _ _ _ _ _ _ c.loop-rest.invariant c.loop-rest-test.true _ c.put_byte.ensures

pub returns : goal.returns
returns c = numeral-end _ _ _ _ _ _ c.loop-rest.invariant c.loop-rest-test.false _ c.put_byte-2.ensures _ _
    c.numeral_length.ensures refl
