use Rattle.std.proofs.Common.{arith, sym, ◌∙◌}
use Rattle.site_tokens.proofs.Numbers.{tested, digits-end, digits_stop, digits-over, digits-on}
use Rattle.site_tokens.proofs.digits.Goals as goal

pub returns-in_err-checked_mul : goal.returns-in_err-checked_mul
returns-in_err-checked_mul c = rw c.from_residual.ensures (sym (c.loop-next.invariant ∙ digits-over _ _ _ c.loop-next-test.true
    (tested _ c.is_ascii_digit.ensures.value c.if-is_ascii_digit.true) (omega arith)))

pub returns-in_err-value : goal.returns-in_err-value
returns-in_err-value c = rw c.from_residual-in_err-value.ensures (sym (c.loop-next.invariant ∙ digits-over _ _ _ c.loop-next-test.true
    (tested _ c.is_ascii_digit.ensures.value c.if-is_ascii_digit.true) (omega arith)))

pub loop-next-preserved : goal.loop-next-preserved
loop-next-preserved c = c.loop-next.invariant ∙ digits-on _ _ _ c.loop-next-test.true
    (tested _ c.is_ascii_digit.ensures.value c.if-is_ascii_digit.true) (omega arith) _ (omega arith)

pub returns-else-is_ascii_digit : goal.returns-else-is_ascii_digit
returns-else-is_ascii_digit c = sym (c.loop-next.invariant ∙ digits_stop _ _ _ c.loop-next-test.true
    (tested _ c.is_ascii_digit.ensures.value c.if-is_ascii_digit.false))

pub returns-after-loop-next : goal.returns-after-loop-next
returns-after-loop-next c = sym (c.loop-next.invariant ∙ digits-end _ _ _ c.loop-next-test.false)
