use Rattle.std.proofs.Common.{arith, sym, ◌∙◌}
use Rattle.site_tokens.proofs.Numbers.{tested, tested_at, number-none, number-no-digit, number_digits, zero-last, zero-digit, zero-other}
use Rattle.site_tokens.proofs.number.Goals as goal
use Rattle.site_tokens.proofs.number.Goals.{else-next-text-via-then-next-text+else-is_ascii_digit, else-next-text-via-else-next-text}

pub returns-in_err-b : goal.returns-in_err-b
returns-in_err-b c = rw c.from_residual.ensures (sym (number-none _ _ c.in_err-b.ensures.lookup.3))

pub returns-then-not-is_ascii_digit : goal.returns-then-not-is_ascii_digit
returns-then-not-is_ascii_digit c = let h = c.in_ok-b.ensures.lookup.3 in sym (number-no-digit _ _ h.0
    (tested_at c.args.text.now c.args.at (h.1 0) c.is_ascii_digit.ensures.value c.if-not-is_ascii_digit.true))

pub returns-then-b-ne48 : goal.returns-then-b-ne48
returns-then-b-ne48 c = let h = c.in_ok-b.ensures.lookup.3 in c.digits.ensures ∙ sym (number_digits _ _ h.0
    (tested_at c.args.text.now c.args.at (h.1 0) c.is_ascii_digit.ensures.value c.if-not-is_ascii_digit.false)
    (λ e. c.if-b-ne48.true (h.1 0 ∙ e)) _ (omega (arith, h.1 0)))

pub returns-then-is_ascii_digit : goal.returns-then-is_ascii_digit
returns-then-is_ascii_digit c = let h = c.in_ok-b.ensures.lookup.3 in sym (zero-digit _ _ h.0 (sym (h.1 0) ∙ c.if-b-ne48.false) c.if-next-text.true
    (tested _ c.is_ascii_digit-then-next-text.ensures.value c.if-is_ascii_digit.true))

pub returns : goal.returns
returns c = let h = c.in_ok-b.ensures.lookup.3 in elim c.else-next-text.branch [
  | else-next-text-via-then-next-text+else-is_ascii_digit w ↦ sym (zero-other _ _ h.0 (sym (h.1 0) ∙ c.if-b-ne48.false) w.if-next-text.true
      (tested _ w.is_ascii_digit-then-next-text.ensures.value w.if-is_ascii_digit.false))
  | else-next-text-via-else-next-text w ↦ sym (zero-last _ _ h.0 (sym (h.1 0) ∙ c.if-b-ne48.false) w.if-next-text.false)
]
