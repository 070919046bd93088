-- The readers of digits and of a number, at a place of the text.
-- Assumes nothing.
use Prim.Native.Nat.{ℕ, ◌+◌, ◌-◌, ◌*◌, ◌<◌, ◌≤◌}
use mathlib.Core.Path.{◌≡◌, sym, ◌∙◌, ap}
use mathlib.Core.Bool.{Bool, true, false}
use mathlib.Core.List.{List, ◌∷◌}
use native.Mathlib.Numerals.{add-one}
use native.Mathlib.Omega.{arith}
use lib.ListN.{length, drop, get_or, drop_of_length-le}
use lib.Seq.{drop-cons}
use Rattle.std.proofs.lemmas.Bool.Decides.{nat_tests}
use Rattle.std.specs.Char.{is_ascii_digit}
use Rattle.site_form.specs.Text.{largest}
use Rattle.site_form.specs.Reading.{bad, got, digit, digit_first, more_of, number_of, number}
use Rattle.site_form.proofs.Decimal.{more_stop, more-over, more-on, number_not, number_more, number-end, zero-leads, zero-alone}

digit-is : (b : ℕ) → is_ascii_digit b ≡ digit b
unfolding digit
digit-is b = grind (arith, nat_tests)

-- what the library's test of a byte says
pub tested : (b : ℕ) {r t : Bool} → r ≡ is_ascii_digit b → r ≡ t → digit b ≡ t
tested b e f = sym (digit-is b) ∙ sym e ∙ f

pub tested_at : (text : List ℕ) (i : ℕ) {b : ℕ} → b ≡ get_or text i 0 → {r t : Bool} → r ≡ is_ascii_digit b → r ≡ t → digit (get_or text i 0) ≡ t
tested_at text i {b} is e f = sym (ap digit is) ∙ tested b e f

module _ (text : List ℕ) (at : ℕ) (h : at < length text) where
  -- what follows the byte at a place
  drop_at : drop at text ≡ get_or text at 0 ∷ drop (at + 1) text
  drop_at = drop-cons text at 0 h ∙ ap (λ (k : ℕ). get_or text at 0 ∷ drop k text) (sym (add-one at))

module _ (v : ℕ) (text : List ℕ) (i : ℕ) where
  pub digits-end : length text ≤ i → more_of v i (drop i text) ≡ got v i
  unfolding more_of
  digits-end h = rw (drop_of_length-le text h)

  abbrev longer : ℕ
  longer = v * 10 + (get_or text i 0 - 48)

  module _ (h : i < length text) where
    pub digits_stop : digit (get_or text i 0) ≡ false → more_of v i (drop i text) ≡ got v i
    digits_stop e = ap (more_of v i) (drop_at text i h) ∙ more_stop v i (get_or text i 0) (drop (i + 1) text) e

    pub digits-over : digit (get_or text i 0) ≡ true → largest < longer → more_of v i (drop i text) ≡ bad
    digits-over e o = ap (more_of v i) (drop_at text i h) ∙ more-over v i (get_or text i 0) (drop (i + 1) text) e o

    pub digits-on : digit (get_or text i 0) ≡ true → longer ≤ largest → (w : ℕ) → w ≡ longer → more_of v i (drop i text) ≡ more_of w (i + 1) (drop (i + 1) text)
    digits-on e o w is =
        ap (more_of v i) (drop_at text i h)
        ∙ more-on v i (get_or text i 0) (drop (i + 1) text) e o
        ∙ (λ k. more_of (sym is k) (sym (add-one i) k) (drop (i + 1) text))

digit-first : (text : List ℕ) (i : ℕ) → i < length text → digit_first (drop i text) ≡ digit (get_or text i 0)
unfolding digit_first
digit-first text i h = rw (drop_at text i h)

no_digit : (text : List ℕ) (i : ℕ) → length text ≤ i → digit_first (drop i text) ≡ false
unfolding digit_first
no_digit text i h = rw (drop_of_length-le text h)

module _ (text : List ℕ) (at : ℕ) where
  pub number-none : length text ≤ at → number text at ≡ bad
  unfolding number
  number-none h = ap (number_of at) (drop_of_length-le text h) ∙ number-end at

  module _ (h : at < length text) where
    opened : number text at ≡ number_of at (get_or text at 0 ∷ drop (at + 1) text)
    unfolding number
    opened = ap (number_of at) (drop_at text at h)

    pub number-no-digit : digit (get_or text at 0) ≡ false → number text at ≡ bad
    number-no-digit e = opened ∙ number_not at (get_or text at 0) (drop (at + 1) text) e

    pub number_digits : digit (get_or text at 0) ≡ true → (get_or text at 0 ≡ 48 → ⊥) → (v : ℕ) → v ≡ get_or text at 0 - 48 → number text at ≡ more_of v (at + 1) (drop (at + 1) text)
    number_digits e n v is =
        opened
        ∙ number_more at (get_or text at 0) (drop (at + 1) text) e n
        ∙ (λ k. more_of (sym is k) (sym (add-one at) k) (drop (at + 1) text))

    module _ (z : get_or text at 0 ≡ 48) where
      opened-zero : number text at ≡ number_of at (48 ∷ drop (at + 1) text)
      opened-zero = opened ∙ ap (λ (b : ℕ). number_of at (b ∷ drop (at + 1) text)) z

      alone : digit_first (drop (at + 1) text) ≡ false → number text at ≡ got 0 (at + 1)
      alone e = opened-zero ∙ zero-alone at (drop (at + 1) text) e ∙ ap (got 0) (sym (add-one at))

      pub zero-last : length text ≤ at + 1 → number text at ≡ got 0 (at + 1)
      zero-last l = alone (no_digit text (at + 1) l)

      pub zero-digit : at + 1 < length text → digit (get_or text (at + 1) 0) ≡ true → number text at ≡ bad
      zero-digit l e = opened-zero ∙ zero-leads at (drop (at + 1) text) (digit-first text (at + 1) l ∙ e)

      pub zero-other : at + 1 < length text → digit (get_or text (at + 1) 0) ≡ false → number text at ≡ got 0 (at + 1)
      zero-other l e = alone (digit-first text (at + 1) l ∙ e)
