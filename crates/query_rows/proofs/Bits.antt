-- Setting a bit of a list of words loses none.
-- Assumes nothing.
use Prim.Native.Nat.{ℕ, ◌*◌, ◌/◌, ◌%◌, ◌^◌, ◌<◌, ◌≤◌}
use native.Mathlib.Nat.{eq-zero-or-pos, mod-lt, mod-eq_of_lt, one-mul, zero-div}
use native.Mathlib.Omega.{arith}
use native.Mathlib.Decide.{ℕ_discrete}
use mathlib.Core.Path.{◌≡◌, refl, sym, ap, ◌∙◌}
use mathlib.Core.Bool.{true, false}
use mathlib.Core.List.{List}
use mathlib.Core.Logic.{⊎_elim}
use lib.Dec.{eqb}
use lib.Bits.{bit_or, or_shr, or_mod, or_comm}
use lib.Pow.{pow-lt, shl-shr}
use lib.ListN.{length, get_or, set, get_or-eq_default}
use lib.Seq.{get_or-set_same, get_or-set_other}
use borrow.Author.Tests.{eq-eqb, eqb-true}
use Rattle.query_rows.specs.Rows.{bit}

-- ── reading a bit ──
pub bit_beyond : (d : List ℕ) (i : ℕ) → length d ≤ i / 64 → false ≡ bit d i
unfolding bit
bit_beyond d i h =
    sym (ap (λ (w : ℕ). eqb (w / 2 ^ (i % 64) % 2) 1) (get_or-eq_default d 0 h) ∙ ap (λ (w : ℕ). eqb (w % 2) 1) (zero-div (2 ^ (i % 64))))

pub bit_is : (d : List ℕ) (i : ℕ) → eqb (get_or d (i / 64) 0 / 2 ^ (i % 64) % 2) 1 ≡ bit d i
unfolding bit
bit_is d i = refl

-- ── setting a bit of a word ──
or_odd : (a b : ℕ) → a % 2 ≡ 1 → bit_or a b % 2 ≡ 1
or_odd a b h =
    or_mod a b 1
    ∙ ap (λ (x : ℕ). bit_or x (b % 2)) h
    ∙ ⊎_elim {C = bit_or 1 (b % 2) ≡ 1} (λ z. ap (λ (x : ℕ). bit_or 1 x) z) (λ z. ap (λ (x : ℕ). bit_or 1 x) (one z)) (eq-zero-or-pos (b % 2))
  where
    one : 0 < b % 2 → b % 2 ≡ 1
    one z = omega arith

or_bit : (w m k : ℕ) → w / 2 ^ k % 2 ≡ 1 → bit_or w m / 2 ^ k % 2 ≡ 1
or_bit w m k h = ap (λ (x : ℕ). x % 2) (or_shr w m k) ∙ or_odd (w / 2 ^ k) (m / 2 ^ k) h

one_bit : (k : ℕ) → k < 64 → (1 * 2 ^ k) % 18446744073709551616 / 2 ^ k % 2 ≡ 1
one_bit k h =
    let l : 1 * 2 ^ k < 18446744073709551616 = let m : 2 ^ k < 2 ^ 64 = pow-lt h in rw (one-mul (2 ^ k)) m in
    ap (λ (x : ℕ). x / 2 ^ k % 2) (mod-eq_of_lt l) ∙ ap (λ (x : ℕ). x % 2) (shl-shr 1 k)

-- ── setting a bit of a list ──
module _ (d : List ℕ) (i : ℕ) (l : i / 64 < length d) where
  abbrev word : ℕ
  word = get_or d (i / 64) 0

  abbrev mask : ℕ
  mask = (1 * 2 ^ (i % 64)) % 18446744073709551616

  -- the list with the bit set, as the code sets it
  abbrev pub with_bit : List ℕ
  with_bit = set d (i / 64) (bit_or word mask)

  pub bit-there : bit with_bit i ≡ true
  unfolding bit
  bit-there = eq-eqb _ _ (
      ap (λ (x : ℕ). x / 2 ^ (i % 64) % 2) (get_or-set_same d (i / 64) (bit_or word mask) 0 l ∙ or_comm word mask)
      ∙ or_bit mask word (i % 64) (one_bit (i % 64) (mod-lt i (omega arith))))

  pub bit_kept : (j : ℕ) → bit d j ≡ true → bit with_bit j ≡ true
  unfolding bit
  bit_kept j y = eq-eqb _ _ (go (eqb-true _ _ y) (ℕ_discrete (j / 64) (i / 64)))
    where
      go : get_or d (j / 64) 0 / 2 ^ (j % 64) % 2 ≡ 1 → Dec (j / 64 ≡ i / 64) → get_or with_bit (j / 64) 0 / 2 ^ (j % 64) % 2 ≡ 1
      go h (yes e) =
          ap (λ (x : ℕ). x / 2 ^ (j % 64) % 2) (ap (λ (x : ℕ). get_or with_bit x 0) e ∙ get_or-set_same d (i / 64) (bit_or word mask) 0 l)
          ∙ or_bit word mask (j % 64) (ap (λ (x : ℕ). get_or d x 0 / 2 ^ (j % 64) % 2) (sym e) ∙ h)
      go h (no n) = ap (λ (x : ℕ). x / 2 ^ (j % 64) % 2) (get_or-set_other d (i / 64) (j / 64) (bit_or word mask) 0 n) ∙ h
