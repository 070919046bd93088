-- The domains before any pass hold every choice that agrees with the bindings.
-- Assumes nothing.
use Prim.Native.Nat.{ℕ, suc, ◌+◌, ◌-◌, ◌*◌, ◌/◌, ◌%◌, ◌^◌, ◌<◌, ◌≤◌}
use native.Mathlib.Nat.{mod-lt, two-pow-succ}
use native.Mathlib.Omega.{arith}
use mathlib.Core.Path.{◌≡◌, sym, ap, ◌∙◌}
use mathlib.Core.Bool.{true}
use mathlib.Core.List.{List}
use lib.Pow.{pow_pos, ones_split, ones_lt, high}
use lib.ListN.{length}
use borrow.Author.Tests.{eq-eqb}
use Rattle.query.specs.Choices.{Agrees}
use Rattle.query_rows.specs.Rows.{width, in_row, RowSet}
use Rattle.query_domains.specs.Domains.{RowFilled, LaterKept, Filled}
use Rattle.query_domains.proofs.Supports.{row-allows}

-- ── the word of 64 ones has every bit ──
ones_odd : (m : ℕ) → (2 ^ suc m - 1) % 2 ≡ 1
ones_odd m = let e : 2 ^ suc m ≡ 2 ^ m + 2 ^ m = two-pow-succ m in let p : 0 < 2 ^ m = pow_pos m in omega arith

ones_bit : (k : ℕ) → k < 64 → 18446744073709551615 / 2 ^ k % 2 ≡ 1
ones_bit k l =
    let e : suc (63 - k) + k ≡ 64 = omega arith in
    let s : 18446744073709551615 ≡ (2 ^ suc (63 - k) - 1) * 2 ^ k + (2 ^ k - 1) = sym (ap (λ (n : ℕ). 2 ^ n - 1) e) ∙ ones_split (suc (63 - k)) k in
    ap (λ (n : ℕ). n / 2 ^ k % 2) s ∙ ap (λ (n : ℕ). n % 2) (high (2 ^ suc (63 - k) - 1) k (ones_lt k)) ∙ ones_odd (63 - k)

-- ── one row ──
module _ (d : List ℕ) (v node : ℕ) where
  pub every_node : (d' : List ℕ) → RowSet d d' v 18446744073709551615 → RowFilled d d' v node
  every_node d' s = record {
    size = s.size;
    row = λ x h. s.row x ∙ eq-eqb _ _ (ones_bit (x % width d % 64) (mod-lt (x % width d) (omega arith)));
    others = λ u x n h. s.others u x n ∙ h;
  }

-- ── all rows ──
-- the rows before the n-th are filled
pub record FilledBefore (d d' b : List ℕ) (n : ℕ) : Type 0 where
  pub size : length d' ≡ length d
  pub later : LaterKept d d'
  pub rows : (σ : ℕ → ℕ) → Agrees σ b → (v : ℕ) → v < n → in_row d' v (σ v) ≡ true

module _ (d b : List ℕ) where
  pub all-filled : (d₁ : List ℕ) (n : ℕ) → FilledBefore d d₁ b n → 8 ≤ n → Filled d d₁ b
  all-filled d₁ n h l = record {
    size = h.size;
    later = h.later;
    within = λ σ a v m. row-allows d₁ v (σ v) (h.rows σ a v (omega arith));
  }
