-- The words of a row: row v of n words a row begins at word v * n.
-- Assumes nothing.
use Prim.Native.Nat.{ℕ, ◌+◌, ◌*◌, ◌/◌, ◌%◌, ◌<◌, ◌≤◌}
use native.Mathlib.Nat.{mul_assoc, mul-le-mul_right, mod-lt}
use native.Mathlib.Omega.{arith}
use native.Mathlib.Decide.{dec_lt}
use mathlib.Core.Path.{◌≡◌, sym}

-- ── a bit of a row ──
module _ (v n y : ℕ) where
  in_words : v * (n * 64) ≡ v * n * 64
  in_words = sym (mul_assoc v n 64)

  pub word_of : (v * (n * 64) + y) / 64 ≡ v * n + y / 64
  word_of = let e : v * (n * 64) ≡ v * n * 64 = in_words in omega arith

  pub shift_of : (v * (n * 64) + y) % 64 ≡ y % 64
  shift_of = let e : v * (n * 64) ≡ v * n * 64 = in_words in omega arith

-- a bit below the width is in the row's words
pub bit_below : (n x : ℕ) → 0 < n → x % (n * 64) / 64 < n
bit_below n x l = let h : x % (n * 64) < n * 64 = mod-lt x (omega arith) in omega arith

-- ── rows do not meet ──
pub row-after : (u v n : ℕ) → u < v → u * n + n ≤ v * n
row-after u v n l = let h : (u + 1) * n ≤ v * n = mul-le-mul_right n (omega arith) in omega arith

pub rows_apart : (u v n a : ℕ) → (u ≡ v → ⊥) → a < n → v * n ≤ u * n + a → v * n + n ≤ u * n + a
rows_apart u v n a o l h = go (dec_lt u v) (dec_lt v u)
  where
    go : Dec (u < v) → Dec (v < u) → v * n + n ≤ u * n + a
    go (yes z) w = let k : u * n + n ≤ v * n = row-after u v n z in omega arith
    go (no z) (yes w) = let k : v * n + n ≤ u * n = row-after v u n w in omega arith
    go (no z) (no w) = let p : u ≡ v = omega arith in absurd (o p)

-- ── 13 rows ──
-- a row below 13 is within the list
pub row_within : (v m : ℕ) → v < 13 → v * (m / 13) + m / 13 ≤ m
row_within v m l = let h : v * (m / 13) + m / 13 ≤ 13 * (m / 13) = row-after v 13 (m / 13) l in omega arith
