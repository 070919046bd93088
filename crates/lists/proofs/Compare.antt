-- Three ways that two numbers compare.
-- Assumes nothing.
use Prim.Native.Nat.{ℕ, ◌<◌}
use mathlib.Core.Path.{◌≡◌}
use native.Mathlib.Omega.{arith}
use native.Mathlib.Decide.{dec_lt}

pub data Cmp (a b : ℕ) : Type 0 where
  lt : a < b → Cmp a b
  eq : a ≡ b → Cmp a b
  gt : b < a → Cmp a b

pub cmp : (a b : ℕ) → Cmp a b
cmp a b = go (dec_lt a b) (dec_lt b a)
  where
    go : Dec (a < b) → Dec (b < a) → Cmp a b
    go (yes h) d = lt h
    go (no n) (yes h) = gt h
    go (no n) (no m) = eq (omega arith)
