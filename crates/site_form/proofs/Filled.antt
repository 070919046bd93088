-- A lent list that begins with given numbers and is zero behind them.
-- Assumes nothing.
use Prim.Native.Nat.{ℕ, ◌+◌, ◌<◌, ◌≤◌}
use mathlib.Core.Path.{◌≡◌, ◌∙◌, ap}
use mathlib.Core.List.{List, ◌++◌}
use native.Mathlib.Omega.{arith}
use lib.ListN.{length, drop, get_or, get_or-append}
use lib.Seq.{sets, sets-eq, length-sets}
use Rattle.model.specs.Lists.{padded}
use Rattle.theory.proofs.Flat.{padded-by}
use Rattle.lists.specs.Flat.{Cleared}

-- xs was stored from the first place on, and zeros behind it
pub filled : (l₀ l m xs : List ℕ) (n : ℕ) → n ≡ length xs → n ≤ length l₀ → l ≡ sets l₀ 0 xs → Cleared l m n (length l₀) → m ≡ padded (length l₀) xs
filled l₀ l m xs n en h e c =
    padded-by m xs (length l₀) (c.size ∙ ap length e ∙ length-sets l₀ 0 xs) (omega arith)
    (λ i k. c.rest i (λ a. absurd (omega arith)) ∙ ap (λ (x : List ℕ). get_or x i 0) stands ∙ get_or-append xs _ 0 i k)
    (λ i a k. c.zeros i (omega arith) k)
  where
    stands : l ≡ xs ++ drop (0 + length xs) l₀
    stands = e ∙ sets-eq xs l₀ 0 (omega arith)
