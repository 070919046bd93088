-- What the loops that look for patterns that share a variable have found.
-- Assumes nothing.
use Prim.Native.Nat.{ℕ, ◌<◌, ◌≤◌}
use mathlib.Core.Path.{◌≡◌}
use mathlib.Core.List.{List}
use lib.ListN.{get_or}
use Rattle.model.specs.Codes.{absent}
use Rattle.query.specs.declared.Pattern.{Pattern}
use Rattle.query.specs.declared.Query.{Query}
use Rattle.query.specs.Ask.{pattern_at}
use Rattle.query_components.specs.Parts.{Holds}

-- no pattern from the k-th to before the i-th has a variable of p without a node
pub record NoneTouched (n : List ℕ) (q : Query) (k : ℕ) (p : Pattern) (i : ℕ) : Type 0 where
  pub none : (m v : ℕ) → v < 8 → get_or n v 0 ≡ absent → k ≤ m → m < i → Holds v (pattern_at q m) → Holds v p → ⊥

-- none from the z-th to before the j-th has a variable without a node of one from the k-th to before the z-th
pub record ApartTo (n : List ℕ) (q : Query) (k z j : ℕ) : Type 0 where
  pub none : (i m v : ℕ) → v < 8 → get_or n v 0 ≡ absent → k ≤ i → i < z → z ≤ m → m < j → Holds v (pattern_at q i) → Holds v (pattern_at q m) → ⊥
