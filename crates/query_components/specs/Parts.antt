-- The parts of a query: patterns that share no variable without a node.
-- Assumes nothing.
use Rattle.std.specs.Prelude.{ℕ, ◌<◌, ◌≤◌, ◌≡◌, ◌⊎◌, List, get_or}
use Rattle.model.specs.Codes.{absent}
use Rattle.query.specs.declared.End.TheVariants.{Var}
use Rattle.query.specs.declared.Pattern.{Pattern}
use Rattle.query.specs.declared.Query.{Query}
use Rattle.query.specs.Ask.{pattern_at}

-- the variable v is at an end of the pattern
abbrev pub Holds : ℕ → Pattern → Type 0
Holds v p = (p.subject ≡ Var v) ⊎ (p.object ≡ Var v)

-- no variable without a node is in a pattern from the k-th to before the z-th and in a counted one from there on
abbrev pub Apart : List ℕ → Query → ℕ → ℕ → Type 0
Apart b q k z =
    (i j v : ℕ) → v < 8 → get_or b v 0 ≡ absent → k ≤ i → i < z → z ≤ j → j < q.count → Holds v (pattern_at q i) → Holds v (pattern_at q j) → ⊥

-- z ends a part, begun at the j-th, of the patterns from the k-th on: all of them, or some that share no variable without a node
-- with those after them
pub record PartEnd (b : List ℕ) (q : Query) (k j z : ℕ) : Type 0 where
  pub more : j < z
  pub most : z ≤ q.count
  pub apart : z < q.count → Apart b q k z
