-- The order of a query's patterns.
-- Assumes nothing.
use Rattle.std.specs.Prelude.{ℕ, ◌<◌, ◌≤◌, ◌≡◌, length}
use Rattle.query.specs.declared.Pattern.{Pattern}
use Rattle.query.specs.declared.Query.{Query}
use Rattle.query.specs.Ask.{pattern_at}

-- the first n patterns of a query
abbrev pub first_patterns : Query → ℕ → Query
first_patterns q n = record { patterns = q.patterns; count = n }

-- p is a counted pattern of q and not one before the k-th
abbrev pub StandsIn : Query → ℕ → Pattern → Type 0
StandsIn q k p = (i : ℕ) × (k ≤ i) × (i < q.count) × (p ≡ pattern_at q i)

-- r has the counted patterns of q from the k-th on, in any order, repeats aside, and those before as they are
pub record Arranged (k : ℕ) (q r : Query) : Type 0 where
  pub room : length r.patterns ≡ 8
  pub count : r.count ≡ q.count
  pub before : (j : ℕ) → j < k → j < q.count → pattern_at r j ≡ pattern_at q j
  pub comes : (j : ℕ) → k ≤ j → j < r.count → StandsIn q k (pattern_at r j)
  pub goes : (j : ℕ) → k ≤ j → j < q.count → StandsIn r k (pattern_at q j)
