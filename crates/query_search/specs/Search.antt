-- What the search within domains, which may give up, promises.
-- Assumes nothing.
use Rattle.std.specs.Prelude.{ℕ, ⊤, ◌-◌, ◌≤◌, ◌≡◌, Bool, true, false, List, eqb, Option, Some, None, option_map, Result, Ok, Err}
use Rattle.model.specs.Triples.{triples}
use Rattle.model.specs.Partition.{label}
use Rattle.lists.specs.Flat.{at}
use Rattle.query.specs.declared.Query.{Query}
use Rattle.query.specs.Ask.{pattern_at}
use Rattle.query.specs.Match.{pattern_triple}
use Rattle.query.specs.Choices.{Puts, CanPut}
use Rattle.query_rows.specs.Rows.{Within}
use Rattle.query_search.specs.declared.GaveUp.{GaveUp}

-- no more steps left than before, and a limit if there was one
abbrev pub NoMore : Option ℕ → Option ℕ → Type 0
NoMore None None = ⊤
NoMore None (Some n) = ⊥
NoMore (Some m) None = ⊥
NoMore (Some m) (Some n) = n ≤ m

-- The answer r to the patterns from the k-th on, where `before` steps were left at first and `steps` are now: true only if a choice puts
-- them in the table, false only if none within the domains does, and given up only where there is a limit and no step left.
pub record Sought (table map d : List ℕ) (q : Query) (k : ℕ) (b : List ℕ) (before steps : Option ℕ) (r : Result Bool GaveUp) : Type 0 where
  pub fewer : NoMore before steps
  pub sound : r ≡ Ok true → CanPut (triples table) map q k b
  pub complete : r ≡ Ok false → (σ : ℕ → ℕ) → Puts (triples table) map q k b σ → Within d σ → ⊥
  pub gave_up : (e : GaveUp) → r ≡ Err e → steps ≡ Some 0

-- the same with the k-th pattern put at place i
pub record SoughtAt (table map d : List ℕ) (q : Query) (k : ℕ) (b : List ℕ) (i : ℕ) (before steps : Option ℕ) (r : Result Bool GaveUp) : Type 0 where
  pub fewer : NoMore before steps
  pub sound : r ≡ Ok true → CanPut (triples table) map q k b
  pub complete : r ≡ Ok false → (σ : ℕ → ℕ) → Puts (triples table) map q k b σ → Within d σ
      → pattern_triple (label map) σ (pattern_at q k) ≡ at table i → ⊥
  pub gave_up : (e : GaveUp) → r ≡ Err e → steps ≡ Some 0

-- there is a limit, and no step left
abbrev pub used_up : Option ℕ → Bool
used_up None = false
used_up (Some n) = eqb n 0

-- the steps left after a cost, if there is a limit; the search must give up where none is left
pub record Spent (before : Option ℕ) (cost : ℕ) (steps : Option ℕ) (r : Bool) : Type 0 where
  pub left : steps ≡ option_map (λ n. n - cost) before
  pub up : r ≡ used_up steps
