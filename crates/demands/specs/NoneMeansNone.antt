-- What ask says of a summary, and what the table holds.
-- Assumes nothing.
use Rattle.std.specs.Prelude.{ℕ, ◌≡◌, false, List}
use Rattle.model.specs.declared.Triple.{Triple}
use Rattle.model.specs.declared.Vocabulary.{Vocabulary}
use Rattle.model.specs.Triples.{flat}
use Rattle.model.specs.Classes.{map_of, strong_map_of}
use Rattle.model.specs.Summary.{condensed}
use Rattle.model.specs.Outcomes.{accepted}
use Rattle.model.specs.Calls.{Accepted}
use Rattle.query.specs.declared.Query.{Query}
use Rattle.query.specs.Ask.{ask_outcome}
use Rattle.query.specs.Match.{Match}
use Rattle.theory.specs.Theorems.{saturation_of}

module _ (v : Vocabulary) where
  -- none on the saturated table's summary means no match in the saturated table; by any way to map the nodes of triples with a roster
  abbrev pub NoneMeansNoneBy : (List ℕ → List Triple → List ℕ) → Type 0
  NoneMeansNoneBy mapped =
      (table roster : List ℕ) (q : Query) → Accepted v table roster
      → ask_outcome v (flat (condensed (mapped roster (saturation_of v table roster)) (saturation_of v table roster))) (mapped roster (saturation_of v table roster)) q ≡ accepted false
      → Match (saturation_of v table roster) q → ⊥

  abbrev pub NoneMeansNone : Type 0
  NoneMeansNone = NoneMeansNoneBy (map_of v)

  -- the same of the strong summary
  abbrev pub StrongNoneMeansNone : Type 0
  StrongNoneMeansNone = NoneMeansNoneBy (strong_map_of v)
