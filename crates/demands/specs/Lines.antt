-- The lines of a subject, as a display shows them after a summarise.
-- Assumes nothing.
use Rattle.std.specs.Prelude.{ℕ, ◌≡◌, true, List}
use Rattle.std.specs.Borrow.{Bor}
use Rattle.model.specs.declared.Triple.{Triple}
use Rattle.model.specs.declared.Vocabulary.{Vocabulary}
use Rattle.model.specs.Lists.{filter}
use Rattle.model.specs.Triples.{triples, flat}
use Rattle.model.specs.Classes.{map_of, strong_map_of}
use Rattle.model.specs.Summary.{condensed}
use Rattle.subject_lines.specs.Lines.{has_subject, is_own, HandsBack}
use Rattle.demands.specs.Routes.{Lent, SummarisesBy}

module _ (v : Vocabulary) where
  -- Of a code that the map of an accepted summarise gives itself, all triples of the summary with that subject are handed back: the summary is
  -- lent as that call left it, cut to its triples, beside any table.
  abbrev pub LinesOfCallsBy : (List ℕ → List Triple → List ℕ) → Type 0
  LinesOfCallsBy mapped =
      (table roster : List ℕ) (l : Lent) (count : ℕ) (out map : List ℕ) → SummarisesBy v mapped table roster l count out map
      → (c : ℕ) (summary other r : Bor (List ℕ)) → summary.now ≡ out → is_own c map ≡ true → HandsBack c summary other map r
      → r.now ≡ flat (filter (has_subject c) (condensed (mapped roster (triples table)) (triples table)))

  abbrev pub LinesOfCalls : Type 0
  LinesOfCalls = LinesOfCallsBy (map_of v)

  abbrev pub StrongLinesOfCalls : Type 0
  StrongLinesOfCalls = LinesOfCallsBy (strong_map_of v)
