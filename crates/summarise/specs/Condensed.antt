-- What summarising triples under a map of their nodes returns and leaves, and the whole call.
-- Assumes nothing.
use Rattle.std.specs.declared.result.Result.{Result}
use Rattle.model.specs.declared.Refusal.{Refusal}
use Rattle.std.specs.Prelude.{ℕ, ◌≡◌, List, [], ◌∷◌, ltb, length}
use Rattle.model.specs.declared.Triple.{Triple}
use Rattle.model.specs.declared.Vocabulary.{Vocabulary}
use Rattle.model.specs.Lists.{zeros}
use Rattle.model.specs.Triples.{triples, slots, listed}
use Rattle.model.specs.Classes.{map_of, strong_map_of}
use Rattle.model.specs.Summary.{condensed}
use Rattle.model.specs.Outcomes.{Outcome, check, checked, left, outcome_of}
use Rattle.model.specs.Calls.{summarise_outcome_by, summarise_leaves_by}

module _ (m : List ℕ) (ts : List Triple) where
  -- check 5 by itself
  abbrev pub condensed_outcome : List ℕ → Outcome ℕ
  condensed_outcome result = checked (check 5 (ltb (slots result) (length (condensed m ts))) ∷ []) (length (condensed m ts))

  -- the images under the map m, which stands finished in the list lent for it
  pub record Imaged (result : List ℕ) (r : Result ℕ Refusal) (result' map' : List ℕ) : Type 0 where
    pub answer : outcome_of r ≡ condensed_outcome result
    pub in_result : result' ≡ left (condensed_outcome result) result (listed (length result) (condensed m ts))
    pub in_map : map' ≡ left (condensed_outcome result) m m

  -- the map m made in the list lent for it, then the images
  pub record Condensed (result map work : List ℕ) (r : Result ℕ Refusal) (result' map' work' : List ℕ) : Type 0 where
    pub answer : outcome_of r ≡ condensed_outcome result
    pub in_result : result' ≡ left (condensed_outcome result) result (listed (length result) (condensed m ts))
    pub in_map : map' ≡ left (condensed_outcome result) map m
    pub in_work : work' ≡ left (condensed_outcome result) work (zeros (length work))

-- summarise by a map m: the answer, and the three lists after the call
pub record SummariseCallBy (v : Vocabulary) (m table roster result map work : List ℕ) (r : Result ℕ Refusal) (result' map' work' : List ℕ) : Type 0 where
  pub answer : outcome_of r ≡ summarise_outcome_by v m table roster result map work
  pub leaves : record { result = result'; map = map'; work = work' } ≡ summarise_leaves_by v m table roster result map work

-- 01, summarise
abbrev pub SummariseCall : Vocabulary → List ℕ → List ℕ → List ℕ → List ℕ → List ℕ → Result ℕ Refusal → List ℕ → List ℕ → List ℕ → Type 0
SummariseCall v table roster result map work r result' map' work' =
    SummariseCallBy v (map_of v roster (triples table)) table roster result map work r result' map' work'

-- 02, summarise by strong equivalence
abbrev pub SummariseStrongCall : Vocabulary → List ℕ → List ℕ → List ℕ → List ℕ → List ℕ → Result ℕ Refusal → List ℕ → List ℕ → List ℕ → Type 0
SummariseStrongCall v table roster result map work r result' map' work' =
    SummariseCallBy v (strong_map_of v roster (triples table)) table roster result map work r result' map' work'
