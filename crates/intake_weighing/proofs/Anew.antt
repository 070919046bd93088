-- The state after summary, weights and map were made anew of the first triples of a list: its sizes, and what it holds.
-- Assumes nothing.
use Rattle.std.proofs.Common.{◌≡◌, ℕ, ◌≤◌, List, length, sym, ap, ◌∙◌, arith}
use Rattle.model.specs.declared.Triple.{Triple}
use Rattle.model.specs.declared.Vocabulary.{Vocabulary}
use Rattle.model.specs.Lists.{padded}
use Rattle.model.specs.Triples.{listed}
use Rattle.model.specs.Classes.{map_of}
use Rattle.model.specs.Summary.{summary, weights}
use Rattle.model.specs.Intake.{State, Kept, state_of}
use Rattle.theory.proofs.Lists.{length-tabulate}
use Rattle.theory.proofs.Flat.{length-padded, length-listed}
use Rattle.theory.proofs.Mapped.{length_map_of}
use Rattle.theory.proofs.Summaries.{condensed-length}
use Rattle.theory.proofs.Weights.{weights-length}
use Rattle.lists.specs.Flat.{at}
use Rattle.builder.specs.Builder.{first}
use Rattle.intake_opening.specs.Opening.{state_with}
use Rattle.intake_weighing.specs.Weighing.{Renewable, Renewed}

module _ (v : Vocabulary) (roster m sums weighed map₀ work : List ℕ) (count : ℕ) (A : Renewable v m count roster sums weighed map₀ work)
    (k : ℕ) (sums' weighed' map' work' : List ℕ) (C : Renewed v roster (first m count) sums weighed work k sums' weighed' map' work')
    (triples : List ℕ) (held summarised : ℕ) (size : length m ≡ length triples) where
  abbrev ts : List Triple
  ts = first m count

  abbrev s : State
  s = state_with triples sums weighed map₀ held summarised

  few : length (summary v roster ts) ≤ count
  few = omega (arith, condensed-length (map_of v roster ts) ts, length-tabulate (at m) 0 count)

  pub few-lines : k ≤ count
  few-lines = omega (arith, few, C.answer)

  pub anew_kept : Kept s (state_with m sums' weighed' map' count k)
  anew_kept =
      record {
        in_triples = size;
        in_summary = ap {B = ℕ} (λ (x : List ℕ). length x) C.in_summary ∙ length-listed (length sums) (summary v roster ts) (omega (arith, few, A.summary_room));
        in_weights = ap {B = ℕ} (λ (x : List ℕ). length x) C.in_weights
            ∙ length-padded (length weighed) (weights v roster ts) (omega (arith, weights-length (map_of v roster ts) ts, few, A.weights_room));
        in_map = ap {B = ℕ} (λ (x : List ℕ). length x) C.in_map ∙ length_map_of v roster ts ∙ sym A.map_size;
      }

  -- where the first triples are K and the list has nothing else
  pub anew_state : (K : List Triple) → ts ≡ K → m ≡ listed (length triples) K → count ≡ length K → state_with m sums' weighed' map' count k ≡ state_of v roster s K
  unfolding state_of
  anew_state K p q n =
      let x2 : sums' ≡ listed (length sums) (summary v roster K) = C.in_summary ∙ ap (λ (z : List Triple). listed (length sums) (summary v roster z)) p in
      let x3 : weighed' ≡ padded (length weighed) (weights v roster K) = C.in_weights ∙ ap (λ (z : List Triple). padded (length weighed) (weights v roster z)) p in
      let x4 : map' ≡ map_of v roster K = C.in_map ∙ ap (map_of v roster) p in
      let x6 : k ≡ length (summary v roster K) = C.answer ∙ ap {B = ℕ} (λ (z : List Triple). length (summary v roster z)) p in
      λ j. record { triples = q j; summary = x2 j; weights = x3 j; map = x4 j; held = n j; summarised = x6 j }
