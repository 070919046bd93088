-- The summary, its weights and the map made anew.
-- Assumes nothing.
use Rattle.std.specs.declared.result.Result.{Result}
use Rattle.std.specs.declared.result.Result.TheVariants.{Ok, Err}
use Rattle.std.proofs.Common.{◌≡◌, ℕ, ◌+◌, ◌*◌, ◌/◌, ◌<◌, ◌≤◌, List, [], length, sym, refl, ap, ◌∙◌, subst, arith}
use mathlib.Core.List.{Memᴰ as Mem}
use lib.ListN.{length-replicate}
use Rattle.model.specs.declared.Triple.{Triple}
use Rattle.model.specs.declared.Refusal.{Refusal}
use Rattle.model.specs.declared.Vocabulary.{Vocabulary}
use Rattle.model.specs.Lists.{zeros, padded}
use Rattle.model.specs.Triples.{slots, listed}
use Rattle.model.specs.Order.{Rising}
use Rattle.model.specs.Partition.{label}
use Rattle.model.specs.Classes.{map_of}
use Rattle.model.specs.Summary.{moved, summary, weights_of, weights_by}
use Rattle.model.specs.Outcomes.{Outcome, accepted, outcome_by, outcome_of}
use Rattle.theory.specs.Tables.{Below}
use Rattle.theory.proofs.Lists.{length-tabulate, mem-tabulate}
use Rattle.theory.proofs.Checks.{no_checks, not_accepted}
use Rattle.theory.proofs.Flat.{length-listed}
use Rattle.theory.proofs.Mapped.{length_map_of}
use Rattle.theory.proofs.Accepted.{below}
use Rattle.theory.proofs.Summaries.{condensed-rising, condensed-exact, condensed-length}
use Rattle.table_checks.proofs.Laws.{enough, left_after}
use Rattle.lists.specs.Flat.{at, RisingPart}
use Rattle.lists.proofs.Places.{rising-places}
use Rattle.builder.specs.Builder.{first}
use Rattle.summarise.specs.Condensed.{condensed_outcome, Condensed}
use Rattle.intake_weighing.specs.Weighing.{Weighable, Renewable, Renewed}
use Rattle.intake_insertion.proofs.Listed.{listed-first}

module _ (v : Vocabulary) (triples : List ℕ) (count : ℕ) (roster sums weighed map₀ work : List ℕ) (R : Renewable v triples count roster sums weighed map₀ work) where
  abbrev ts : List Triple
  ts = first triples count

  abbrev m : List ℕ
  m = map_of v roster ts

  abbrev us : List Triple
  us = summary v roster ts

  -- the summary has no more triples than there are
  few : length us ≤ count
  few = omega (arith, condensed-length m ts, length-tabulate (at triples) 0 count)

  few-enough : 3 * length us ≤ length sums
  few-enough = omega (arith, few, R.summary_room)

  ok : condensed_outcome m ts sums ≡ accepted (length us)
  unfolding slots
  ok = enough [] (length sums / 3) (length us) no_checks (omega (arith, few-enough))

  module _ (r : Result ℕ Refusal) (sums' map' work' : List ℕ) (C : Condensed m ts sums map₀ work r sums' map' work') where
    pub renewed_never : (q : Refusal) → r ≡ Err q → {P : Type 0} → P
    unfolding outcome_by
    renewed_never q e = absurd (not_accepted (ap outcome_of (sym e) ∙ C.answer ∙ ok))

    module _ (k : ℕ) (e : r ≡ Ok k) where
      answer-is : ◌≡◌ {A = Outcome ℕ} (accepted k) (accepted (length us))
      unfolding outcome_by
      answer-is = ap outcome_of (sym e) ∙ C.answer ∙ ok

      k-is : k ≡ length us
      k-is = let q = answer-is in cc

      sums_is : sums' ≡ listed (length sums) us
      sums_is = C.in_result ∙ left_after _ _ _ _ ok

      map_is : map' ≡ m
      map_is = C.in_map ∙ left_after _ _ _ _ ok

      first-is : first sums' k ≡ us
      first-is = ap (first sums') k-is ∙ listed-first sums' (length sums) us sums_is few-enough

      sums_size : length sums' ≡ length sums
      sums_size = ap {B = ℕ} (λ (x : List ℕ). length x) sums_is ∙ length-listed (length sums) us few-enough

      map_size : length map' ≡ length roster
      map_size = ap {B = ℕ} (λ (x : List ℕ). length x) map_is ∙ length_map_of v roster ts

      work_is : work' ≡ zeros (length work)
      work_is = C.in_work ∙ left_after _ _ _ _ ok

      work_size : length work' ≡ length work
      unfolding zeros
      work_size = ap {B = ℕ} (λ (x : List ℕ). length x) work_is ∙ length-replicate {A = ℕ} (length work) 0

      -- the new summary can be weighed
      pub renewed_weighable : Weighable triples count map' sums' k (length weighed) (length work')
      renewed_weighable =
          record {
            places = R.places;
            most = R.most;
            below = λ i h. subst (λ (n : ℕ). Below n (at triples i)) (sym map_size) (below v roster ts R.right (at triples i) (member i h));
            fits = omega (arith, k-is, few-enough, sums_size);
            room = omega (arith, k-is, few, R.weights_room);
            few = omega (arith, k-is, few, R.most);
            noted = omega (arith, map_size, work_size, R.work_size);
            rising = λ i j a b d. rises i j a b (omega arith);
            images = λ i h. subst (Mem (moved (label map') (at triples i))) (sym first-is) (image i h);
          }
        where
          member : (i : ℕ) → i < count → Mem (at triples i) ts
          member i h = mem-tabulate (at triples) 0 count i (omega arith) (omega arith)

          rises : RisingPart (at sums') 0 (0 + k)
          rises = rising-places (at sums') 0 k (subst Rising (sym first-is) (condensed-rising m ts))

          image : (i : ℕ) → i < count → Mem (moved (label map') (at triples i)) us
          image i h =
              subst (λ (x : List ℕ). Mem (moved (label x) (at triples i)) us) (sym map_is)
              ((condensed-exact m ts (moved (label m) (at triples i))).1 (at triples i, member i h, refl))

      -- with the weights of all its triples
      pub renewed_all : (w z : List ℕ) → (w ≡ padded (length weighed) (weights_of map' ts (first sums' k))) × (z ≡ zeros (length work'))
          → Renewed v roster ts sums weighed work k sums' w map' z
      unfolding weights_by
      renewed_all w z q =
          record {
            answer = k-is;
            in_summary = sums_is;
            in_weights = q.0 ∙ (λ i. padded (length weighed) (weights_of (map_is i) ts (first-is i)));
            in_map = map_is;
            in_work = q.1 ∙ ap zeros work_size;
          }
