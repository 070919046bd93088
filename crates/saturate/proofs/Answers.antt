-- What saturate returns and leaves.
-- Assumes nothing.
use Prim.Native.Nat.{ℕ, ◌/◌, ◌<◌, ◌≤◌}
use mathlib.Core.Path.{◌≡◌, sym, ◌∙◌, ap, subst}
use mathlib.Core.Bool.{false}
use mathlib.Core.List.{List}
use native.Mathlib.Omega.{arith}
use lib.ListN.{length}
use Rattle.std.specs.declared.result.Result.{Result}
use Rattle.std.specs.declared.result.Result.TheVariants.{Ok, Err}
use Rattle.model.specs.declared.Triple.{Triple}
use Rattle.model.specs.declared.Refusal.{Refusal}
use Rattle.model.specs.declared.Refusal.TheVariants.{Slots}
use Rattle.model.specs.declared.Vocabulary.{Vocabulary}
use Rattle.model.specs.Lists.{zeros}
use Rattle.model.specs.Triples.{triples, slots, sorted, listed}
use Rattle.model.specs.Outcomes.{accepted, refusal_number, checked, Passes, outcome_by, outcome_of}
use Rattle.model.specs.Calls.{table_checks, saturated, saturate_outcome, saturate_leaves}
use Rattle.theory.proofs.Order.{sorted-rising, sorted-mem, mem-sorted, sorted-length}
use Rattle.theory.proofs.Lists.{length-tabulate}
use Rattle.theory.specs.Tables.{In, Right}
use Rattle.theory.proofs.Saturated.{saturation-exact, saturation_unique}
use Rattle.theory.proofs.Accepted.{type-below, below, in_codes}
use Rattle.table_checks.proofs.Laws.{passed, passed-right, refused-more, refused-left, too_few, enough, left-zeros, left_after}
use Rattle.lists.specs.Flat.{at, Cleared}
use Rattle.lists.proofs.Search.{cleared-all}
use Rattle.builder.specs.declared.Builder.{Builder}
use Rattle.builder.specs.declared.Full.{Full}
use Rattle.builder.specs.Builder.{first, Finished}
use Rattle.strata.specs.Strata.{Closed, FreeEnds}

module _ (v : Vocabulary) where
  -- what derive asks for
  pub free-ends : (table roster : List ℕ) (w : Result (Unit {0}) Refusal) → outcome_of w ≡ checked (table_checks v false table roster) tt → w ≡ (Ok tt) → FreeEnds v (triples table)
  free-ends table roster w e k t m =
      let passes : Passes (table_checks v false table roster) = passed v false table roster (subst (λ (z : Result (Unit {0}) Refusal). outcome_of z ≡ checked (table_checks v false table roster) tt) k e) in
      let codes = in_codes v roster (triples table) (passed-right v false table roster passes) t m in
      (codes.subject_free, codes.object_free)

  module _ (table roster l : List ℕ) where
    abbrev Answers : Result ℕ Refusal → List ℕ → Type 0
    Answers r m = (outcome_of r ≡ saturate_outcome v table roster l) × (m ≡ saturate_leaves v table roster l)

    -- the verdict of the checks
    abbrev Is : Result (Unit {0}) Refusal → Type 0
    Is w = outcome_of w ≡ checked (table_checks v false table roster) tt

    pub answer-refused : (w : Result (Unit {0}) Refusal) (r : Refusal) → Is w → w ≡ Err r → Answers (Err r) l
    unfolding outcome_by saturate_outcome saturate_leaves
    answer-refused w r e k =
        let z : Is (Err r) = subst Is k e in
        let q = refused-more v false table roster r z _ _ in
        (sym q, sym (refused-left v false table roster r z _ q _ _))

    module _ (w : Result (Unit {0}) Refusal) (e : Is w) (k : w ≡ (Ok tt)) where
      passes : Passes (table_checks v false table roster)
      passes = passed v false table roster (subst Is k e)

      right : Right v roster (triples table)
      right = passed-right v false table roster passes

      module _ (m : List ℕ) where
        pub answer-slots : (y : Full) → Closed v (In (triples table)) l m (Err y) → (n : List ℕ) → Cleared m n 0 (length m) → Answers (Err Slots) n
        unfolding outcome_by refusal_number saturate_outcome saturate_leaves saturated slots
        answer-slots y C n z =
            let sat = saturated v table roster in
            let long : length l / 3 < length sat = C.over sat (λ u d. (saturation-exact v (length roster) (type-below right) (triples table) (below v roster (triples table) right) u).1 d) in
            let q = too_few (table_checks v false table roster) (length l / 3) (length sat) passes long in
            (sym q, cleared-all m n (length m) z (omega arith) ∙ ap zeros C.size ∙ sym (left-zeros _ _ _ q))

        module _ (b : Builder) (C : Closed v (In (triples table)) l m (Ok b)) (n : List ℕ) (r : ℕ) (F : Finished m n b.filled r) where
          is-saturation : sorted (first m b.filled) ≡ saturated v table roster
          unfolding saturated
          is-saturation =
              saturation_unique v (length roster) (type-below right) (triples table) (sorted (first m b.filled)) (below v roster (triples table) right) (sorted-rising _)
              (λ t. let x = C.exact t in (λ k. x.0 (sorted-mem t _ k), λ d. mem-sorted t _ (x.1 d)))

          count-is : r ≡ length (saturated v table roster)
          count-is = F.count ∙ ap {B = ℕ} (λ (x : List Triple). length x) is-saturation

          pub answer-count : Answers (Ok r) n
          unfolding outcome_by saturate_outcome saturate_leaves slots
          answer-count =
              let sat = saturated v table roster in
              let few = sorted-length (first m b.filled) in
              let size = length-tabulate (at m) 0 b.filled in
              let fits : length sat ≤ length l / 3 = omega (arith, count-is, F.count, few, size, C.room, C.size) in
              let q = enough (table_checks v false table roster) (length l / 3) (length sat) passes fits in
              (ap (λ (k : ℕ). accepted k) count-is ∙ sym q, F.list ∙ (λ i. listed (C.size i) (is-saturation i)) ∙ sym (left_after _ _ _ _ q))
