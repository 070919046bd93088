-- The bound on a summary's triples, over the call.
-- Assumes nothing.
use Prim.Native.Nat.{ℕ, ◌≤◌}
use mathlib.Core.Path.{◌≡◌, sym, ◌∙◌, ap, subst}
use mathlib.Core.Logic.{⊎_elim}
use mathlib.Core.Bool.{Bool, true≢false, not, ◌||◌}
use mathlib.Core.List.{List, [], ◌∷◌}
use native.Mathlib.Omega.{arith}
use lib.Dec.{eqb, ltb}
use lib.ListN.{length}
use Rattle.model.specs.declared.Vocabulary.{Vocabulary}
use Rattle.model.specs.Codes.{most_triples, wrong_words}
use Rattle.model.specs.Lists.{any}
use Rattle.model.specs.Triples.{triples, slots}
use Rattle.model.specs.Roster.{covers, wrong_roster, wrong_codes}
use Rattle.model.specs.Summary.{summary}
use Rattle.model.specs.Outcomes.{Outcome, accepted, refused, check, checked, decided, zeroed, wrong_size, wrong_length, wrong_work}
use Rattle.model.specs.Calls.{table_checks, Accepted, summarise_outcome_by}
use Rattle.theory.proofs.Checks.{decided_cases, not_accepted}
use Rattle.theory.proofs.Theorems.{summary_bounded, part_bounded, routes-accepted}
use Rattle.table_checks.proofs.Laws.{kept_by, refused-any, enough, passed-accepted}
use Rattle.demands.specs.Slots.{NeverFive, PartNeverFive, SlotsSuffice, SaturationSlots}
use Rattle.demands.proofs.Routes.{sat-is, accepted_calls}

same_number : {r n : ℕ} → ◌≡◌ {A = Outcome ℕ} (refused r) (refused n) → r ≡ n
same_number e = cc

module _ (v : Vocabulary) where
  -- the checks before 5 do not refuse with 5
  not_five : (lengths : Bool) (table roster : List ℕ) → ◌≡◌ {A = Outcome (Unit {0})} (checked (table_checks v lengths table roster) tt) (refused 5) → ⊥
  unfolding table_checks decided zeroed any
  not_five lengths table roster e =
      true≢false
      (kept_by (wrong_size (length roster) || (wrong_length (length table) || lengths)) (wrong_words v (length roster)) (wrong_roster v roster)
      (wrong_codes v (length roster) (triples table)) (not (covers v roster (triples table))) 5 (sym e))

  pub never_five : NeverFive v
  unfolding summarise_outcome_by
  never_five table roster result map work few e =
      let lengths = not (eqb (length map) (length roster)) || wrong_work (length roster) (length work) in
      let n = length (summary v roster (triples table)) in
      let checks = table_checks v lengths table roster in
      let last = check 5 (ltb (slots result) n) ∷ [] in
      ⊎_elim
      (λ w.
      let five : w.0 ≡ 5 = same_number (sym (refused-any checks last tt w.0 (accepted n) w.1) ∙ e) in
      not_five lengths table roster (w.1 ∙ ap (λ (r : ℕ). refused r) five))
      (λ h. not_accepted (sym e ∙ enough checks (slots result) n h (omega (arith, few, (summary_bounded v table roster (passed-accepted v lengths table roster h)).whole))))
      (decided_cases checks (accepted tt))

  pub part_never_five : PartNeverFive v
  part_never_five table part roster result map work among few =
      never_five part roster result map work (omega (arith, few, part_bounded v roster (triples part) (triples table) among))

  pub slots_suffice : SlotsSuffice v
  slots_suffice table roster l h long =
      (accepted_calls v table roster h).summarises l
      (record { map_size = long.map_size; work_size = long.work_size; room = omega (arith, long.room, (summary_bounded v table roster h).whole) })

  pub saturation_slots : SaturationSlots v
  saturation_slots table roster big count sat l h few long =
      let S = sat-is v table roster big sat count h in
      let accepts : Accepted v sat roster =
      subst (λ (xs : List ℕ). Accepted v xs roster) (sym S.is) ((routes-accepted v table roster S.accepts).saturation_accepted (subst (λ (n : ℕ). n ≤ most_triples) (sym S.counts) few)) in
      slots_suffice sat roster l accepts long
