-- A feed that no check refuses, answer by answer.
-- Assumes nothing.
use Prim.Native.Nat.{ℕ, ◌/◌, ◌<◌, ◌≤◌}
use mathlib.Core.Path.{◌≡◌, refl, sym, ◌∙◌, ap}
use mathlib.Core.Logic.{inl, inr}
use mathlib.Core.Bool.{Bool, true, false, cond}
use mathlib.Core.List.{List}
use native.Mathlib.Omega.{arith}
use lib.Dec.{leb}
use lib.ListN.{length}
use borrow.Author.Tests.{le-leb, lt-leb}
use Rattle.std.specs.declared.result.Result.TheVariants.{Ok, Err}
use Rattle.model.specs.declared.Triple.{Triple}
use Rattle.model.specs.declared.Refusal.TheVariants.{Full}
use Rattle.model.specs.declared.Reply.TheVariants.{NotNew}
use Rattle.model.specs.declared.Vocabulary.{Vocabulary}
use Rattle.model.specs.Triples.{slots, holds, place, insert}
use Rattle.model.specs.Lists.{any}
use Rattle.model.specs.Outcomes.{Outcome, refused, accepted, refusal_number, Answer, answer, Said, new, not_new, replied, zeroed, outcome_by, reply}
use Rattle.model.specs.Intake.{State, feeding, judged, after_saying, held_then, state_of, Valid, InAnyState}
use Rattle.lists.specs.Flat.{at, Cleared, Place}
use Rattle.lists.proofs.Search.{cleared-all}
use Rattle.intake_opening.specs.Opening.{state_with}
use Rattle.intake_insertion.specs.Places.{StandsAt}
use Rattle.intake_calls.specs.Calls.{Passing}
use Rattle.intake_calls.proofs.AnyState.{alters_nothing, alters-work}
use Rattle.intake_calls.proofs.Parts.{held-is, rising, holds-is, place_is}
use Rattle.intake_adding.specs.Adding.{AddCall}

module _ (v : Vocabulary) where
  module _ (roster triples sums weighed map₀ work : List ℕ) (held summarised : ℕ) (t : Triple) where
    abbrev s : State
    s = state_with triples sums weighed map₀ held summarised

    abbrev Takes : Outcome (Answer Said) → State → List ℕ → Type 0
    Takes = Passing v roster feeding s work t

    full : InAnyState s work (refused 7) s work
    unfolding zeroed any
    full = alters_nothing s work 7 refl

    judged-is : (a b : Bool) (H : List Triple) → holds t H ≡ a → leb (slots triples) (length H) ≡ b → judged (slots triples) H t
        ≡ cond a (accepted (answer not_new (place t H))) (cond b (refused 7) (accepted (answer new (place t H))))
    unfolding judged
    judged-is a b H p q = λ i. cond (p i) (accepted (answer not_new (place t H))) (cond (q i) (refused 7) (accepted (answer new (place t H))))

    held_then-new : (H : List Triple) (i : ℕ) → insert t H ≡ held_then (accepted (answer new i)) t H
    unfolding held_then after_saying
    held_then-new H i = refl

    -- more triples than slots: an intake altered by hand
    pub taken-over : length triples / 3 < held → Takes (replied (Err Full)) s work
    unfolding outcome_by reply refusal_number slots
    taken-over h =
        record {
          passes = inl refl;
          in_any_state = full;
          steps = λ H W. absurd (omega (arith, W.fits, held-is v roster triples sums weighed map₀ held summarised H W));
        }

    module _ (i : ℕ) (P : Place (at triples) 0 held t i) (r : Bool) (S : StandsAt triples held i t r) where
      answered : (x : Said) (H : List Triple) → Valid v roster s H → ◌≡◌ {A = Outcome (Answer Said)} (accepted (answer x i)) (accepted (answer x (place t H)))
      answered x H W = λ j. accepted (answer x (sym (place_is v roster triples sums weighed map₀ held summarised t i P r S H W) j))

      -- the triple is held
      pub taken-same : r ≡ true → (w : List ℕ) → Cleared work w 0 (length work) → Takes (replied (Ok (NotNew i))) s w
      unfolding outcome_by reply held_then after_saying
      taken-same e w C =
          record {
            passes = inr (answer not_new i, refl, refl);
            in_any_state = alters-work s work i P.high w (cleared-all work w (length work) C (omega arith));
            steps = λ H W. (answered not_new H W ∙ sym (judged-is true (leb (slots triples) (length H)) H (holds-is v roster triples sums weighed map₀ held summarised t i P r S true e H W) refl), W.is_state);
          }

      -- the intake is full
      pub taken-full : r ≡ false → length triples / 3 ≤ held → Takes (replied (Err Full)) s work
      unfolding outcome_by reply refusal_number held_then slots
      taken-full e h =
          record {
            passes = inl refl;
            in_any_state = full;
            steps = λ H W. (
              sym (judged-is false true H (holds-is v roster triples sums weighed map₀ held summarised t i P r S false e H W) (le-leb (length triples / 3) (length H) (omega (arith, held-is v roster triples sums weighed map₀ held summarised H W)))),
              W.is_state,
            );
          }

      -- the triple is new
      pub taken-new : r ≡ false → held < length triples / 3 → (o : Outcome (Answer Said)) (after : State) (w : List ℕ) → AddCall v roster s work t i o after w → Takes o after w
      unfolding slots
      taken-new e h o after w A = record { passes = A.passes; in_any_state = A.in_any_state; steps = steps }
        where
          steps : (H : List Triple) → Valid v roster s H
              → (o ≡ judged (slots triples) H t) × (after ≡ state_of v roster s (held_then o t H))
          steps H W =
              let q = holds-is v roster triples sums weighed map₀ held summarised t i P r S false e H W in
              let z = A.steps H W (P.bound (rising v roster triples sums weighed map₀ held summarised H W)) q in (
                z.0 ∙ answered new H W ∙ sym (judged-is false false H q (lt-leb (length triples / 3) (length H) (omega (arith, held-is v roster triples sums weighed map₀ held summarised H W)))),
                z.1 ∙ ap (state_of v roster s) (held_then-new H i ∙ ap (λ (x : Outcome (Answer Said)). held_then x t H) (sym z.0)),
              )
