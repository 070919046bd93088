-- A removal that no check refuses, answer by answer.
-- Assumes nothing.
use Prim.Native.Nat.{ℕ, ◌/◌, ◌<◌}
use mathlib.Core.Path.{◌≡◌, refl, sym, ◌∙◌, ap, subst}
use mathlib.Core.Logic.{inl}
use mathlib.Core.Bool.{Bool, true, false, cond}
use mathlib.Core.List.{List}
use native.Mathlib.Omega.{arith}
use lib.ListN.{length}
use Rattle.std.specs.declared.result.Result.TheVariants.{Err}
use Rattle.model.specs.declared.Triple.{Triple}
use Rattle.model.specs.declared.Refusal.TheVariants.{Missing}
use Rattle.model.specs.declared.Vocabulary.{Vocabulary}
use Rattle.model.specs.Triples.{slots, holds, place, without}
use Rattle.model.specs.Lists.{any}
use Rattle.model.specs.Outcomes.{Outcome, refused, accepted, refusal_number, Answer, answer, Said, removed, replied, zeroed, outcome_by, reply}
use Rattle.model.specs.Intake.{State, removing, judged_removal, after_saying, held_then, state_of, Valid, InAnyState}
use Rattle.lists.specs.Flat.{at, Place}
use Rattle.intake_opening.specs.Opening.{state_with}
use Rattle.intake_insertion.specs.Places.{StandsAt}
use Rattle.intake_calls.specs.Calls.{Ready, Passing}
use Rattle.intake_calls.proofs.AnyState.{alters_nothing}
use Rattle.intake_calls.proofs.Parts.{held-is, holds-is, place_is}
use Rattle.intake_cutting.specs.Cutting.{CutCall}

module _ (v : Vocabulary) (roster triples sums weighed map₀ work : List ℕ) (held summarised : ℕ) (t : Triple) where
  abbrev s : State
  s = state_with triples sums weighed map₀ held summarised

  abbrev TakesOut : Outcome (Answer Said) → State → List ℕ → Type 0
  TakesOut = Passing v roster removing s work t

  missing : InAnyState s work (refused 9) s work
  unfolding zeroed any
  missing = alters_nothing s work 9 refl

  judged-is : (b : Bool) (H : List Triple) → holds t H ≡ b → judged_removal H t ≡ cond b (accepted (answer removed (place t H))) (refused 9)
  unfolding judged_removal
  judged-is b H p = ap (λ (x : Bool). cond x (accepted (answer removed (place t H))) (refused 9)) p

  then_without : (H : List Triple) (i : ℕ) → without t H ≡ held_then (accepted (answer removed i)) t H
  unfolding held_then after_saying
  then_without H i = refl

  -- more triples than slots: an intake altered by hand
  pub out-over : length triples / 3 < held → TakesOut (replied (Err Missing)) s work
  unfolding outcome_by reply refusal_number slots
  out-over h =
      record {
        passes = inl refl;
        in_any_state = missing;
        steps = λ H W. absurd (omega (arith, W.fits, held-is v roster triples sums weighed map₀ held summarised H W));
      }

  module _ (i : ℕ) (P : Place (at triples) 0 held t i) (r : Bool) (S : StandsAt triples held i t r) where
    -- the triple is not held
    pub out-missing : r ≡ false → TakesOut (replied (Err Missing)) s work
    unfolding outcome_by reply refusal_number held_then
    out-missing e =
        record {
          passes = inl refl;
          in_any_state = missing;
          steps = λ H W. (sym (judged-is false H (holds-is v roster triples sums weighed map₀ held summarised t i P r S false e H W)), W.is_state);
        }

    module _ (e : r ≡ true) where
      -- the triple stands at its place
      pub out-low : i < held
      out-low = (S.here e).0

      there : at triples i ≡ t
      there = (S.here e).1

      pub out-ready : Ready v roster triples sums weighed map₀ work t → Ready v roster triples sums weighed map₀ work (at triples i)
      out-ready R = subst (Ready v roster triples sums weighed map₀ work) (sym there) R

      -- and is taken out
      pub out_cut : (o : Outcome (Answer Said)) (after : State) (w : List ℕ) → CutCall v roster s work i o after w → TakesOut o after w
      out_cut o after w C = record { passes = C.passes; in_any_state = C.in_any_state; steps = steps }
        where
          steps : (H : List Triple) → Valid v roster s H → (o ≡ judged_removal H t) × (after ≡ state_of v roster s (held_then o t H))
          steps H W =
              let z = C.steps H W in
              let k = place_is v roster triples sums weighed map₀ held summarised t i P r S H W in (
                z.0 ∙ (λ j. accepted (answer removed (sym k j))) ∙ sym (judged-is true H (holds-is v roster triples sums weighed map₀ held summarised t i P r S true e H W)),
                z.1 ∙ ap (state_of v roster s) (ap (λ (x : Triple). without x H) there ∙ then_without H i ∙ ap (λ (x : Outcome (Answer Said)). held_then x t H) (sym z.0)),
              )
