-- What taking out a triple that is held promises.
-- Assumes nothing.
use Rattle.std.specs.Prelude.{ℕ, ◌≡◌, List}
use Rattle.model.specs.declared.Triple.{Triple}
use Rattle.model.specs.declared.Vocabulary.{Vocabulary}
use Rattle.model.specs.Triples.{without}
use Rattle.model.specs.Outcomes.{Outcome, accepted, Answer, answer, Said, removed}
use Rattle.model.specs.Intake.{State, removing, OwnOrAccepted, state_of, Valid, InAnyState}
use Rattle.lists.specs.Flat.{at}
use Rattle.std.specs.declared.option.Option.{Option}
use Rattle.std.specs.declared.option.Option.TheVariants.{None, Some}
use Rattle.intake_insertion.specs.Places.{KnownAt}
use Rattle.intake_ends.specs.Ends.{EndsKept}

module _ (v : Vocabulary) where
  -- where a place is answered, the others keep t's ends, and its image stands there
  unfoldable pub KeptImage : (roster triples : List ℕ) (held i : ℕ) (summary : List ℕ) (n : ℕ) (map : List ℕ) (t : Triple) → Option ℕ → Type 0
  KeptImage roster triples held i summary n map t None = Unit {0}
  KeptImage roster triples held i summary n map t (Some j) = EndsKept v roster (at triples) held i t × KnownAt summary n map t j

  module _ (roster : List ℕ) (s : State) (work : List ℕ) where
    -- the triple at place i
    pub record CutCall (i : ℕ) (outcome : Outcome (Answer Said)) (after : State) (work-after : List ℕ) : Type 0 where
      pub passes : OwnOrAccepted removing outcome
      pub in_any_state : InAnyState s work outcome after work-after
      pub steps : (H : List Triple) → Valid v roster s H
          → (outcome ≡ accepted (answer removed i)) × (after ≡ state_of v roster s (without (at s.triples i) H))
