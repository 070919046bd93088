-- What taking in a triple that is not held promises.
-- Assumes nothing.
use Rattle.std.specs.Prelude.{ℕ, ◌≡◌, false, List}
use Rattle.model.specs.declared.Triple.{Triple}
use Rattle.model.specs.declared.Vocabulary.{Vocabulary}
use Rattle.model.specs.Triples.{holds, insert}
use Rattle.model.specs.Outcomes.{Outcome, accepted, Answer, answer, Said, new}
use Rattle.model.specs.Intake.{State, feeding, OwnOrAccepted, state_of, Valid, InAnyState}
use Rattle.lists.specs.Flat.{at, Bound}

module _ (v : Vocabulary) where
  module _ (roster : List ℕ) (s : State) (work : List ℕ) (t : Triple) where
    -- a new triple with its place
    pub record AddCall (i : ℕ) (outcome : Outcome (Answer Said)) (after : State) (work-after : List ℕ) : Type 0 where
      pub passes : OwnOrAccepted feeding outcome
      pub in_any_state : InAnyState s work outcome after work-after
      pub steps : (H : List Triple) → Valid v roster s H → Bound (at s.triples) 0 s.held t i → holds t H ≡ false
          → (outcome ≡ accepted (answer new i)) × (after ≡ state_of v roster s (insert t H))
