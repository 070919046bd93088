-- Demand 3 over opening, feeding and removing, as their contracts state them, and what the weights of an intake's summary come to.
-- Assumes nothing.
use Rattle.std.specs.Prelude.{ℕ, ◌+◌, ◌≡◌, false, List}
use Rattle.model.specs.declared.Triple.{Triple}
use Rattle.model.specs.declared.Vocabulary.{Vocabulary}
use Rattle.model.specs.Lists.{how_many, total}
use Rattle.model.specs.Outcomes.{Outcome, accepted, Answer, Said}
use Rattle.model.specs.Intake.{State, Kind, Call, is_new, is_removed, alters, Promises, Run}
use Rattle.intake_opening.specs.Opening.{Opens}
use Rattle.theory.specs.Theorems.{Plain}

module _ (v : Vocabulary) where
  -- 01: "That is a single claim about the whole list of feeds, not one for each feed."
  -- 02: "After any mixture of feeding and removing from opening, each call lent what 01 lends a feed, .."
  -- An opening that is accepted, then any list of feeds and removals, each lent what the call before left: `Opens` is the contract of `open`, and
  -- `Run` asks of every call its contract, `Promises` of its kind.
  abbrev pub ListOfCalls : Type 0
  ListOfCalls =
      (roster : List ℕ) (before empty end : State) (cs : List Call) (os : List (Outcome (Answer Said)))
      → Opens v roster before (accepted tt) empty → Run v roster empty cs os end → Plain v roster before cs os end

  -- 02: "the weights add up to accepted new triples less removed ones". Over the whole list of calls, refused ones and repeats included: a feed
  -- counts exactly if it was answered "new", a removal exactly if it was answered "removed".
  abbrev pub WeightsAddUp : Type 0
  WeightsAddUp =
      (roster : List ℕ) (before empty end : State) (cs : List Call) (os : List (Outcome (Answer Said)))
      → Opens v roster before (accepted tt) empty → Run v roster empty cs os end → total end.weights + how_many is_removed os ≡ how_many is_new os

  -- 02: "A repeat alters no count." Nor does a refusal of either kind of call, in any state, altered by hand or not.
  abbrev pub RepeatAltersNoWeight : Type 0
  RepeatAltersNoWeight =
      (roster : List ℕ) (kind : Kind) (s after : State) (work work-after : List ℕ) (t : Triple) (outcome : Outcome (Answer Said))
      → Promises v roster kind s work t outcome after work-after → alters outcome ≡ false → after.weights ≡ s.weights
