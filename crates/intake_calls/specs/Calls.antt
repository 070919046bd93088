-- What the steps of a call promise, a feed or a removal; the call itself promises the model's `Promises`.
-- Assumes nothing.
use Rattle.std.specs.declared.result.Result.{Result}
use Rattle.model.specs.declared.Refusal.{Refusal}
use Rattle.std.specs.Prelude.{ℕ, ◌*◌, ◌/◌, ◌≤◌, ◌≡◌, true, false, List, length}
use Rattle.model.specs.declared.Triple.{Triple}
use Rattle.model.specs.declared.Reply.{Reply}
use Rattle.model.specs.declared.Vocabulary.{Vocabulary}
use Rattle.model.specs.Codes.{wrong_words, most_triples}
use Rattle.model.specs.Triples.{slots}
use Rattle.model.specs.Roster.{covers_triple, wrong_roster, wrong_triple}
use Rattle.model.specs.Outcomes.{Outcome, Answer, Said, checked, wrong_size, outcome_of}
use Rattle.model.specs.Intake.{State, Kind, OwnOrAccepted, judged_as, held_then, state_of, intake_checks, Valid, InAnyState}
use Rattle.intake_opening.specs.Opening.{state_with}
use Rattle.intake_opening.specs.declared.Lists.{Lists}
use Rattle.intake_calls.specs.declared.CalledCounts.{CalledCounts}

-- an answer with the counts after it
abbrev pub with_counts : Result Reply Refusal → ℕ → ℕ → CalledCounts
with_counts answer held summarised = record { answer = answer; counts = record { held = held; summarised = summarised } }

module _ (v : Vocabulary) where
  -- what the checks 1, 10, 2, 3, 4 of a call decide, whatever the counts are
  abbrev pub CallVerdict : (roster triples summary weights map work : List ℕ) → Triple → Result (Unit {0}) Refusal → Type 0
  CallVerdict roster triples summary weights map work t r =
      (held summarised : ℕ) → outcome_of r ≡ checked (intake_checks v roster (state_with triples summary weights map held summarised) t (length work)) tt

  -- the checks pass
  pub record Ready (roster triples summary weights map work : List ℕ) (t : Triple) : Type 0 where
    pub size : wrong_size (length roster) ≡ false
    pub words : wrong_words v (length roster) ≡ false
    pub marks : wrong_roster v roster ≡ false
    pub right : wrong_triple v (length roster) t ≡ false
    pub cover : covers_triple v roster t ≡ true
    pub map_size : length map ≡ length roster
    pub equal : length triples / 3 ≡ length summary / 3
    pub most : length triples / 3 ≤ most_triples
    pub weights_size : length weights ≡ length triples / 3
    pub work_size : length work ≡ 2 * length roster

  -- the same of the lists in a struct
  abbrev pub ReadyLists : (roster : List ℕ) → Lists → (work : List ℕ) → Triple → Type 0
  ReadyLists roster l work t = Ready roster l.triples.now l.summary.now l.weights.now l.map.now work t

  -- a call that no check refuses
  module _ (roster : List ℕ) (kind : Kind) (s : State) (work : List ℕ) (t : Triple) where
    pub record Passing (outcome : Outcome (Answer Said)) (after : State) (work-after : List ℕ) : Type 0 where
      pub passes : OwnOrAccepted kind outcome
      pub in_any_state : InAnyState s work outcome after work-after
      pub steps : (H : List Triple) → Valid v roster s H
          → (outcome ≡ judged_as kind (slots s.triples) H t) × (after ≡ state_of v roster s (held_then outcome t H))
