-- What opening returns and leaves in the lent lists.
-- Assumes nothing.
use Rattle.std.specs.declared.result.Result.{Result}
use Rattle.model.specs.declared.Refusal.{Refusal}
use Rattle.std.specs.Prelude.{ℕ, ◌/◌, ◌≡◌, Bool, not, ◌||◌, List, eqb, ltb}
use Rattle.std.specs.Borrow.{MutBor}
use denote.Triple.Both.{Both}
use Rattle.model.specs.declared.Vocabulary.{Vocabulary}
use Rattle.model.specs.Codes.{most_triples}
use Rattle.model.specs.Outcomes.{Outcome, wrong_size, outcome_of}
use Rattle.model.specs.Intake.{State, open_outcome, open_leaves}
use Rattle.intake_opening.specs.declared.Counts.{Counts}
use Rattle.intake_opening.specs.declared.Lists.{Lists}

-- the model's `wrong_lists`, by the lengths
unfoldable pub wrong_lengths : (n triples summary weights map : ℕ) → Bool
wrong_lengths n triples summary weights map =
    wrong_size n
    || (not (eqb map n) || (not (eqb (triples / 3) (summary / 3)) || (ltb most_triples (triples / 3) || not (eqb weights (triples / 3)))))

-- an intake's lists with two counts
abbrev pub state_with : (triples summary weights map : List ℕ) (held summarised : ℕ) → State
state_with triples summary weights map held summarised =
    record { triples = triples; summary = summary; weights = weights; map = map; held = held; summarised = summarised }

-- a list that is lent by `&mut`, as a contract names it
abbrev pub Lent : Type 0
Lent = Both (MutBor (List ℕ)) (MutBor (List ℕ))

-- an intake as a call finds it in the lent lists and two counts, and as the call leaves it
abbrev pub at_entry : Lent → Lent → Lent → Lent → ℕ → ℕ → State
at_entry triples summary weights map = state_with triples.entry.now summary.entry.now weights.entry.now map.entry.now

abbrev pub at_exit : Lent → Lent → Lent → Lent → ℕ → ℕ → State
at_exit triples summary weights map = state_with triples.exit.now summary.exit.now weights.exit.now map.exit.now

-- an intake in its lists and its record of counts
abbrev pub state_in : Lists → Counts → State
state_in l c = state_with l.triples.now l.summary.now l.weights.now l.map.now c.held c.summarised

-- these are the lists that were lent as those
pub record SameLists (l l' : Lists) : Type 0 where
  pub triples : l'.triples.ghost_name ≡ l.triples.ghost_name
  pub summary : l'.summary.ghost_name ≡ l.summary.ghost_name
  pub weights : l'.weights.ghost_name ≡ l.weights.ghost_name
  pub map : l'.map.ghost_name ≡ l.map.ghost_name

module _ (v : Vocabulary) where
  -- the answer, and the four lists after the call, whatever the counts are
  pub record OpenCall (roster triples summary weights map : List ℕ) (r : Result (Unit {0}) Refusal) (triples' summary' weights' map' : List ℕ) : Type 0 where
    pub answer : (held summarised : ℕ) → outcome_of r ≡ open_outcome v roster (state_with triples summary weights map held summarised)
    pub in_triples : (held summarised : ℕ) → triples' ≡ (open_leaves v roster (outcome_of r) (state_with triples summary weights map held summarised)).triples
    pub in_summary : (held summarised : ℕ) → summary' ≡ (open_leaves v roster (outcome_of r) (state_with triples summary weights map held summarised)).summary
    pub in_weights : (held summarised : ℕ) → weights' ≡ (open_leaves v roster (outcome_of r) (state_with triples summary weights map held summarised)).weights
    pub in_map : (held summarised : ℕ) → map' ≡ (open_leaves v roster (outcome_of r) (state_with triples summary weights map held summarised)).map

  -- the whole call: its outcome, and the lists and counts after it
  pub record Opens (roster : List ℕ) (s : State) (outcome : Outcome (Unit {0})) (after : State) : Type 0 where
    pub answer : outcome ≡ open_outcome v roster s
    pub leaves : after ≡ open_leaves v roster outcome s
