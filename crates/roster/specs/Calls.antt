-- The contract of own roster.
-- Assumes nothing.
use Rattle.std.specs.declared.result.Result.{Result}
use Rattle.model.specs.declared.Refusal.{Refusal}
use Rattle.std.specs.Prelude.{ℕ, ◌≡◌, List}
use Rattle.model.specs.declared.Vocabulary.{Vocabulary}
use Rattle.model.specs.Outcomes.{outcome_by, outcome_of}
use Rattle.model.specs.Calls.{own_roster_outcome, own_roster_leaves}

module _ (v : Vocabulary) where
  -- what own roster returns, and what it leaves in the lent roster
  pub record OwnRosterCall (table roster : List ℕ) (r : Result (Unit {0}) Refusal) (after : List ℕ) : Type 0 where
    pub answer : outcome_of r ≡ own_roster_outcome v table roster
    pub leaves : after ≡ own_roster_leaves v table roster
