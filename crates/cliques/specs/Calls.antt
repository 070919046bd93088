-- The contract of cliques.
-- Assumes nothing.
use Rattle.std.specs.declared.result.Result.{Result}
use Rattle.model.specs.declared.Refusal.{Refusal}
use Rattle.std.specs.Prelude.{ℕ, ◌≡◌, List}
use Rattle.model.specs.declared.Vocabulary.{Vocabulary}
use Rattle.model.specs.declared.Side.TheVariants.{Source as source, Target as target}
use Rattle.model.specs.Outcomes.{outcome_by, outcome_of}
use Rattle.model.specs.Calls.{cliques_outcome, cliques_leave}

module _ (v : Vocabulary) where
  -- what cliques returns, and what it leaves in the two lent lists
  pub record CliquesCall (table roster sources targets : List ℕ) (r : Result (Unit {0}) Refusal) (after-sources after-targets : List ℕ) : Type 0 where
    pub answer : outcome_of r ≡ cliques_outcome v table roster sources targets
    pub in_sources : after-sources ≡ cliques_leave v source table roster sources targets
    pub in_targets : after-targets ≡ cliques_leave v target table roster sources targets
