-- The contract of the call `write`.
-- Assumes nothing.
use Rattle.std.specs.declared.result.Result.{Result}
use Rattle.model.specs.declared.Refusal.{Refusal}
use Rattle.std.specs.Prelude.{ℕ, ◌≡◌, List}
use Rattle.model.specs.declared.Vocabulary.{Vocabulary}
use Rattle.model.specs.Outcomes.{outcome_of}
use Rattle.site_form.specs.Writing.{write_outcome, write_list}

-- what the call returns and leaves
pub record WriteCall (v : Vocabulary) (n : ℕ) (table out : List ℕ) (r : Result ℕ Refusal) (out' : List ℕ) : Type 0 where
  pub outcome : outcome_of r ≡ write_outcome v n table out
  pub list : out' ≡ write_list v n table out
