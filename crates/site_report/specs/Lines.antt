-- The answers to the queries, by their places.
-- Assumes nothing.
use Rattle.std.specs.declared.result.Result.{Result}
use Rattle.std.specs.declared.result.Result.TheVariants.{Ok, Err}
use Rattle.model.specs.declared.Refusal.{Refusal}
use Rattle.std.specs.Prelude.{ℕ, Bool, List, get_or}
use Rattle.model.specs.Lists.{tabulate}
use Rattle.model.specs.Outcomes.{Outcome, outcome_by, outcome_of}
use Rattle.query.specs.declared.Asked.{Asked}
use Rattle.query.specs.declared.Asked.TheVariants.{Maybe}
use Rattle.query.specs.Ask.{asked}

-- the outcomes of the first answers
abbrev pub answer_at : List (Result Asked Refusal) → ℕ → Outcome Bool
answer_at answers i = asked (get_or answers i (Ok Maybe))

unfoldable pub answers_in : List (Result Asked Refusal) → ℕ → List (Outcome Bool)
answers_in answers n = tabulate (answer_at answers) 0 n
