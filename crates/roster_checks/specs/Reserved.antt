-- The second half of check 2.
-- Assumes nothing.
use Rattle.std.specs.Prelude.{ℕ, Bool, not, List}
use Rattle.model.specs.declared.Vocabulary.{Vocabulary}
use Rattle.model.specs.Codes.{codes}
use Rattle.model.specs.Lists.{any}
use Rattle.model.specs.Roster.{unmarked}

-- 01, refusal 2: "a reserved code marked"
unfoldable pub marked : Vocabulary → List ℕ → Bool
marked v roster = any (λ c. not (unmarked roster c)) (codes v)
