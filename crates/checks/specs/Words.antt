-- The two halves of check 10.
-- Assumes nothing.
use Rattle.std.specs.Prelude.{ℕ, Bool, leb}
use Rattle.model.specs.declared.Vocabulary.{Vocabulary}
use Rattle.model.specs.Codes.{codes, repeated}
use Rattle.model.specs.Lists.{any}

unfoldable pub over : Vocabulary → ℕ → Bool
over v n = any (λ c. leb n c) (codes v)

unfoldable pub repeats : Vocabulary → Bool
repeats v = repeated (codes v)
