use Rattle.std.proofs.Common.{sym, ◌∙◌}
use Rattle.site_reader.proofs.Whole.{read_passed, read_refused}
use Rattle.site_reader.proofs.read.Goals as goal

pub returns-then-is_err : goal.returns-then-is_err
returns-then-is_err c = read_refused _ _ _ (sym c.is_err.ensures.value ∙ c.if-is_err.true) _ c.read_forms-answer.ensures _ (c.fill.ensures.after (λ y e. e))

pub returns-else-is_err : goal.returns-else-is_err
returns-else-is_err c = read_passed _ _ _ (sym c.is_err.ensures.value ∙ c.if-is_err.false) _ c.read_forms-answer.ensures
