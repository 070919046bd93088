use mathlib.Core.Path.{refl, ap, ◌∙◌}
use mathlib.Core.Bool.{not}
use borrow.Author.Tests.{ne_eqb}
use Rattle.checks.proofs.Wrong.{work_odd, work-half}
use Rattle.checks.proofs.work_wrong.Goals as goal

pub returns-then-work-ne0 : goal.returns-then-work-ne0
returns-then-work-ne0 c = ap not (ne_eqb _ _ c.if-work-ne0.true) ∙ work_odd _ _ c.if-work-ne0.true

pub returns-else-work-ne0 : goal.returns-else-work-ne0
returns-else-work-ne0 c = work-half _ _ c.if-work-ne0.false _ refl
