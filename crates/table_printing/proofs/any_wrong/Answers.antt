use mathlib.Core.Path.{sym, ◌∙◌}
use Rattle.theory.proofs.Runs.{none-start, none-step, one_found, none_found}
use Rattle.site_form.specs.Printing.{is_wrong}
use Rattle.site_report.specs.Lines.{answer_at}
use Rattle.table_printing.proofs.Answers.{wrong-by}
use Rattle.table_printing.proofs.any_wrong.Goals as goal

pub loop-i-init : goal.loop-i-init
loop-i-init c = none-start _ _ _

pub returns-then-is_wrong : goal.returns-then-is_wrong
returns-then-is_wrong c = wrong-by _ _
    (one_found is_wrong (answer_at c.args.answers) _ _ c.loop-i-test.true (sym c.is_wrong.ensures ∙ c.if-is_wrong.true))

pub loop-i-preserved : goal.loop-i-preserved
loop-i-preserved c = none-step _ _ _ _ c.loop-i.invariant c.loop-i-test.true (sym c.is_wrong.ensures ∙ c.if-is_wrong.false)

pub returns : goal.returns
returns c = wrong-by _ _ (none_found _ _ _ _ c.loop-i.invariant c.loop-i-test.false)
