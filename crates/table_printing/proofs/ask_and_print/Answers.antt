use mathlib.Core.Path.{sym, ◌∙◌}
use Rattle.table_printing.proofs.Reports.{room-found, asks-refused, asks-accepted}
use Rattle.table_printing.proofs.ask_and_print.Goals as goal

pub returns-then-any_wrong : goal.returns-then-any_wrong
returns-then-any_wrong c = asks-refused _ _ _ _ c.ask_all-answers.ensures _ _ _ (sym c.any_wrong.ensures ∙ c.if-any_wrong.true) c.refuse.ensures

pub put_report-requires : goal.put_report-requires
put_report-requires c = (c.requires.0, c.requires.1, c.requires.2, room-found _ _ _ _ c.ask_all-answers.ensures c.requires.3)

pub returns : goal.returns
returns c = asks-accepted _ _ _ _ c.ask_all-answers.ensures _ _ _ (sym c.any_wrong.ensures ∙ c.if-any_wrong.false)
    c.put_report.ensures
