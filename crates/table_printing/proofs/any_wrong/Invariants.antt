use Rattle.theory.proofs.Runs.{NoneYet}
use Rattle.site_form.specs.Printing.{is_wrong}
use Rattle.site_report.specs.Lines.{answer_at}
use Rattle.table_printing.proofs.any_wrong.Given as goal

abbrev pub invariant-loop-i : goal.invariant-loop-i
invariant-loop-i l = NoneYet is_wrong (answer_at l.answers) l.count l.i
