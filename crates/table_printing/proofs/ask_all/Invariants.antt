use Rattle.table_printing.proofs.Answers.{Asking}
use Rattle.table_printing.proofs.ask_all.Given as goal

abbrev pub invariant-loop-i : goal.invariant-loop-i
invariant-loop-i l = Asking l.site.words l.table l.map l.site.queries l.answers l.i
