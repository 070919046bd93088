use Rattle.site_reader.proofs.Queries.{Asking}
use Rattle.site_reader.proofs.ask_lines.Given as goal

abbrev pub invariant-loop-count : goal.invariant-loop-count
invariant-loop-count l = Asking l.text l.initial.next l.queries l.count l.next
