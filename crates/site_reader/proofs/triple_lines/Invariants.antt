use Rattle.site_reader.proofs.Triples.{Storing}
use Rattle.site_reader.proofs.triple_lines.Given as goal

abbrev pub invariant-loop-count : goal.invariant-loop-count
invariant-loop-count l = Storing l.text l.initial.next l.initial.list l.list l.count l.next
