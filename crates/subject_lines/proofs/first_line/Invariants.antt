use Rattle.lists.specs.Flat.{at}
use Rattle.theory.proofs.Runs.{NoneFrom}
use Rattle.subject_lines.specs.Lines.{has_subject}
use Rattle.subject_lines.proofs.first_line.Given as goal

abbrev pub invariant-loop-i : goal.invariant-loop-i
invariant-loop-i l = NoneFrom (λ i. has_subject l.code (at l.list i)) 0 l.to l.i
