use Rattle.lists.specs.Flat.{at}
use Rattle.theory.proofs.Runs.{NoneFrom}
use Rattle.subject_lines.specs.Lines.{other_subject}
use Rattle.subject_lines.proofs.line_end.Given as goal

abbrev pub invariant-loop-i : goal.invariant-loop-i
invariant-loop-i l = NoneFrom (λ i. other_subject l.code (at l.list i)) l.from l.to l.i
