use Rattle.union_find.proofs.Steps.{Done}
use Rattle.union_find.proofs.flatten.Given as goal

abbrev pub invariant-loop-i : goal.invariant-loop-i
invariant-loop-i l = Done l.initial.parent l.parent l.i
