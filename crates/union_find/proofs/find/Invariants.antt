use Rattle.union_find.proofs.Steps.{Walks}
use Rattle.union_find.proofs.find.Given as goal

abbrev pub invariant-loop-p : goal.invariant-loop-p
invariant-loop-p l = Walks l.initial.parent l.from l.parent l.x l.p

abbrev pub decreases-loop-p : goal.decreases-loop-p
decreases-loop-p l = l.x
