use Rattle.theory.proofs.Runs.{NoneYet}
use Rattle.lists.specs.Flat.{at}
use Rattle.intake_insertion.specs.Places.{bad}
use Rattle.intake_insertion.proofs.held_wrong.Given as goal

abbrev pub invariant-loop-i : goal.invariant-loop-i
invariant-loop-i l = NoneYet (bad l.words l.roster) (at l.list) l.count l.i
