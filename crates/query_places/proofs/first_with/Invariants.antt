use Rattle.lists.specs.Flat.{at}
use Rattle.theory.proofs.Runs.{NoneFrom}
use Rattle.query_places.specs.Places.{with_property}
use Rattle.query_places.proofs.first_with.Given as goal

abbrev pub invariant-loop-i : goal.invariant-loop-i
invariant-loop-i l = NoneFrom (with_property (at l.table) l.p) l.from l.to l.i
