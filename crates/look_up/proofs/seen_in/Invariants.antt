use Rattle.look_up.proofs.Laws.{SeenTo}
use Rattle.look_up.proofs.seen_in.Given as goal

abbrev pub invariant-loop-i : goal.invariant-loop-i
invariant-loop-i l = SeenTo l.t l.list l.i l.found l.place
