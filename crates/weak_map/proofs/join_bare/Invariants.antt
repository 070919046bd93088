use Rattle.weak_map.proofs.Bares.{Joinings}
use Rattle.weak_map.proofs.join_bare.Given as goal

abbrev pub invariant-loop-i : goal.invariant-loop-i
invariant-loop-i l = Joinings l.roster l.initial.map l.work l.map l.first l.i
