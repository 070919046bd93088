use Prim.Native.Nat.{◌/◌}
use lib.ListN.{length}
use Rattle.model.specs.Roster.{wrong_triple}
use Rattle.theory.proofs.Runs.{NoneYet}
use Rattle.lists.specs.Flat.{at}
use Rattle.checks.proofs.codes_wrong.Given as goal

abbrev pub invariant-loop-i : goal.invariant-loop-i
invariant-loop-i l = NoneYet (wrong_triple l.words l.n) (at l.table) (length l.table / 3) l.i
