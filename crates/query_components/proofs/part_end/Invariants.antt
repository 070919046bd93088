use Prim.Native.Nat.{◌<◌}
use Rattle.query_components.proofs.part_end.Given as goal

abbrev pub invariant-loop-z : goal.invariant-loop-z
invariant-loop-z l = l.j < l.z
