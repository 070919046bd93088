use Rattle.query_components.proofs.Parts.{ApartTo}
use Rattle.query_components.proofs.apart.Given as goal

abbrev pub invariant-loop-j : goal.invariant-loop-j
invariant-loop-j l = ApartTo l.bindings l.q l.k l.z l.j
