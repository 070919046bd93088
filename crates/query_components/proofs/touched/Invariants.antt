use Rattle.query_components.proofs.Parts.{NoneTouched}
use Rattle.query_components.proofs.touched.Given as goal

abbrev pub invariant-loop-i : goal.invariant-loop-i
invariant-loop-i l = NoneTouched l.bindings l.q l.k l.p l.i
