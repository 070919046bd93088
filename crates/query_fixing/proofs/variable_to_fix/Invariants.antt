use Rattle.std.specs.Prelude.{IfSome}
use Rattle.query_fixing.specs.Fixing.{FreeVariable}
use Rattle.query_fixing.proofs.variable_to_fix.Given as goal

abbrev pub invariant-loop-v : goal.invariant-loop-v
invariant-loop-v l = IfSome l.best (λ v. FreeVariable l.bindings v)
