use Prim.Native.Nat.{◌*◌}
use mathlib.Core.Path.{◌≡◌}
use mathlib.Core.Bool.{false}
use Rattle.roster_values.specs.Bytes.{over_three, values}
use Rattle.roster_values.proofs.value_wrong.Given as goal

abbrev pub invariant-loop-k : goal.invariant-loop-k
invariant-loop-k l = over_three (values l.roster 0 (8 * l.k)) ≡ false
