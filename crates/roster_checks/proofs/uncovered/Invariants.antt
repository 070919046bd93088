use Prim.Native.Nat.{ℕ, ◌<◌}
use mathlib.Core.Path.{◌≡◌}
use mathlib.Core.Bool.{true}
use Rattle.model.specs.Roster.{covers_triple}
use Rattle.lists.specs.Flat.{at}
use Rattle.roster_checks.proofs.uncovered.Given as goal

abbrev pub invariant-loop-i : goal.invariant-loop-i
invariant-loop-i l = (k : ℕ) → k < l.i → covers_triple l.words l.roster (at l.table k) ≡ true
