use Prim.Native.Nat.{◌+◌, ◌*◌}
use mathlib.Core.Path.{◌≡◌}
use lib.ListN.{length}
use Rattle.flat_queries.proofs.Queries.{PuttingPatterns}
use Rattle.flat_queries.proofs.put_query.Given as goal

abbrev pub invariant-loop-j : goal.invariant-loop-j
invariant-loop-j l = (length l.initial.list ≡ 656) × (l.i ≡ 41 * l.k) × PuttingPatterns l.initial.list (l.i + 1) l.q l.list l.j
