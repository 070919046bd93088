use Prim.Native.Nat.{◌<◌, ◌≤◌}
use Rattle.query_order.proofs.next_pattern.Given as goal

abbrev pub invariant-loop-j : goal.invariant-loop-j
invariant-loop-j l = (l.k ≤ l.best) × (l.best < l.q.count)
