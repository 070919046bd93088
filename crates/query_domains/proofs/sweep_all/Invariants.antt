use Prim.Native.Nat.{◌≤◌}
use Rattle.query_domains.proofs.Sweeps.{SweptSome}
use Rattle.query_domains.proofs.sweep_all.Given as goal

abbrev pub invariant-loop-j : goal.invariant-loop-j
invariant-loop-j l = SweptSome l.table l.map l.initial.rows l.rows l.q l.k × (l.j ≤ l.q.count)
