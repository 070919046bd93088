use Rattle.std.proofs.Common.{◌≤◌}
use Rattle.query_fixing.proofs.cycles.Given as goal

abbrev pub invariant-loop-j : goal.invariant-loop-j
invariant-loop-j l = l.total ≤ l.j
