use Rattle.query_domains.proofs.Fills.{FilledBefore}
use Rattle.query_domains.proofs.fill.Given as goal

abbrev pub invariant-loop-v : goal.invariant-loop-v
invariant-loop-v l = FilledBefore l.initial.rows l.rows l.bindings l.v
