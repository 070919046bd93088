use Rattle.flat_queries.proofs.Queries.{Patterns}
use Rattle.flat_queries.proofs.query_of.Given as goal

abbrev pub invariant-loop-k : goal.invariant-loop-k
invariant-loop-k l = Patterns l.query l.patterns l.k
