use Rattle.flat_queries.proofs.Queries.{PuttingQueries}
use Rattle.flat_queries.proofs.put_queries.Given as goal

abbrev pub invariant-loop-k : goal.invariant-loop-k
invariant-loop-k l = PuttingQueries l.initial.list l.queries l.list l.k
