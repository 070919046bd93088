use Rattle.query.specs.Ask.{pattern_at, wrong_pattern}
use Rattle.theory.proofs.Runs.{NoneYet}
use Rattle.query_parts.proofs.query_wrong.Given as goal

abbrev pub invariant-loop-k : goal.invariant-loop-k
invariant-loop-k l = NoneYet (wrong_pattern l.n) (pattern_at l.q) l.q.count l.k
