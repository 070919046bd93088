use Rattle.query.specs.Ask.{pattern_at, asks_schema}
use Rattle.theory.proofs.Runs.{NoneYet}
use Rattle.query_parts.proofs.query_retired.Given as goal

abbrev pub invariant-loop-i : goal.invariant-loop-i
invariant-loop-i l = NoneYet (asks_schema l.words) (pattern_at l.q) l.q.count l.i
