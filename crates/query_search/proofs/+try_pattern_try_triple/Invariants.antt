use Rattle.std.proofs.Common.{ℕ, ◌+◌, ◌-◌, ◌*◌, ◌/◌, length}
use Rattle.query_search.proofs.Tries.{NoneSoFar}
use Rattle.query_search.proofs.+try_pattern_try_triple.Given as goal

-- patterns left, each worth more than all the triples of the table, and triples left
abbrev falling : ℕ → ℕ → ℕ → ℕ
falling patterns table triples = patterns * (table / 3 + 1) + triples

abbrev pub decreases-try_pattern : goal.decreases-try_pattern
decreases-try_pattern l = falling (l.q.count - l.k) (length l.table.now) 0

abbrev pub decreases-try_triple : goal.decreases-try_triple
decreases-try_triple l = falling (l.q.count - (l.k + 1)) (length l.table.now) (length l.table.now / 3 - l.i)

abbrev pub invariant-try_pattern-loop-from : goal.invariant-try_pattern-loop-from
invariant-try_pattern-loop-from l = NoneSoFar l.table l.map l.rows l.q l.k l.bindings l.initial.steps l.steps l.from

abbrev pub decreases-try_pattern-loop-from : goal.decreases-try_pattern-loop-from
decreases-try_pattern-loop-from l = l.n - l.from
