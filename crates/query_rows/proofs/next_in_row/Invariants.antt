use Rattle.theory.proofs.Runs.{NoneFrom}
use Rattle.query_rows.specs.Rows.{in_row}
use Rattle.query_rows.proofs.next_in_row.Given as goal

abbrev pub invariant-loop-x : goal.invariant-loop-x
invariant-loop-x l = NoneFrom (in_row l.rows l.v) l.from l.to l.x
