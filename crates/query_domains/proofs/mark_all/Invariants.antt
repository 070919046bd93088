use Rattle.query_domains.specs.Domains.{AllMarked}
use Rattle.query_domains.proofs.mark_all.Given as goal

abbrev pub invariant-loop-i : goal.invariant-loop-i
invariant-loop-i l = AllMarked l.table l.map l.initial.rows l.rows l.p l.i l.some
