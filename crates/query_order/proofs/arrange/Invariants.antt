use Rattle.query_order.specs.Order.{Arranged}
use Rattle.query_order.proofs.arrange.Given as goal

abbrev pub invariant-loop-j : goal.invariant-loop-j
invariant-loop-j l = Arranged l.k l.fn.q l.r
