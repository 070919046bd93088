use native.Mathlib.Omega.{arith}
use Rattle.query_order.proofs.Arranged.{arranged_as_is, arrange_step}
use Rattle.query_order.proofs.arrange.Goals as goal

pub loop-j-init : goal.loop-j-init
loop-j-init c = arranged_as_is _ _ (omega arith)

pub loop-j-preserved : goal.loop-j-preserved
loop-j-preserved c = let a = c.loop-j.invariant in
    arrange_step _ _ _ _ _ a c.requires (omega arith) (omega arith) (omega arith) (omega (arith, a.count)) _ c.swap.ensures.after
