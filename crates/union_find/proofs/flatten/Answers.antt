use native.Mathlib.Omega.{arith}
use Prim.Native.Nat.{◌<◌}
use lib.ListN.{length}
use Rattle.union_find.proofs.Steps.{done-set, done_keep, done_end}
use Rattle.union_find.proofs.flatten.Goals as goal
use Rattle.union_find.proofs.flatten.Goals.{then-p-i, else-p-i}

pub loop-i-preserved : goal.loop-i-preserved
loop-i-preserved c = let d = c.loop-i.invariant in
    let h : c.loop-i.i < length c.loop-i.parent = omega (arith, d.len) in
    elim c.if-p-i.branch [
      | then-p-i w ↦ done-set _ _ _ d h _ _ c.wide-p.ensures w.if-p-i.true w.parent-is
      | else-p-i w ↦ done_keep _ _ _ d h _ _ c.wide-p.ensures w.if-p-i.false w.parent-is
    ]

pub returns : goal.returns
returns c = done_end _ _ _ c.loop-i.invariant (omega (arith, c.loop-i.invariant.len))
