use native.Mathlib.Omega.{arith}
use lib.ListN.{length-set}
use Rattle.union_find.proofs.Steps.{walk_of, walk_step, walk_end, walk-bounds, up-less}
use Rattle.union_find.proofs.find.Goals as goal

pub offset_bounds-parent-p : goal.offset_bounds-parent-p
offset_bounds-parent-p c = let w = walk_of c.requires c.loop-p.invariant in
    omega (arith, walk-bounds _ _ _ _ _ _ w)

pub bounds-parent-p : goal.bounds-parent-p
bounds-parent-p c = let w = walk_of c.requires c.loop-p.invariant in
    omega (arith, walk-bounds _ _ _ _ _ _ w)

pub offset_bounds-parent-x-in-loop-p : goal.offset_bounds-parent-x-in-loop-p
offset_bounds-parent-x-in-loop-p c = let w = walk_of c.requires c.loop-p.invariant in
    omega (arith, walk-bounds _ _ _ _ _ _ w)

pub bounds-parent-x-in-loop-p : goal.bounds-parent-x-in-loop-p
bounds-parent-x-in-loop-p c = let w = walk_of c.requires c.loop-p.invariant in
    omega (arith, walk-bounds _ _ _ _ _ _ w)

pub bounds-parent-x-in-loop-p-2 : goal.bounds-parent-x-in-loop-p-2
bounds-parent-x-in-loop-p-2 c = let w = walk_of c.requires c.loop-p.invariant in
    simp length-set (omega (arith, walk-bounds _ _ _ _ _ _ w, c.wide-x.ensures))

pub loop-p-smaller : goal.loop-p-smaller
loop-p-smaller c = let w = walk_of c.requires c.loop-p.invariant in
    omega (arith, up-less _ _ _ _ _ _ w c.loop-p-test.true, c.wide-x.ensures)

pub loop-p-preserved : goal.loop-p-preserved
loop-p-preserved c = walk_step _ _ _ _ _ c.loop-p.invariant c.loop-p-test.true _ _ c.wide-x.ensures c.wide-p-in-loop-p.ensures

pub returns : goal.returns
returns c = walk_end _ _ _ _ _ c.requires c.loop-p.invariant c.loop-p-test.false
