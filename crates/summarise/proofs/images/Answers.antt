use Rattle.std.proofs.lemmas.Result.{err_from_is_err_and}
use native.Mathlib.Omega.{arith}
use Rattle.builder.proofs.Collecting.{collecting_start, collecting_next, collecting_full, collecting_end}
use Rattle.summarise.proofs.Moved.{below_at, image-at}
use Rattle.summarise.proofs.images.Goals as goal

pub loop-i-init : goal.loop-i-init
loop-i-init c = rw c.new-state.ensures (collecting_start _ _ _)

pub triple_at-t-requires : goal.triple_at-t-requires
triple_at-t-requires c = omega (arith, c.loop-i-test.true, c.requires.0)

pub image-requires : goal.image-requires
image-requires c = below_at _ c.args.table.now c.args.count _ _ c.requires.1 c.loop-i-test.true
    c.triple_at-t.ensures

pub offer-requires : goal.offer-requires
offer-requires c = c.loop-i.invariant.step.goes_on.built

pub returns-in_err-state : goal.returns-in_err-state
returns-in_err-state c = let p = err_from_is_err_and c.from_residual.result c.from_residual.ensures.1 in
    rw (p.1, p.2) (collecting_full _ _ _ _ _ _ _ c.loop-i.invariant _ c.loop-i-test.true
    (image-at c.args.map.now c.args.table.now _ _ _ c.triple_at-t.ensures c.image.ensures) _ c.in_err-state.ensures)

pub loop-i-preserved : goal.loop-i-preserved
loop-i-preserved c = collecting_next _ _ _ _ _ _ _ c.loop-i.invariant _ c.loop-i-test.true
    (image-at c.args.map.now c.args.table.now _ _ _ c.triple_at-t.ensures c.image.ensures) _ c.in_ok-state.ensures

pub shape_of-list : goal.shape_of-list
shape_of-list c = c.loop-i.invariant.step.size

pub returns : goal.returns
returns c = collecting_end _ _ _ _ _ _ c.loop-i.invariant c.loop-i-test.false
