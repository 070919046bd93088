use Rattle.std.proofs.Common.{sym, refl, ap, ◌∙◌, subst, arith, length-set}
use Rattle.model.specs.Lists.{zeros}
use Rattle.theory.specs.Tables.{Below}
use Rattle.lists.proofs.Search.{cleared-all}
use Rattle.intake_weighing.proofs.Weighing.{weighed-start, weigh_noted, weigh_inside, weigh_narrow, weigh_small, weigh_step, weighed-end}
use Rattle.intake_weighing.proofs.weigh.Goals as goal

pub loop-i-init : goal.loop-i-init
loop-i-init c = (weighed-start _ _ _ _ _ _ c.requires.room c.clear.ensures, refl)

pub bounds-work-p : goal.bounds-work-p
bounds-work-p c = weigh_noted c.requires c.loop-i.work _ _ _ c.loop-i-test.true c.triple_at-t.ensures c.wide-p.ensures
    c.loop-i.invariant.1

pub image-requires : goal.image-requires
image-requires c = subst (Below _) (sym c.triple_at-t.ensures) (c.requires.below _ c.loop-i-test.true)

pub place_near-j-requires : goal.place_near-j-requires
place_near-j-requires c = c.requires.fits

pub narrow-requires : goal.narrow-requires
narrow-requires c = weigh_narrow c.requires _ _ _ _ _ _ c.loop-i-test.true c.triple_at-t.ensures c.image.ensures c.place_near-j.ensures
    c.clear.ensures.size c.loop-i.invariant.0

pub bounds-work-p-in-loop-i : goal.bounds-work-p-in-loop-i
bounds-work-p-in-loop-i c = weigh_noted c.requires c.loop-i.work _ _ _ c.loop-i-test.true c.triple_at-t.ensures c.wide-p.ensures
    c.loop-i.invariant.1

pub bounds-weights-j : goal.bounds-weights-j
bounds-weights-j c = weigh_inside c.requires _ _ _ _ _ _ c.loop-i-test.true c.triple_at-t.ensures c.image.ensures
    c.place_near-j.ensures c.clear.ensures.size c.loop-i.invariant.0

pub overflow_add-weights : goal.overflow_add-weights
overflow_add-weights c = let h = weigh_small c.requires _ _ _ _ _ _ c.loop-i-test.true c.triple_at-t.ensures c.image.ensures
    c.place_near-j.ensures c.clear.ensures.size c.loop-i.invariant.0 in
    omega (arith, h)

pub bounds-weights-j-in-loop-i : goal.bounds-weights-j-in-loop-i
bounds-weights-j-in-loop-i c = weigh_inside c.requires _ _ _ _ _ _ c.loop-i-test.true c.triple_at-t.ensures c.image.ensures
    c.place_near-j.ensures c.clear.ensures.size c.loop-i.invariant.0

pub loop-i-preserved : goal.loop-i-preserved
loop-i-preserved c = (
  weigh_step c.requires _ _ _ _ _ _ c.loop-i-test.true c.triple_at-t.ensures c.image.ensures
      c.place_near-j.ensures c.clear.ensures.size c.loop-i.invariant.0,
  length-set c.loop-i.work _ _ ∙ c.loop-i.invariant.1,
)

pub shape_of-weights : goal.shape_of-weights
shape_of-weights c = c.loop-i.invariant.0.size ∙ c.clear.ensures.size

pub shape_of-work : goal.shape_of-work
shape_of-work c = c.clear-2.ensures.size ∙ c.loop-i.invariant.1

pub returns : goal.returns
returns c = (
  weighed-end _ _ _ _ c.args.weights.now _ _ _ c.args.count c.loop-i.invariant.0 c.clear.ensures.size
      c.requires.room (omega arith),
  cleared-all _ _ _ c.clear-2.ensures (omega arith) ∙ ap zeros c.loop-i.invariant.1,
)
