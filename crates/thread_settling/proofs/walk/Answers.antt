use mathlib.Core.Path.{refl, sym, ◌∙◌}
use borrow.Author.Tests.{eqb-true, eqb-false}
use Rattle.thread_settling.proofs.Loops.{walking_start, walking_end, settle_ready, walking_step, walking_less}
use Rattle.thread_settling.proofs.walk.Goals as goal

pub loop-map-init : goal.loop-map-init
loop-map-init c = λ g b k. walking_start g b _ _ _ _ k _ _ c.wide.ensures refl

pub settle-c-requires : goal.settle-c-requires
settle-c-requires c = settle_ready c.requires.groups c.requires.before _ _ _ _ c.requires.state _ _ _ (c.loop-map.invariant c.requires.groups c.requires.before c.requires.state)
    (eqb-false _ _ (sym c.is_absent.ensures ∙ c.loop-map-test.true)) _ c.wide-in-loop-map.ensures

pub loop-map-smaller : goal.loop-map-smaller
loop-map-smaller c = walking_less c.requires.groups c.requires.before _ _ _ _ c.requires.state _ _ _
    (c.loop-map.invariant c.requires.groups c.requires.before c.requires.state)
    (eqb-false _ _ (sym c.is_absent.ensures ∙ c.loop-map-test.true)) _ c.wide-in-loop-map.ensures _ c.settle-c.ensures.next

pub loop-map-preserved : goal.loop-map-preserved
loop-map-preserved c = λ g b k. walking_step g b _ _ _ _ k _ _ _ (c.loop-map.invariant g b k)
    (eqb-false _ _ (sym c.is_absent.ensures ∙ c.loop-map-test.true)) _ c.wide-in-loop-map.ensures _ _ _ c.settle-c.ensures

pub returns : goal.returns
returns c = λ g b k. walking_end g b _ _ _ _ k _ _ _ (c.loop-map.invariant g b k)
    (eqb-true _ _ (sym c.is_absent.ensures ∙ c.loop-map-test.false))
