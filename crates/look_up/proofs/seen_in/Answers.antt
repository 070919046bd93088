use mathlib.Core.Path.{◌∙◌}
use native.Mathlib.Omega.{arith}
use Rattle.model.specs.Outcomes as outcomes
use Rattle.lists.proofs.Derived.{eq_same, lt_before}
use Rattle.look_up.proofs.Laws.{byte_few, seen_start, seen_few, seen_step, seen_end}
use Rattle.look_up.proofs.seen_in.Goals as goal

pub loop-i-init : goal.loop-i-init
loop-i-init c = seen_start _ _

pub overflow_add-place : goal.overflow_add-place
overflow_add-place c = omega (arith, seen_few _ _ _ _ _ c.loop-i.invariant, byte_few c.lt-early.result)

pub loop-i-preserved : goal.loop-i-preserved
loop-i-preserved c = seen_step _ _ _ _ _ _ _ _ c.loop-i.invariant c.triple_at-u.ensures (c.eq-here.ensures ∙ eq_same _ _) (c.lt-early.ensures ∙ lt_before _ _)

pub returns-then-found : goal.returns-then-found
unfolding outcomes.seen
returns-then-found c = seen_end _ _ _ _ _ c.loop-i.invariant (omega arith) (omega arith) _ c.if-found.true

pub returns-else-found : goal.returns-else-found
unfolding outcomes.seen
returns-else-found c = seen_end _ _ _ _ _ c.loop-i.invariant (omega arith) (omega arith) _ c.if-found.false
