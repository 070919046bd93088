use mathlib.Core.Path.{refl}
use Rattle.std.proofs.lemmas.Result.{err_from_is_err_and}
use Rattle.rule_walk.proofs.Sweeps.{rules-start, rules-next, rules-full, rules-end, rule-known, ready_on}
use Rattle.rule_walk.proofs.round.Goals as goal

pub loop-k-init : goal.loop-k-init
loop-k-init c = rw c.new-state.ensures (rules-start _ _ _ _ c.requires.0 c.requires.1)

pub draw_rule-requires : goal.draw_rule-requires
draw_rule-requires c = (
  ready_on _ _ _ _ _ c.loop-k.invariant.step,
  rule-known _ _ _ c.loop-k-test.true c.requires.2
      c.rule_at.ensures,
)

pub returns-in_err-state : goal.returns-in_err-state
returns-in_err-state c = let p = err_from_is_err_and c.from_residual.result c.from_residual.ensures.1 in
    rw (p.1, p.2) (rules-full _ _ _ _ _ _ _ _ c.loop-k.invariant _ c.rule_at.ensures _ _ _ refl c.in_err-state.ensures)

pub loop-k-preserved : goal.loop-k-preserved
loop-k-preserved c = rules-next _ _ _ _ _ _ _ _ c.loop-k.invariant _ c.rule_at.ensures _ c.in_ok-state.ensures

pub returns : goal.returns
returns c = rules-end _ _ _ _ _ _ _ _ c.loop-k.invariant c.loop-k-test.false
