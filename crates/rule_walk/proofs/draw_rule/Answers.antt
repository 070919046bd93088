use Rattle.std.proofs.lemmas.Result.{err_from_is_err_and}
use native.Mathlib.Omega.{arith}
use Rattle.rule_walk.proofs.Sweeps.{drivers_full, drivers_next, drivers_end, driver_in, ready_on}
use Rattle.rule_walk.proofs.draw_rule.Goals as goal

pub draw_driver-requires : goal.draw_driver-requires
draw_driver-requires c = (
  ready_on _ _ _ _ _ c.loop-i.invariant.step,
  c.requires.1,
  driver_in _ _ _ _ _ _ _ c.loop-i.invariant _
      (omega arith) c.triple_at-driver.ensures,
)

pub returns-in_err-state : goal.returns-in_err-state
returns-in_err-state c = let p = err_from_is_err_and c.from_residual.result c.from_residual.ensures.1 in
    rw (p.1, p.2) (drivers_full _ _ _ _ _ _ _ c.loop-i.invariant _ (omega arith) c.triple_at-driver.ensures _ _ c.in_err-state.ensures)

pub loop-i-preserved : goal.loop-i-preserved
loop-i-preserved c = drivers_next _ _ _ _ _ _ _ c.loop-i.invariant _ (omega arith)
    c.triple_at-driver.ensures _ _ c.in_ok-state.ensures

pub returns : goal.returns
returns c = drivers_end _ _ _ _ _ _ _ c.loop-i.invariant (omega arith)
