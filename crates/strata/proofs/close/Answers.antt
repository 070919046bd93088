use Rattle.std.proofs.lemmas.Result.{err_from_is_err_and}
use native.Mathlib.Omega.{arith}
use Rattle.strata.proofs.Closing.{closing_start, closing_next, closing_full, closing_less, closing_end, round-ready}
use Rattle.strata.proofs.close.Goals as goal

pub loop-state-init : goal.loop-state-init
loop-state-init c = rw c.new-state.ensures (closing_start _ _ _ c.requires)

pub round-requires : goal.round-requires
round-requires c = let r = round-ready _ _ _ _ _ _ _ c.loop-state.invariant c.sort_distinct-count.ensures in (r.0, r.1, omega arith)

pub returns-in_err-state : goal.returns-in_err-state
returns-in_err-state c = let p = err_from_is_err_and c.from_residual.result c.from_residual.ensures.1 in
    rw (p.1, p.2) (closing_full _ _ _ _ _ _ _ c.loop-state.invariant c.sort_distinct-count.ensures _ _ c.in_err-state.ensures)

pub loop-state-smaller : goal.loop-state-smaller
loop-state-smaller c = omega (
  arith,
  closing_less _ _ _ _ _ _ _ c.loop-state.invariant c.sort_distinct-count.ensures c.loop-state-test.true _ _ c.in_ok-state.ensures,
  c.loop-state.invariant.room,
  c.loop-state.invariant.size,
  c.loop-state.invariant.within,
  c.loop-state-test.true,
)

pub loop-state-preserved : goal.loop-state-preserved
loop-state-preserved c = closing_next _ _ _ _ _ _ _ c.loop-state.invariant c.sort_distinct-count.ensures _ _ c.in_ok-state.ensures

pub returns : goal.returns
returns c = closing_end _ _ _ _ _ c.loop-state.invariant c.loop-state-test.false
