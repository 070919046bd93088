use native.Mathlib.Omega.{arith}
use Rattle.std.proofs.lemmas.Result.{err_from_is_err_and}
use Rattle.schema_load.proofs.Loading.{loading_start, loading_next, loading_full, loading_end}
use Rattle.schema_load.proofs.load.Goals as goal

pub loop-i-init : goal.loop-i-init
loop-i-init c = rw c.new-state.ensures (loading_start _ _ _ _ _ c.requires.0 c.requires.1)

pub returns-in_err-state : goal.returns-in_err-state
returns-in_err-state c = let p = err_from_is_err_and c.from_residual.result c.from_residual.ensures.1 in
    rw (p.1, p.2) (loading_full _ _ _ _ _ _ _ _ _ c.loop-i.invariant _ (omega arith) c.triple_at-t.ensures _ c.in_err-state.ensures)

pub loop-i-preserved : goal.loop-i-preserved
loop-i-preserved c = loading_next _ _ _ _ _ _ _ _ _ c.loop-i.invariant _ (omega arith) c.triple_at-t.ensures _ c.in_ok-state.ensures

pub returns : goal.returns
returns c = loading_end _ _ _ _ _ _ _ _ c.loop-i.invariant (omega arith)
