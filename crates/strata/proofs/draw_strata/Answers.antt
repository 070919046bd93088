use Rattle.std.proofs.lemmas.Result.{err_from_is_err_and}
use Rattle.strata.proofs.Passes.{strata-first, strata-second, strata-third}
use Rattle.strata.proofs.draw_strata.Goals as goal

pub returns-in_err-retyped : goal.returns-in_err-retyped
returns-in_err-retyped c = let p = err_from_is_err_and c.from_residual.result c.from_residual.ensures.1 in
    rw (p.1, p.2) (strata-first _ _ _ _ _ c.in_err-retyped.ensures)

pub returns-in_err-typed : goal.returns-in_err-typed
returns-in_err-typed c = let p = err_from_is_err_and c.from_residual-in_err-typed.result c.from_residual-in_err-typed.ensures.1 in
    rw (p.1, p.2) (strata-second _ _ _ _ _ c.in_ok-retyped.ensures _ _ c.in_err-typed.ensures)

pub returns : goal.returns
returns c = strata-third _ _ _ _ _ c.in_ok-retyped.ensures _ _ c.in_ok-typed.ensures _ _ c.pass-3.ensures
