use Rattle.std.proofs.lemmas.Result.{err_from_is_err_and}
use Rattle.strata.proofs.Passes.{schema-loaded, schema-full}
use Rattle.strata.proofs.derive_schema.Goals as goal

pub returns-in_err-loaded : goal.returns-in_err-loaded
returns-in_err-loaded c = let p = err_from_is_err_and c.from_residual.result c.from_residual.ensures.1 in
    rw (p.1, p.2) (schema-full _ _ _ _ _ c.in_err-loaded.ensures)

pub returns : goal.returns
returns c = schema-loaded _ _ _ _ _ c.in_ok-loaded.ensures _ _ c.close.ensures
