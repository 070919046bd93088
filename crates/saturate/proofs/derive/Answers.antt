use Rattle.std.proofs.lemmas.Result.{err_from_is_err_and}
use Rattle.strata.proofs.Passes.{derived-schema-full, derived-others-full, derived-all}
use Rattle.saturate.proofs.derive.Goals as goal

pub returns-in_err-schema : goal.returns-in_err-schema
returns-in_err-schema c = let p = err_from_is_err_and c.from_residual.result c.from_residual.ensures.1 in
    rw (p.1, p.2) (derived-schema-full _ _ c.requires _ _ _ c.in_err-schema.ensures)

pub add_others-requires : goal.add_others-requires
add_others-requires c = c.in_ok-schema.ensures.room

pub returns-in_err-loaded : goal.returns-in_err-loaded
returns-in_err-loaded c = let p = err_from_is_err_and c.from_residual-in_err-loaded.result c.from_residual-in_err-loaded.ensures.1 in
    rw (p.1, p.2) (derived-others-full _ _ c.requires _ _ _ c.in_ok-schema.ensures _ _ c.in_err-loaded.ensures)

pub draw_strata-requires : goal.draw_strata-requires
draw_strata-requires c = c.in_ok-loaded.ensures.room

pub returns : goal.returns
returns c = derived-all _ _ c.requires _ _ _ c.in_ok-schema.ensures _ _ c.in_ok-loaded.ensures _ _ c.draw_strata.ensures
