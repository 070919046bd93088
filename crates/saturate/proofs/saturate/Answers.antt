use Rattle.std.proofs.lemmas.Result.{err_from_is_err_and}
use Rattle.saturate.proofs.Answers.{free-ends, answer-refused, answer-slots, answer-count}
use Rattle.saturate.proofs.saturate.Goals as goal

pub returns-in_err-table_refusal : goal.returns-in_err-table_refusal
returns-in_err-table_refusal c = let p = err_from_is_err_and c.from_residual.result c.from_residual.ensures.1 in
    rw (p.1, p.2) (answer-refused _ _ _ _ _ _ c.table_refusal.ensures c.in_err-table_refusal.was)

pub derive-requires : goal.derive-requires
derive-requires c = free-ends _ _ _ _ c.table_refusal.ensures c.in_ok-table_refusal.was

pub returns-in-Ok : goal.returns-in-Ok
returns-in-Ok c = answer-count _ _ _ _ _ c.table_refusal.ensures c.in_ok-table_refusal.was _ _ c.in-Ok.ensures _ _ c.finish.ensures

pub returns-in-Err : goal.returns-in-Err
returns-in-Err c = answer-slots _ _ _ _ _ c.table_refusal.ensures c.in_ok-table_refusal.was _ _ c.in-Err.ensures _ c.clear.ensures
