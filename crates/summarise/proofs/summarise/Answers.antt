use Rattle.std.proofs.lemmas.Result.{err_from_is_err_and}
use Rattle.model.specs.Classes.{map_of}
use Rattle.summarise.proofs.Answers.{call_ready, call_refused, call_condensed}
use Rattle.summarise.proofs.summarise.Goals as goal

pub condense-requires : goal.condense-requires
condense-requires c = call_ready _ c.args.table.now c.args.roster.now c.args.res.now c.args.map.now c.args.work.now _
    c.lengths_wrong-lengths.ensures _ c.table_refusal.ensures c.in_ok-table_refusal.was

pub returns-in_err-table_refusal : goal.returns-in_err-table_refusal
returns-in_err-table_refusal c = let p = err_from_is_err_and c.from_residual.result c.from_residual.ensures.1 in
    rw (p.1, p.2) (call_refused _ c.args.table.now c.args.roster.now c.args.res.now c.args.map.now c.args.work.now _
    c.lengths_wrong-lengths.ensures _ _ _ c.table_refusal.ensures c.in_err-table_refusal.was)

pub returns : goal.returns
returns c = call_condensed _ c.args.table.now c.args.roster.now c.args.res.now c.args.map.now c.args.work.now
    _ c.lengths_wrong-lengths.ensures _ c.table_refusal.ensures c.in_ok-table_refusal.was
    (map_of c.args.words c.args.roster.now) _ _ _ _ c.condense.ensures
