use Rattle.summarise.proofs.Answers.{imaged_full, imaged_count}
use Rattle.summarise.proofs.condense_by.Goals as goal

pub returns-in-Ok : goal.returns-in-Ok
returns-in-Ok c = imaged_count c.args.table.now c.args.count c.args.map.now c.args.res.now _ _ c.in-Ok.ensures _ _ c.finish.ensures

pub returns-in-Err : goal.returns-in-Err
returns-in-Err c = imaged_full c.args.table.now c.args.count c.args.map.now c.args.res.now _ _ c.in-Err.ensures _ _ c.clear.ensures
    c.clear-in-Err.ensures
