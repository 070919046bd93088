use Rattle.intake_opening.proofs.Opened.{opens-refused, opens-accepted}
use Rattle.intake_opening.proofs.open_counts.Goals as goal

pub returns-in-Err : goal.returns-in-Err
returns-in-Err c = let a = c.args in
    opens-refused _ a.roster.now a.triples.now a.summary.now a.weights.now a.map.now a.held a.summarised _ _ _ _ _
    c.open_lists.ensures
    _ c.in-Err.is

pub returns-in-Ok : goal.returns-in-Ok
returns-in-Ok c = let a = c.args in
    opens-accepted _ a.roster.now a.triples.now a.summary.now a.weights.now a.map.now a.held a.summarised _ _ _ _ _
    c.open_lists.ensures c.in-Ok.is
