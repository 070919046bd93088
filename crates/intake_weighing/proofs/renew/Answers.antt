use Rattle.intake_weighing.proofs.Renewing.{renewed_never, renewed_weighable, renewed_all}
use Rattle.intake_weighing.proofs.renew.Goals as goal

pub returns-in_default : goal.returns-in_default
returns-in_default c = let a = c.args in
    renewed_never _ a.triples.now a.count a.roster.now a.summary.now a.weights.now a.map.now a.work.now c.requires _ _ _
    _ c.condense.ensures _ c.in_default.is

pub weigh-requires : goal.weigh-requires
weigh-requires c = let a = c.args in
    renewed_weighable _ a.triples.now a.count a.roster.now a.summary.now a.weights.now a.map.now a.work.now c.requires _
    _ _ _ c.condense.ensures _ c.in-Ok.is

pub returns : goal.returns
returns c = let a = c.args in
    renewed_all _ a.triples.now a.count a.roster.now a.summary.now a.weights.now a.map.now a.work.now c.requires _ _ _ _
    c.condense.ensures _ c.in-Ok.is _ _ c.weigh.ensures
