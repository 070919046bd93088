use Rattle.intake_insertion.proofs.Places.{found_at}
use Rattle.intake_calls.proofs.Calls.{as_counted}
use Rattle.intake_adding.specs.Adding.{AddCall}
use Rattle.intake_adding.proofs.Adding.{below-map, weight-there, added_quick}
use Rattle.intake_adding.proofs.add.Goals as goal

pub image_place-requires : goal.image_place-requires
image_place-requires c = let a = c.args in let l = a.lists.now in
    let p = c.requires in
    below-map _ a.roster.now l.triples.now l.summary.now l.weights.now l.map.now a.work.now a.counts.held a.counts.summarised a.t
    a.i p.0 p.1 p.2

pub increment-requires : goal.increment-requires
increment-requires c = let a = c.args in let l = a.lists.now in
    let p = c.requires in
    weight-there _ a.roster.now l.triples.now l.summary.now l.weights.now l.map.now a.work.now a.counts.held a.counts.summarised
    a.t a.i p.0 p.1 p.2 _ c.insert_at.ensures _
    (found_at _ _ _ _ _ _ c.image_place.ensures c.in-Some.is)

pub returns-clause-passes : goal.returns-clause-passes
returns-clause-passes c = let a = c.args in let l = a.lists.now in
    let p = c.requires in
    as_counted (AddCall _ a.roster.now _ a.work.now a.t a.i) _ _ _ _ c.with_counts.ensures _ _ _ _ _
    (added_quick _ a.roster.now l.triples.now l.summary.now l.weights.now l.map.now a.work.now a.counts.held a.counts.summarised
    a.t a.i p.0 p.1 p.2 _ c.insert_at.ensures _
    (found_at _ _ _ _ _ _ c.image_place.ensures c.in-Some.is) _ c.increment.ensures _ c.clear.ensures)
