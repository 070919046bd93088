use Rattle.model.specs.Triples.{triple}
use Rattle.model.specs.Intake.{feeding, Promises}
use Rattle.intake_calls.proofs.Calls.{as_counted, by_refusal, ready, by_lists}
use Rattle.std.proofs.Common.{rules}
use Rattle.intake_feeding.proofs.feed_lists.Goals as goal

pub take_in-requires : goal.take_in-requires
take_in-requires c = let a = c.args in
    ready _ a.roster.now a.triples.now a.summary.now a.weights.now a.map.now a.work.now a.held a.summarised
    (triple a.s a.p a.o) _ c.call_refusal.ensures c.in-Ok.is

pub returns-in-Err : goal.returns-in-Err
returns-in-Err c = let a = c.args in
    as_counted (Promises _ a.roster.now feeding _ a.work.now (triple a.s a.p a.o)) _ _ _ _ c.with_counts.ensures _ _ _ _ _
    (by_refusal _ a.roster.now a.triples.now a.summary.now a.weights.now a.map.now a.work.now a.held a.summarised
    (triple a.s a.p a.o) _ c.call_refusal.ensures _ c.in-Err.is feeding)

pub returns-in-Ok : goal.returns-in-Ok
returns-in-Ok c = let a = c.args in
    let same = c.take_in.ensures.lent in
    let triples = same.triples in
    let summary = same.summary in
    let weights = same.weights in
    let map = same.map in
    by_lists _ a.roster.now a.triples.now a.summary.now a.weights.now a.map.now a.work.now a.held a.summarised
    (triple a.s a.p a.o) _ c.call_refusal.ensures c.in-Ok.is feeding _ c.take_in.new.lists c.take_in.result.counts _ c.take_in.ensures.passes
    _ _ _ _ (search rules) (search rules) (search rules) (search rules)
