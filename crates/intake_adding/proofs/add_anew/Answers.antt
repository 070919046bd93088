use mathlib.Core.Path.{sym, ◌∙◌}
use Rattle.intake_calls.proofs.Calls.{as_counted}
use Rattle.intake_adding.specs.Adding.{AddCall}
use Rattle.intake_adding.proofs.Adding.{added-wrong, renewable, added_slow}
use Rattle.intake_adding.proofs.add_anew.Goals as goal

pub returns-then-held_wrong-clause-passes : goal.returns-then-held_wrong-clause-passes
returns-then-held_wrong-clause-passes c = let a = c.args in let l = a.lists.now in
    let p = c.requires in
    as_counted (AddCall _ a.roster.now _ a.work.now a.t a.i) _ _ _ _ c.with_counts.ensures _ _ _ _ _
    (added-wrong _ a.roster.now l.triples.now l.summary.now l.weights.now l.map.now a.work.now a.counts.held a.counts.summarised
    a.t a.i p.0 p.1 p.2
    (sym c.held_wrong.ensures ∙ c.if-held_wrong.true))

pub renew-k-requires : goal.renew-k-requires
renew-k-requires c = let a = c.args in let l = a.lists.now in
    let p = c.requires in
    renewable _ a.roster.now l.triples.now l.summary.now l.weights.now l.map.now a.work.now a.counts.held a.counts.summarised a.t
    a.i p.0 p.1 p.2 _ c.insert_at.ensures
    (sym c.held_wrong.ensures ∙ c.if-held_wrong.false)

pub returns-clause-passes : goal.returns-clause-passes
returns-clause-passes c = let a = c.args in let l = a.lists.now in
    let p = c.requires in
    as_counted (AddCall _ a.roster.now _ a.work.now a.t a.i) _ _ _ _ c.with_counts-2.ensures _ _ _ _ _
    (added_slow _ a.roster.now l.triples.now l.summary.now l.weights.now l.map.now a.work.now a.counts.held a.counts.summarised
    a.t a.i p.0 p.1 p.2 _ c.insert_at.ensures (sym c.held_wrong.ensures ∙ c.if-held_wrong.false) _ _ _ _ _
    c.renew-k.ensures)
