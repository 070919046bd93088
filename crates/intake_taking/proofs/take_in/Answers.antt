use Rattle.model.specs.Intake.{feeding}
use Rattle.intake_calls.specs.Calls.{Passing}
use Rattle.intake_calls.proofs.Calls.{as_counted}
use Rattle.intake_taking.proofs.Taking.{taken-over, taken-same, taken-full, taken-new}
use Rattle.intake_taking.proofs.take_in.Goals as goal

pub returns-then-slots-held-clause-passes : goal.returns-then-slots-held-clause-passes
returns-then-slots-held-clause-passes c = let a = c.args in let l = a.lists.now in
    as_counted (Passing _ a.roster.now feeding _ a.work.now a.t) _ _ _ _ c.with_counts.ensures _ _ _ _ _
    (taken-over _ a.roster.now l.triples.now l.summary.now l.weights.now l.map.now a.work.now a.counts.held a.counts.summarised
    a.t c.if-slots-held.true)

pub returns-then-stands_at-clause-passes : goal.returns-then-stands_at-clause-passes
returns-then-stands_at-clause-passes c = let a = c.args in let l = a.lists.now in
    as_counted (Passing _ a.roster.now feeding _ a.work.now a.t) _ _ _ _ c.with_counts-then-stands_at.ensures _ _ _ _ _
    (taken-same _ a.roster.now l.triples.now l.summary.now l.weights.now l.map.now a.work.now a.counts.held a.counts.summarised
    a.t _ c.lower_bound-i.ensures _ c.stands_at.ensures c.if-stands_at.true _ c.clear.ensures)

pub returns-then-held-slots-clause-passes : goal.returns-then-held-slots-clause-passes
returns-then-held-slots-clause-passes c = let a = c.args in let l = a.lists.now in
    taken-new _ a.roster.now l.triples.now l.summary.now l.weights.now l.map.now a.work.now a.counts.held a.counts.summarised a.t
    _ c.lower_bound-i.ensures _ c.stands_at.ensures c.if-stands_at.false c.if-held-slots.true _ _ _ c.add.ensures.passes

pub returns-clause-passes : goal.returns-clause-passes
returns-clause-passes c = let a = c.args in let l = a.lists.now in
    as_counted (Passing _ a.roster.now feeding _ a.work.now a.t) _ _ _ _ c.with_counts-2.ensures _ _ _ _ _
    (taken-full _ a.roster.now l.triples.now l.summary.now l.weights.now l.map.now a.work.now a.counts.held a.counts.summarised
    a.t _ c.lower_bound-i.ensures _ c.stands_at.ensures c.if-stands_at.false c.if-held-slots.false)
