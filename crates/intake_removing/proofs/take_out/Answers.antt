use Rattle.model.specs.Intake.{removing}
use Rattle.intake_calls.specs.Calls.{Passing}
use Rattle.intake_calls.proofs.Calls.{as_counted}
use Rattle.intake_removing.proofs.Removing.{out-over, out-missing, out-low, out-ready, out_cut}
use Rattle.intake_removing.proofs.take_out.Goals as goal

pub returns-then-triples-held-clause-passes : goal.returns-then-triples-held-clause-passes
returns-then-triples-held-clause-passes c = as_counted (Passing _ c.args.roster.now removing _ c.args.work.now c.args.t) _ _ _ _ c.with_counts.ensures _ _ _ _
    _ (out-over _ c.args.roster.now c.args.lists.now.triples.now c.args.lists.now.summary.now c.args.lists.now.weights.now
    c.args.lists.now.map.now c.args.work.now c.args.counts.held c.args.counts.summarised c.args.t c.if-triples-held.true)

pub cut-requires : goal.cut-requires
cut-requires c = (
  out-ready _ c.args.roster.now c.args.lists.now.triples.now c.args.lists.now.summary.now c.args.lists.now.weights.now
      c.args.lists.now.map.now c.args.work.now c.args.counts.held c.args.counts.summarised c.args.t _
      c.lower_bound-i.ensures _ c.stands_at.ensures c.if-stands_at.true c.requires,
  out-low c.args.words c.args.roster.now
      c.args.lists.now.triples.now c.args.lists.now.summary.now c.args.lists.now.weights.now c.args.lists.now.map.now c.args.work.now
      c.args.counts.held c.args.counts.summarised c.args.t _ c.lower_bound-i.ensures _ c.stands_at.ensures
      c.if-stands_at.true,
  c.if-triples-held.false,
)

pub returns-then-stands_at-clause-passes : goal.returns-then-stands_at-clause-passes
returns-then-stands_at-clause-passes c = out_cut _ c.args.roster.now c.args.lists.now.triples.now c.args.lists.now.summary.now c.args.lists.now.weights.now c.args.lists.now.map.now
    c.args.work.now c.args.counts.held c.args.counts.summarised c.args.t _ c.lower_bound-i.ensures _
    c.stands_at.ensures c.if-stands_at.true _ _ _ c.cut.ensures.passes

pub returns-clause-passes : goal.returns-clause-passes
returns-clause-passes c = as_counted (Passing _ c.args.roster.now removing _ c.args.work.now c.args.t) _ _ _ _ c.with_counts-2.ensures _ _ _ _
    _ (out-missing _ c.args.roster.now c.args.lists.now.triples.now c.args.lists.now.summary.now c.args.lists.now.weights.now
    c.args.lists.now.map.now c.args.work.now c.args.counts.held c.args.counts.summarised c.args.t _
    c.lower_bound-i.ensures _ c.stands_at.ensures c.if-stands_at.false)
