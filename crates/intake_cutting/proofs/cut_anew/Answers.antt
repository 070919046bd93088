use mathlib.Core.Path.{sym, ◌∙◌}
use Rattle.intake_calls.proofs.Calls.{as_counted}
use Rattle.intake_cutting.specs.Cutting.{CutCall}
use Rattle.intake_cutting.proofs.Cutting.{cut_wrong, renewable, cut_slow}
use Rattle.intake_cutting.proofs.cut_anew.Goals as goal

pub returns-then-held_wrong-clause-passes : goal.returns-then-held_wrong-clause-passes
returns-then-held_wrong-clause-passes c = as_counted (CutCall _ c.args.roster.now _ c.args.work.now c.args.i) _ _ _ _ c.with_counts.ensures _ _ _ _ _
    (cut_wrong _ c.args.roster.now c.args.lists.now.triples.now c.args.lists.now.summary.now c.args.lists.now.weights.now
    c.args.lists.now.map.now c.args.work.now c.args.counts.held c.args.counts.summarised c.args.i c.requires.0
    c.requires.1 c.requires.2 (sym c.held_wrong.ensures ∙ c.if-held_wrong.true))

pub renew-k-requires : goal.renew-k-requires
renew-k-requires c = renewable _ c.args.roster.now c.args.lists.now.triples.now c.args.lists.now.summary.now c.args.lists.now.weights.now
    c.args.lists.now.map.now c.args.work.now c.args.counts.held c.args.counts.summarised c.args.i c.requires.0
    c.requires.1 c.requires.2 _ c.delete_at.ensures (sym c.held_wrong.ensures ∙ c.if-held_wrong.false)

pub returns-clause-passes : goal.returns-clause-passes
returns-clause-passes c = as_counted (CutCall _ c.args.roster.now _ c.args.work.now c.args.i) _ _ _ _ c.with_counts-2.ensures _ _ _ _ _
    (cut_slow _ c.args.roster.now c.args.lists.now.triples.now c.args.lists.now.summary.now c.args.lists.now.weights.now
    c.args.lists.now.map.now c.args.work.now c.args.counts.held c.args.counts.summarised c.args.i c.requires.0
    c.requires.1 c.requires.2 _ c.delete_at.ensures (sym c.held_wrong.ensures ∙ c.if-held_wrong.false) _ _ _ _ _
    c.renew-k.ensures)
