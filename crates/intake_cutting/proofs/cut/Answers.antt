use native.Mathlib.Omega.{arith}
use Rattle.intake_calls.proofs.Calls.{as_counted}
use Rattle.intake_cutting.specs.Cutting.{CutCall}
use Rattle.intake_cutting.proofs.Cutting.{kept-asks, kept_at, lightable, cut_quick}
use Rattle.intake_cutting.proofs.cut.Goals as goal

pub kept_image-requires : goal.kept_image-requires
kept_image-requires c = kept-asks _ c.args.roster.now c.args.lists.now.triples.now c.args.lists.now.summary.now c.args.lists.now.weights.now
    c.args.lists.now.map.now c.args.work.now c.args.counts.held c.args.counts.summarised c.args.i c.requires.0
    c.requires.1 c.requires.2 _ c.triple_at-t.ensures

pub lighten-lines-requires : goal.lighten-lines-requires
lighten-lines-requires c = let k = kept_at _ c.args.roster.now c.args.lists.now.triples.now c.args.lists.now.summary.now c.args.lists.now.weights.now
    c.args.lists.now.map.now c.args.work.now c.args.counts.held c.args.counts.summarised c.args.i c.requires.0
    c.requires.1 c.requires.2 _ c.triple_at-t.ensures _ _ c.kept_image.ensures c.in-Some.is in lightable _
    c.args.roster.now c.args.lists.now.triples.now c.args.lists.now.summary.now c.args.lists.now.weights.now c.args.lists.now.map.now
    c.args.work.now c.args.counts.held c.args.counts.summarised c.args.i c.requires.0 c.requires.1 c.requires.2 _
    c.delete_at.ensures k.0 _ k.1

pub overflow_sub-held : goal.overflow_sub-held
overflow_sub-held c = omega (arith, c.requires.1)

pub returns-clause-passes : goal.returns-clause-passes
returns-clause-passes c = let k = kept_at _ c.args.roster.now c.args.lists.now.triples.now c.args.lists.now.summary.now c.args.lists.now.weights.now
    c.args.lists.now.map.now c.args.work.now c.args.counts.held c.args.counts.summarised c.args.i c.requires.0
    c.requires.1 c.requires.2 _ c.triple_at-t.ensures _ _ c.kept_image.ensures c.in-Some.is in as_counted
    (CutCall _ c.args.roster.now _ c.args.work.now c.args.i) _ _ _ _ c.with_counts.ensures _ _ _ _ _
    (cut_quick _ c.args.roster.now c.args.lists.now.triples.now c.args.lists.now.summary.now c.args.lists.now.weights.now
    c.args.lists.now.map.now c.args.work.now c.args.counts.held c.args.counts.summarised c.args.i c.requires.0
    c.requires.1 c.requires.2 _ c.delete_at.ensures k.0 _ k.1 _ _ _ c.lighten-lines.ensures _ c.clear.ensures)
