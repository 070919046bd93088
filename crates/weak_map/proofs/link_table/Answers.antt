use native.Mathlib.Omega.{arith}
use Rattle.weak_map.proofs.Tables.{source_linkable, source_linked, target_linkable, target_linked, linked-all}
use Rattle.weak_map.proofs.link_table.Goals as goal

pub link_end-requires : goal.link_end-requires
link_end-requires c = source_linkable _ c.args.table.now c.args.count c.args.roster.now c.requires.right _ c.loop-i-test.true _
    c.triple_at-t.ensures _ _ c.loop-i.invariant

pub link_end-requires-in-loop-i : goal.link_end-requires-in-loop-i
link_end-requires-in-loop-i c = let h = c.loop-i-test.true in
    let t = c.triple_at-t.ensures in
    target_linkable _ c.args.table.now c.args.count c.args.roster.now c.requires.right _ h _ t _ _
    (source_linked _ c.args.table.now c.args.count c.args.roster.now c.requires.right _ h _ t _ _ c.loop-i.invariant _ _
    c.link_end.ensures)

pub loop-i-preserved : goal.loop-i-preserved
loop-i-preserved c = let h = c.loop-i-test.true in
    let t = c.triple_at-t.ensures in
    target_linked _ c.args.table.now c.args.count c.args.roster.now c.requires.right _ h _ t _ _
    (source_linked _ c.args.table.now c.args.count c.args.roster.now c.requires.right _ h _ t _ _ c.loop-i.invariant _ _
    c.link_end.ensures)
    _ _ c.link_end-in-loop-i.ensures

pub returns : goal.returns
returns c = linked-all _ c.args.table.now c.args.count c.args.roster.now c.requires.right _ _ _ (omega arith) c.loop-i-test.false
    c.loop-i.invariant
