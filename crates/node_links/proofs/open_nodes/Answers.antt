use Rattle.node_links.proofs.Nodes.{opened-start, subject-inside, object-inside, opened-step}
use Rattle.node_links.proofs.open_nodes.Goals as goal

pub loop-i-init : goal.loop-i-init
loop-i-init c = opened-start c.args.table.now c.args.count c.args.map.now c.requires

pub own_entry-requires : goal.own_entry-requires
own_entry-requires c = subject-inside c.args.table.now c.args.count c.args.map.now c.requires _ c.loop-i-test.true _
    c.triple_at-t.ensures _
    c.loop-i.invariant

pub own_entry-requires-in-loop-i : goal.own_entry-requires-in-loop-i
own_entry-requires-in-loop-i c = object-inside c.args.table.now c.args.count c.args.map.now c.requires _ c.loop-i-test.true _
    c.triple_at-t.ensures _ c.loop-i.invariant _
    c.own_entry.ensures

pub loop-i-preserved : goal.loop-i-preserved
loop-i-preserved c = opened-step c.args.table.now c.args.count c.args.map.now c.requires _
    c.loop-i-test.true _
    c.triple_at-t.ensures _
    c.loop-i.invariant _ _
    c.own_entry.ensures c.own_entry-in-loop-i.ensures
