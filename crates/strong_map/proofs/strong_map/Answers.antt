use Rattle.strong_map.proofs.Whole.{nodes-openable, threads_ready, settle_ready, called}
use Rattle.strong_map.proofs.strong_map.Goals as goal

pub open_nodes-requires : goal.open_nodes-requires
open_nodes-requires c = nodes-openable _ c.args.table.now c.args.roster.now c.args.map.now c.args.work.now c.requires.0 c.requires.1 c.requires.2 _
    c.empty.ensures

pub thread_nodes-requires : goal.thread_nodes-requires
thread_nodes-requires c = threads_ready _ c.args.table.now c.args.roster.now c.args.map.now c.args.work.now c.requires.0 c.requires.1 c.requires.2 _
    c.empty.ensures _ c.open_nodes.ensures _ c.both_cliques.ensures

pub settle_labels-requires : goal.settle_labels-requires
settle_labels-requires c = settle_ready _ c.args.table.now c.args.roster.now c.args.map.now c.args.work.now c.requires.0 c.requires.1 c.requires.2 _
    c.empty.ensures _ c.open_nodes.ensures _ c.both_cliques.ensures _ _ c.thread_nodes.ensures

pub returns : goal.returns
returns c = called _ c.args.table.now c.args.roster.now c.args.map.now c.args.work.now c.requires.0 c.requires.1 c.requires.2 _
    c.empty.ensures _ c.open_nodes.ensures _ c.both_cliques.ensures _ _ c.thread_nodes.ensures _ _ _
    c.settle_labels.ensures c.clear.ensures
