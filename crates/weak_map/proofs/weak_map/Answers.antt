use native.Mathlib.Omega.{arith}
use Rattle.weak_map.proofs.Call.{openable, started, called}
use Rattle.weak_map.proofs.weak_map.Goals as goal

pub open_nodes-requires : goal.open_nodes-requires
open_nodes-requires c = openable _ c.args.table.now c.args.count c.args.roster.now c.args.map.now c.args.work.now c.requires _
    c.empty.ensures

pub link_table-requires : goal.link_table-requires
link_table-requires c = started _ c.args.table.now c.args.count c.args.roster.now c.args.map.now c.args.work.now c.requires _
    c.empty.ensures _
    c.empty-2.ensures _ c.open_nodes.ensures

pub returns : goal.returns
returns c = called _ c.args.table.now c.args.count c.args.roster.now c.args.map.now c.args.work.now c.requires _ _ _ _ _ _
    c.link_table.ensures
    (c.join_bare.ensures _ _ c.link_table.ensures)
    c.flatten.ensures c.clear.ensures (omega arith)
