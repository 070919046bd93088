use Rattle.std.proofs.Common.{refl, ◌∙◌, arith}
use Rattle.site_report.proofs.Lines.{lines_start, room-line, lines_step, lines_end, room_as, put_as, nodes_are}
use Rattle.site_report.proofs.put_nodes.Goals as goal

pub loop-i-init : goal.loop-i-init
loop-i-init c = record { lines = lines_start _ _ _ _; lent = refl }

pub put_node-requires : goal.put_node-requires
put_node-requires c = (
  c.loop-i-test.true,
  omega (arith, c.requires.0),
  room-line _ _ _ _ _ _ _ c.loop-i.invariant.lines c.loop-i-test.true (room_as _ (nodes_are _) c.requires.1),
)

pub loop-i-preserved : goal.loop-i-preserved
loop-i-preserved c = record {
  lines = lines_step _ _ _ _ _ _ _ c.loop-i.invariant.lines c.loop-i-test.true _ _ c.put_node.ensures.put;
  lent = c.put_node.ensures.lent ∙ c.loop-i.invariant.lent;
}

pub returns : goal.returns
returns c = record {
  put = put_as _ (nodes_are _) _ _ _ (lines_end _ _ _ _ _ _ _ c.loop-i.invariant.lines c.loop-i-test.false);
  lent = c.loop-i.invariant.lent;
}
