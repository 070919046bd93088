use Rattle.std.proofs.Common.{refl, sym, ◌∙◌}
use Rattle.site_report.proofs.Lines.{node-none, room-node, node-some}
use Rattle.site_report.proofs.put_node.Goals as goal

pub put_pair-requires : goal.put_pair-requires
put_pair-requires c = room-node c.args.page.now.out.now _ _ _ c.requires.0 _ c.narrow.ensures (sym c.is_absent.ensures ∙ c.if-not-is_absent.true)
    c.requires.2

pub returns-then-not-is_absent : goal.returns-then-not-is_absent
returns-then-not-is_absent c = record {
  put = node-some _ _ _ _ c.requires.0 _ c.narrow.ensures (sym c.is_absent.ensures ∙ c.if-not-is_absent.true) _ _
      c.put_pair.ensures.put;
  lent = c.put_pair.ensures.lent;
}

pub returns-else-not-is_absent : goal.returns-else-not-is_absent
returns-else-not-is_absent c = record { put = node-none _ _ _ _ c.requires.0 _ refl (sym c.is_absent.ensures ∙ c.if-not-is_absent.false); lent = refl }
