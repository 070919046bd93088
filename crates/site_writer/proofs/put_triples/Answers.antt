use Rattle.std.proofs.Common.{refl, ◌∙◌}
use Rattle.site_writer.proofs.Lines.{lines_start, room-line, lines_step, lines_end}
use Rattle.site_writer.proofs.put_triples.Goals as goal

pub loop-i-init : goal.loop-i-init
loop-i-init c = record { lines = lines_start _ _ _; lent = refl }

pub put_triple-requires : goal.put_triple-requires
put_triple-requires c = room-line _ _ _ _ _ _ c.loop-i.invariant.lines c.loop-i-test.true _ c.triple_at.ensures c.requires

pub loop-i-preserved : goal.loop-i-preserved
loop-i-preserved c = record {
  lines = lines_step _ _ _ _ _ _ c.loop-i.invariant.lines c.loop-i-test.true _ c.triple_at.ensures _ _ c.put_triple.ensures.put;
  lent = c.put_triple.ensures.lent ∙ c.loop-i.invariant.lent;
}

pub returns : goal.returns
returns c = record { put = lines_end _ _ _ _ _ _ c.loop-i.invariant.lines c.loop-i-test.false; lent = c.loop-i.invariant.lent }
