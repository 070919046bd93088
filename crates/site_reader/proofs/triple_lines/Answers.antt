use Rattle.std.proofs.Common.{sym}
use Rattle.site_reader.proofs.Triples.{lines_step, lines_stop, lines-full}
use Rattle.site_reader.proofs.triple_lines.Goals as goal

pub returns-in_default : goal.returns-in_default
returns-in_default c = lines_stop _ _ _ _ _ _ c.loop-count.invariant (sym c.in_default.ensures)

pub loop-count-preserved : goal.loop-count-preserved
loop-count-preserved c = lines_step _ _ _ _ _ _ c.loop-count.invariant c.loop-count-test.true _ _ (sym c.in-Some.ensures) _ c.store.ensures

pub returns : goal.returns
returns c = lines-full _ _ _ _ _ _ c.loop-count.invariant c.loop-count-test.false
