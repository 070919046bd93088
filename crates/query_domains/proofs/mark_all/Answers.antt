use Rattle.query_domains.proofs.Marks.{all-step}
use Rattle.query_domains.proofs.mark_all.Goals as goal

pub loop-i-preserved : goal.loop-i-preserved
loop-i-preserved c = all-step _ _ _ _ _ _ _ _ _ c.loop-i.invariant c.mark_triple-some.ensures
