use Rattle.flat_queries.proofs.Queries.{queries-start, queries-step, queries-end}
use Rattle.flat_queries.proofs.put_queries.Goals as goal

pub loop-k-init : goal.loop-k-init
loop-k-init c = queries-start _ _

pub loop-k-preserved : goal.loop-k-preserved
loop-k-preserved c = queries-step _ _ _ _ c.loop-k.invariant c.loop-k-test.true _ c.put_query.ensures

pub returns : goal.returns
returns c = queries-end _ _ _ _ c.loop-k.invariant c.loop-k-test.false c.requires
