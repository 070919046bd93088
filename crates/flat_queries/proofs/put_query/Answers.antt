use mathlib.Core.Path.{refl}
use lib.ListN.{length-set}
use Rattle.flat_queries.proofs.Queries.{putting_start, putting_step, query-put}
use Rattle.flat_queries.proofs.put_query.Goals as goal

pub loop-j-init : goal.loop-j-init
loop-j-init c = (simp length-set c.requires.0, refl, putting_start _ _ _)

pub loop-j-preserved : goal.loop-j-preserved
loop-j-preserved c = (
  c.loop-j.invariant.0,
  c.loop-j.invariant.1,
  putting_step _ _ _ _ _ c.loop-j.invariant.2 c.loop-j-test.true _
      c.put_pattern.ensures,
)

pub returns : goal.returns
returns c = query-put _ _ _ _ _ c.loop-j.invariant.2 c.loop-j-test.false
