use mathlib.Core.Path.{ap}
use lib.ListN.{replicate}
use Rattle.flat_queries.proofs.Queries.{patterns_start, patterns_step, patterns_end}
use Rattle.flat_queries.proofs.query_of.Goals as goal

pub loop-k-init : goal.loop-k-init
loop-k-init c = patterns_start _ _ (ap (replicate 8) c.blank_pattern-patterns.ensures)

pub loop-k-preserved : goal.loop-k-preserved
loop-k-preserved c = patterns_step _ _ _ c.loop-k.invariant c.loop-k-test.true _ c.flat_pattern.ensures

pub returns : goal.returns
returns c = patterns_end _ _ _ c.loop-k.invariant c.loop-k-test.false
