use native.Mathlib.Omega.{arith}
use Rattle.site_reader.proofs.Queries.{asks_start, sixteen, asks-step, asks_stop, asks-full}
use Rattle.site_reader.proofs.ask_lines.Goals as goal

pub returns-in_default : goal.returns-in_default
returns-in_default c = asks_stop _ _ _ _ _ c.loop-count.invariant c.in_default.ensures

pub loop-count-preserved : goal.loop-count-preserved
loop-count-preserved c = asks-step _ _ _ _ _ c.loop-count.invariant c.loop-count-test.true _ _ c.in-Some.ensures

pub returns : goal.returns
returns c = asks-full _ _ _ _ _ c.loop-count.invariant c.loop-count-test.false

pub loop-count-init : goal.loop-count-init
loop-count-init c = asks_start _ _ _ c.requires

pub bounds-queries-count : goal.bounds-queries-count
bounds-queries-count c = let s = sixteen _ c.requires in omega (arith, c.loop-count.auto, c.loop-count-test.true)
