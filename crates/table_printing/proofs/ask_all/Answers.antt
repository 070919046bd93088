use native.Mathlib.Omega.{arith}
use Rattle.table_printing.proofs.Answers.{asks-start, asks-step, asks-end}
use Rattle.table_printing.proofs.ask_all.Goals as goal

pub loop-i-init : goal.loop-i-init
loop-i-init c = asks-start _ _ _ _

pub loop-i-preserved : goal.loop-i-preserved
loop-i-preserved c = asks-step _ _ _ _ _ _ c.loop-i.invariant (omega (arith, c.requires, c.loop-i-test.true)) _ c.ask.ensures

pub returns : goal.returns
returns c = asks-end _ _ _ _ _ _ _ c.loop-i.invariant c.loop-i-test.false
