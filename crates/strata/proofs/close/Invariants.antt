use Prim.Native.Nat.{◌-◌}
use lib.ListN.{length}
use Rattle.theory.specs.Tables.{In}
use Rattle.builder.specs.Builder.{first}
use Rattle.strata.proofs.Closing.{Closing}
use Rattle.strata.proofs.close.Given as goal

abbrev pub invariant-loop-state : goal.invariant-loop-state
invariant-loop-state l = Closing l.words (In (first l.initial.list l.filled)) l.initial.list l.list l.state

abbrev pub decreases-loop-state : goal.decreases-loop-state
decreases-loop-state l = length l.initial.list - l.state.base
