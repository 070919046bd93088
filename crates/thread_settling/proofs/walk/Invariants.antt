use Prim.Native.Nat.{ℕ, ◌-◌}
use mathlib.Core.List.{List}
use Rattle.model.specs.Codes.{absent}
use Rattle.thread_settling.specs.Threads.{Groups}
use Rattle.thread_settling.specs.Calls.{Walkable}
use Rattle.thread_settling.proofs.Loops.{Walking}
use Rattle.thread_settling.proofs.walk.Given as goal

abbrev pub invariant-loop-map : goal.invariant-loop-map
invariant-loop-map l = (g : Groups) (before : List ℕ) → Walkable g before l.initial.map l.initial.work l.n l.a → Walking g l.n l.a l.c l.initial.map l.map l.initial.work l.work

abbrev pub decreases-loop-map : goal.decreases-loop-map
decreases-loop-map l = absent - l.c
