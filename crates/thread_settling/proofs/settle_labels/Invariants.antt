use Prim.Native.Nat.{ℕ}
use mathlib.Core.List.{List}
use Rattle.thread_settling.specs.Threads.{Groups}
use Rattle.thread_settling.specs.Calls.{Settling}
use Rattle.thread_settling.proofs.settle_labels.Given as goal

abbrev pub invariant-loop-a : goal.invariant-loop-a
invariant-loop-a l = (g : Groups) (before : List ℕ) → Settling l.words g before l.roster l.initial.map l.initial.work 0 → Settling l.words g before l.roster l.map l.work l.a
