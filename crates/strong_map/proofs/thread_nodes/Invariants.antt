use Rattle.thread_settling.specs.Threads.{Groups, Threaded}
use Rattle.thread_settling.specs.Calls.{Labelled}
use Rattle.strong_map.proofs.thread_nodes.Given as goal

abbrev pub invariant-loop-i : goal.invariant-loop-i
invariant-loop-i l = ((g : Groups) → Labelled g l.roster l.initial.map l.initial.work → Threaded g l.i l.initial.map l.map l.initial.work l.work)
