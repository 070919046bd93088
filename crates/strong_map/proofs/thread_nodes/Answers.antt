use mathlib.Core.Path.{refl}
use native.Mathlib.Omega.{arith}
use Rattle.thread_settling.proofs.Loops.{threads_start, thread_ready, threads_step, threads_end}
use Rattle.strong_map.proofs.thread_nodes.Goals as goal

pub loop-i-init : goal.loop-i-init
loop-i-init c = λ g l. threads_start g _ _ _ l _ refl

pub thread_node-requires : goal.thread_node-requires
thread_node-requires c = thread_ready c.requires.groups _ _ _ c.requires.state _ _ _ _ (c.loop-i.invariant c.requires.groups c.requires.state) (omega arith)
    (omega arith)

pub loop-i-preserved : goal.loop-i-preserved
loop-i-preserved c = λ g l. threads_step g _ _ _ l _ _ _ _ (c.loop-i.invariant g l) (omega arith) (omega arith) _ _
    c.thread_node.ensures

pub returns : goal.returns
returns c = λ g l. threads_end g _ _ _ l _ _ _ (c.loop-i.invariant g l) (omega arith)
