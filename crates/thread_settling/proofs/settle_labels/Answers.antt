use native.Mathlib.Omega.{arith}
use Rattle.thread_settling.proofs.Loops.{labels-end}
use Rattle.thread_settling.proofs.settle_labels.Goals as goal

pub settle_label-requires : goal.settle_label-requires
settle_label-requires c = let K = c.requires in (
  record { groups = K.groups; before = K.before; state = c.loop-a.invariant K.groups K.before K.state },
  c.loop-a-test.true,
)

pub loop-a-preserved : goal.loop-a-preserved
loop-a-preserved c = λ g b k. c.settle_label.ensures g b (c.loop-a.invariant g b k)

pub returns : goal.returns
returns c = λ g b k. labels-end _ g b _ _ _ _ (c.loop-a.invariant g b k) (omega arith) c.loop-a-test.false
