use native.Mathlib.Omega.{arith}
use Rattle.node_cliques.proofs.Labelling.{labelling-end}
use Rattle.node_cliques.proofs.label_nodes.Goals as goal

pub label_node-requires : goal.label_node-requires
label_node-requires c = (
  record { A = c.requires.A; before = c.args.list.now; labelling = c.loop-i.invariant c.requires.A c.requires.start },
  c.loop-i-test.true,
)

pub loop-i-preserved : goal.loop-i-preserved
loop-i-preserved c = λ A f. c.label_node.ensures A _ (c.loop-i.invariant A f)

pub returns : goal.returns
returns c = λ A f. labelling-end A _ _ _ _ _ (c.loop-i.invariant A f) (omega arith) c.loop-i-test.false
