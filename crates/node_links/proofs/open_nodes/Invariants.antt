use lib.ListN.{length}
use Rattle.node_links.specs.Linking.{Opened}
use Rattle.node_links.proofs.open_nodes.Given as goal

abbrev pub invariant-loop-i : goal.invariant-loop-i
invariant-loop-i l = Opened l.table l.i (length l.initial.map) l.map
