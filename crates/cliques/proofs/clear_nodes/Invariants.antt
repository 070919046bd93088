use Rattle.property_groups.specs.Grouping.{NodesCleared}
use Rattle.cliques.proofs.clear_nodes.Given as goal

abbrev pub invariant-loop-i : goal.invariant-loop-i
invariant-loop-i l = NodesCleared l.roster l.initial.list l.list l.i
