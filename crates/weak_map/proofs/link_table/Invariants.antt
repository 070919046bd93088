use Rattle.model.specs.Lists.{tabulate}
use Rattle.lists.specs.Flat.{at}
use Rattle.node_links.specs.Linking.{Linked, Seen}
use Rattle.weak_map.proofs.link_table.Given as goal

abbrev pub invariant-loop-i : goal.invariant-loop-i
invariant-loop-i l = Linked l.words l.roster (tabulate (at l.table) 0 l.count) (Seen l.words l.table l.roster l.i l.i) l.map l.work
