use Rattle.property_groups.specs.Grouping.{Grouped}
use Rattle.property_groups.proofs.link_table.Given as goal

abbrev pub invariant-loop-i : goal.invariant-loop-i
invariant-loop-i l = Grouped l.words l.table l.roster l.side l.i l.list
