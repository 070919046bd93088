use Rattle.property_groups.proofs.Places.{grouped-start}
use Rattle.property_groups.proofs.group_side.Goals as goal

pub link_table-requires : goal.link_table-requires
link_table-requires c = let s = c.requires in (s.0, grouped-start _ _ _ _ _ _ s.0 s.1 c.empty.ensures)
