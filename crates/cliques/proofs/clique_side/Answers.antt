use Rattle.property_groups.proofs.Ends.{grouped-end}
use Rattle.cliques.proofs.clique_side.Goals as goal

pub returns : goal.returns
returns c = grouped-end _ _ _ _ _ _ _ c.requires.0 c.group_side.ensures c.clear_nodes.ensures c.flatten.ensures
