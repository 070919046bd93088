use Rattle.node_cliques.proofs.Labelling.{labelled-end}
use Rattle.node_cliques.proofs.node_cliques.Goals as goal

pub returns : goal.returns
returns c = labelled-end _ c.args.table.now c.args.roster.now c.args.side c.requires.0 _ c.group_side.ensures _
    c.label_nodes.ensures _ c.empty_labels.ensures
