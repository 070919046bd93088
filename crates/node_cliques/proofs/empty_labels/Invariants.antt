use Rattle.model.specs.Codes.{absent}
use Rattle.node_cliques.specs.Labels.{is_label}
use Rattle.node_cliques.specs.Labelling.{EntriesFilled}
use Rattle.node_cliques.proofs.empty_labels.Given as goal

abbrev pub invariant-loop-i : goal.invariant-loop-i
invariant-loop-i l = EntriesFilled (is_label l.words l.roster) absent l.initial.list l.list l.i
