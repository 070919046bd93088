use native.Mathlib.Omega.{arith}
use Rattle.property_groups.proofs.Entries.{cleared-node, cleared-marked}
use Rattle.cliques.proofs.clear_nodes.Goals as goal
use Rattle.cliques.proofs.clear_nodes.Goals.{else-roster-i-eq0, then-roster-i-eq0}

pub loop-i-preserved : goal.loop-i-preserved
loop-i-preserved c = let d = c.loop-i.invariant in
    elim c.if-roster-i-eq0.branch [
      | then-roster-i-eq0 w ↦ cleared-node _ _ _ _ d (omega (arith, d.size)) w.if-roster-i-eq0.true _ w.list-is
      | else-roster-i-eq0 w ↦ cleared-marked _ _ _ _ d w.if-roster-i-eq0.false _ w.list-is
    ]
