use Prim.Native.Nat.{ℕ}
use mathlib.Core.Bool.{Bool}
use Rattle.node_cliques.specs.Labelling.{FirstProperties, Labelling}
use Rattle.node_cliques.proofs.label_nodes.Given as goal

abbrev pub invariant-loop-i : goal.invariant-loop-i
invariant-loop-i l = ((A : ℕ → Bool) → FirstProperties A l.roster l.initial.list → Labelling A l.roster l.none l.initial.list l.list l.i)
