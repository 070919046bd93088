use Prim.Native.Nat.{ℕ}
use Rattle.model.specs.Partition.{label}
use Rattle.model.specs.Summary.{moved}
use Rattle.lists.specs.Flat.{at}
use Rattle.builder.proofs.Collecting.{Collecting}
use Rattle.summarise.proofs.images.Given as goal

abbrev pub invariant-loop-i : goal.invariant-loop-i
invariant-loop-i l = Collecting (λ (k : ℕ). moved (label l.map) (at l.table k)) l.count l.initial.list l.list l.state l.i
