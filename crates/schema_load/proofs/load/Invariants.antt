use Rattle.schema_load.proofs.Loading.{Loading}
use Rattle.schema_load.proofs.load.Given as goal

abbrev pub invariant-loop-i : goal.invariant-loop-i
invariant-loop-i l = Loading l.words l.table l.share l.count l.initial.list l.list l.state l.i
