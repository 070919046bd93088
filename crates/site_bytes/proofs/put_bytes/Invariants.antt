use Rattle.site_bytes.proofs.Stores.{Putting}
use Rattle.site_bytes.proofs.put_bytes.Given as goal

abbrev pub invariant-loop-i : goal.invariant-loop-i
invariant-loop-i l = Putting l.initial.out l.at l.w l.out l.i
