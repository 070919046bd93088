use Rattle.std.proofs.Common.{◌≡◌, length}
use Rattle.intake_weighing.proofs.Weighing.{WeighedTo}
use Rattle.intake_weighing.proofs.weigh.Given as goal

abbrev pub invariant-loop-i : goal.invariant-loop-i
invariant-loop-i l = WeighedTo l.triples l.map l.summary l.k l.initial.weights l.weights l.i × (length l.work ≡ length l.initial.work)
