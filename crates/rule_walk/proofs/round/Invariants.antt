use Rattle.builder.specs.Builder.{opening}
use Rattle.rule_walk.proofs.Sweeps.{Rules}
use Rattle.rule_walk.proofs.round.Given as goal

abbrev pub invariant-loop-k : goal.invariant-loop-k
invariant-loop-k l = Rules l.words l.initial.list l.list (opening l.count l.count) l.state l.fn.places.start l.k
