use Rattle.model.specs.Rules.{numbered}
use Rattle.rule_walk.proofs.Sweeps.{Drivers}
use Rattle.rule_walk.proofs.draw_rule.Given as goal

abbrev pub invariant-loop-i : goal.invariant-loop-i
invariant-loop-i l = Drivers l.words l.initial.list l.list l.initial.state l.state (numbered l.r) l.i
