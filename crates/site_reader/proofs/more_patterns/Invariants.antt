use Rattle.std.proofs.Common.{◌-◌}
use Rattle.site_reader.proofs.Queries.{Reading}
use Rattle.site_reader.proofs.more_patterns.Given as goal

abbrev pub invariant-loop-value : goal.invariant-loop-value
invariant-loop-value l = Reading l.text l.initial.next l.initial.value l.value l.next

abbrev pub decreases-loop-value : goal.decreases-loop-value
decreases-loop-value l = 8 - l.value.count
