use Rattle.std.proofs.Common.{length, ◌-◌, ◌≡◌, drop}
use Rattle.site_form.specs.Reading.{more_of}
use Rattle.site_tokens.proofs.digits.Given as goal

abbrev pub invariant-loop-next : goal.invariant-loop-next
invariant-loop-next l = more_of l.first l.from (drop l.from l.text) ≡ more_of l.value l.next (drop l.next l.text)

abbrev pub decreases-loop-next : goal.decreases-loop-next
decreases-loop-next l = length l.text - l.next
