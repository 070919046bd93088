use Rattle.std.proofs.Common.{◌≡◌, ◌/◌, length}
use Rattle.roster.proofs.Marking.{Left}
use Rattle.roster.proofs.mark_table.Given as goal

abbrev pub invariant-loop-i : goal.invariant-loop-i
invariant-loop-i l = record {
  size : length l.roster ≡ length l.initial.roster;
  left : Left l.words l.table l.initial.roster (length l.table / 3) l.i l.roster;
}
