use Rattle.std.proofs.Common.{ℕ, ◌≤◌, List, arith}
use Rattle.subject_lines.specs.Lines.{subject_part, end_of}
use Rattle.weak_summary.proofs.ws_subject_lines.Goals as goal

-- a part does not end before it starts
in_order : (code : ℕ) (summary table map : List ℕ) → (subject_part code summary table map).start ≤ (subject_part code summary table map).end
unfolding subject_part end_of
in_order code summary table map = omega arith

pub part_status-requires : goal.part_status-requires
part_status-requires c = rw c.subject_part.ensures (in_order c.args.code c.args.summary.now c.args.table.now c.args.map.now)
