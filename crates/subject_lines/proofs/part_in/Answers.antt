use Rattle.subject_lines.proofs.Parts.{part-is}
use Rattle.subject_lines.proofs.part_in.Goals as goal

pub returns : goal.returns
returns c = part-is _ _ _ _ c.first_line-first.ensures c.line_end-behind.ensures _
