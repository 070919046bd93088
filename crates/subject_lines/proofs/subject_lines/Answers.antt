use mathlib.Core.Bool.{true, false}
use Rattle.subject_lines.proofs.Parts.{range, from-summary, from-table}
use Rattle.subject_lines.proofs.subject_lines.Goals as goal

pub between-requires : goal.between-requires
between-requires c = range _ _ _ _ _ c.subject_part-part.ensures true c.if-part.true

pub returns-then-part : goal.returns-then-part
returns-then-part c = from-summary c.args.code c.args.summary c.args.table c.args.map.now _ c.subject_part-part.ensures _ c.if-part.true c.between.ensures

pub between-requires-2 : goal.between-requires-2
between-requires-2 c = range _ _ _ _ _ c.subject_part-part.ensures false c.if-part.false

pub returns : goal.returns
returns c = from-table c.args.code c.args.summary c.args.table c.args.map.now _ c.subject_part-part.ensures _ c.if-part.false c.between-2.ensures
