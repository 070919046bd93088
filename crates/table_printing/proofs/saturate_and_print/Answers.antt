use native.Mathlib.Omega.{arith}
use Rattle.table_printing.proofs.Reports.{shows}
use Rattle.table_printing.proofs.Parts.{sat-refused, sat-few, sat-end, sat-whole, sat-put}
use Rattle.table_printing.proofs.saturate_and_print.Goals as goal

pub returns-in_default : goal.returns-in_default
returns-in_default c = shows _ _ _ (sat-refused _ _ _ _ c.requires.1 c.requires.2 _ _ c.own_roster.ensures _ _ c.saturate.ensures _
    c.in_default.is _ _) _ _ c.refuse.ensures

pub overflow_mul-k : goal.overflow_mul-k
overflow_mul-k c = let h = sat-few _ _ _ _ c.requires.1 c.requires.2 _ _ c.own_roster.ensures _ _ c.saturate.ensures _
    c.in-Ok.is in omega arith

pub slice_bounds-print_saturated_table-end : goal.slice_bounds-print_saturated_table-end
slice_bounds-print_saturated_table-end c = sat-end _ _ _ _ c.requires.1 c.requires.2 _ _ c.own_roster.ensures _ _ c.saturate.ensures _ c.in-Ok.is

pub print_saturated_table-requires : goal.print_saturated_table-requires
print_saturated_table-requires c = (
  c.requires.0,
  sat-whole _ _ _ _ c.requires.1 c.requires.2 _ _ c.own_roster.ensures _ _ c.saturate.ensures _
      c.in-Ok.is,
)

pub returns : goal.returns
returns c = sat-put _ _ _ _ c.requires.1 c.requires.2 _ _ c.own_roster.ensures _ _ c.saturate.ensures _ c.in-Ok.is _ _ _ _
    _ c.print_saturated_table.ensures
