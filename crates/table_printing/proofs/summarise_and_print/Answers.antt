use native.Mathlib.Omega.{arith}
use Rattle.table_printing.proofs.Parts.{never_refused, sum-few, sum-end, sum-table, sum-map, sum_room, sum-put}
use Rattle.table_printing.proofs.summarise_and_print.Goals as goal

pub returns-in_default : goal.returns-in_default
returns-in_default c = absurd (never_refused _ _ _ _ _ _ c.requires.1 c.requires.2 c.requires.3 c.requires.4 _ _ _ _ c.summarise.ensures _
    c.in_default.is)

pub overflow_mul-k : goal.overflow_mul-k
overflow_mul-k c = let h = sum-few _ _ _ _ _ _ c.requires.1 c.requires.2 c.requires.3 c.requires.4 _ _ _ _ c.summarise.ensures _
    c.in-Ok.is in omega arith

pub slice_bounds-ask_and_print-end : goal.slice_bounds-ask_and_print-end
slice_bounds-ask_and_print-end c = sum-end _ _ _ _ _ _ c.requires.1 c.requires.2 c.requires.3 c.requires.4 _ _ _ _ c.summarise.ensures _ c.in-Ok.is

pub ask_and_print-requires : goal.ask_and_print-requires
ask_and_print-requires c = (
  c.requires.0,
  sum-table _ _ _ _ _ _ c.requires.1 c.requires.2 c.requires.3 c.requires.4 _ _ _ _ c.summarise.ensures _
      c.in-Ok.is,
  sum-map _ _ _ _ _ _ c.requires.1 c.requires.2 c.requires.3 c.requires.4 _ _ _ _
      c.summarise.ensures _ c.in-Ok.is,
  sum_room _ _ _ _ _ _ c.requires.1 c.requires.2 c.requires.3 c.requires.4 _ _
      _ _ c.summarise.ensures _ c.in-Ok.is _ _ c.requires.0,
)

pub returns : goal.returns
returns c = sum-put _ _ _ _ _ _ c.requires.1 c.requires.2 c.requires.3 c.requires.4 _ _ _ _ c.summarise.ensures _ c.in-Ok.is _
    _ c.requires.0 _ _ _ c.ask_and_print.ensures
