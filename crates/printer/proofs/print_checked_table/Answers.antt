use mathlib.Core.Path.{refl}
use Rattle.table_printing.proofs.Parts.{part_length, checked_as, sat_as_put}
use Rattle.printer.proofs.print_checked_table.Goals as goal

pub saturate_and_print-requires : goal.saturate_and_print-requires
saturate_and_print-requires c = (c.requires.0, checked_as _ _ _ _ (part_length _ _ c.requires.1.printed) c.requires.1, refl)

pub returns : goal.returns
returns c = sat_as_put _ _ _ (part_length _ _ c.requires.1.printed) _ _ _ _ _ _ c.saturate_and_print.ensures
