use mathlib.Core.Path.{refl}
use native.Mathlib.Omega.{arith}
use Rattle.table_printing.proofs.Parts.{part_length}
use Rattle.table_printing.proofs.print_saturated_table.Goals as goal

pub summarise_and_print-requires : goal.summarise_and_print-requires
summarise_and_print-requires c = (c.requires.0, c.requires.1, refl, part_length _ _ c.requires.1.size, part_length _ _ (omega (arith, c.requires.1.size)))
