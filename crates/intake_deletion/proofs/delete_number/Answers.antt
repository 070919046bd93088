use mathlib.Core.Path.{refl}
use Rattle.intake_deletion.proofs.Deletion.{number_moved}
use Rattle.intake_deletion.proofs.delete_number.Goals as goal

pub returns : goal.returns
returns c = let b = c.copy_within.ensures.by_index in
    number_moved _ _ _ _ _ c.copy_within.ensures.len b.0 b.1 b.2 c.requires.0 c.requires.1 refl
