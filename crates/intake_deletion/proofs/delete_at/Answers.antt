use Rattle.intake_deletion.proofs.Deletion.{moved_clear}
use Rattle.intake_deletion.proofs.delete_at.Goals as goal

pub returns : goal.returns
returns c = let b = c.copy_within.ensures.by_index in
    moved_clear _ _ _ _ _ c.copy_within.ensures.len b.0 b.1 b.2 c.requires.0 c.clear.ensures
