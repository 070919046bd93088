use Rattle.intake_insertion.proofs.Insertion.{moved_put}
use Rattle.intake_insertion.proofs.insert_at.Goals as goal

pub returns : goal.returns
returns c = let b = c.copy_within.ensures.by_index in
    moved_put _ _ _ _ _ _ c.copy_within.ensures.len b.0 b.1 b.2 c.requires.0 c.requires.1 c.put.ensures
