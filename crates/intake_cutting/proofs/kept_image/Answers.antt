use Rattle.intake_cutting.proofs.Cutting.{not_kept, kept-found}
use Rattle.intake_cutting.proofs.kept_image.Goals as goal

pub returns-then-ends_kept : goal.returns-then-ends_kept
returns-then-ends_kept c = kept-found _ _ _ _ _ _ _ _ _ _ (c.ends_kept.ensures c.if-ends_kept.true) c.image_place.ensures

pub returns : goal.returns
returns c = not_kept _ _ _ _ _ _ _ _ _
