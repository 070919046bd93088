use Rattle.intake_weighing.proofs.Weighing.{place_here}
use Rattle.intake_weighing.proofs.place_near.Goals as goal

pub returns-then-stands_at : goal.returns-then-stands_at
returns-then-stands_at c = place_here _ _ _ _ _ c.stands_at.ensures c.if-stands_at.true
