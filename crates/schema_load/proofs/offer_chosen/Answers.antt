use Rattle.schema_load.proofs.Loading.{offered_chosen}
use Rattle.schema_load.proofs.offer_chosen.Goals as goal

pub returns-then-is_chosen : goal.returns-then-is_chosen
returns-then-is_chosen c = offered_chosen _ _ _ _ _ _ c.is_chosen.ensures c.if-is_chosen.true _ c.offer.ensures
