use mathlib.Core.Path.{refl}
use Rattle.builder.proofs.Offers.{compacted_is}
use Rattle.builder.proofs.compacted.Goals as goal

pub returns : goal.returns
returns c = compacted_is c.args.list.now _ c.args.b _ _ c.requires c.sort_distinct.ensures refl
