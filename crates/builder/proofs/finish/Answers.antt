use Rattle.builder.proofs.Offers.{finished}
use Rattle.builder.proofs.finish.Goals as goal

pub returns : goal.returns
returns c = finished c.args.list.now _ _ _ _ c.requires c.sort_distinct-count.ensures c.clear.ensures
