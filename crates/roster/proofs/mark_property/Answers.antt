use Rattle.roster.proofs.Marking.{property-stored}
use Rattle.roster.proofs.mark_property.Goals as goal

pub returns : goal.returns
returns c = property-stored c.args.roster.now _ _ _ c.wide-i.ensures c.with_property.ensures
