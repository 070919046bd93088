use Rattle.roster.proofs.Marking.{class-stored}
use Rattle.roster.proofs.mark_class.Goals as goal

pub returns : goal.returns
returns c = class-stored c.args.roster.now _ _ _ c.wide-i.ensures c.with_class.ensures
