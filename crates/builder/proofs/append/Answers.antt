use mathlib.Core.Path.{refl}
use Rattle.builder.proofs.Offers.{offered_append}
use Rattle.builder.proofs.append.Goals as goal

pub returns : goal.returns
returns c = offered_append c.args.list.now _ c.args.b _ c.args.t c.requires.1 c.requires.2 c.requires.0 c.put.ensures refl
