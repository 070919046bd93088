use mathlib.Core.Path.{sym, ◌∙◌}
use Rattle.builder.proofs.Offers.{offered_known}
use Rattle.builder.proofs.offer.Goals as goal

pub returns-then-is_known : goal.returns-then-is_known
returns-then-is_known c = offered_known c.args.list.now c.args.b c.args.t c.requires (sym c.is_known.ensures ∙ c.if-is_known.true)
