use mathlib.Core.Path.{sym, ◌∙◌}
use Rattle.model.specs.Rules.{numbered}
use Rattle.rule_walk.proofs.Steps.{drawn_offer}
use Rattle.rule_walk.proofs.draw.Goals as goal

pub returns-then-fits : goal.returns-then-fits
returns-then-fits c = drawn_offer _ _ _ _ (numbered c.args.r) c.args.a c.args.p _ (sym c.fits.ensures ∙ c.if-fits.true)
    c.gives.ensures _ c.offer.ensures
