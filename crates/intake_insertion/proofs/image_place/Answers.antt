use mathlib.Core.Path.{sym, ◌∙◌}
use Rattle.intake_insertion.proofs.Places.{not_found, known_is}
use Rattle.intake_insertion.proofs.image_place.Goals as goal

pub returns-then-summary-summarised : goal.returns-then-summary-summarised
returns-then-summary-summarised c = not_found _ _ _ _

pub returns-then-is_absent : goal.returns-then-is_absent
returns-then-is_absent c = not_found _ _ _ _

pub returns-then-is_absent-2 : goal.returns-then-is_absent-2
returns-then-is_absent-2 c = not_found _ _ _ _

pub returns-then-stands_at : goal.returns-then-stands_at
returns-then-stands_at c = known_is _ _ c.args.map.now c.args.t c.requires c.if-summary-summarised.false _ _ c.wide.ensures c.wide-2.ensures
    (sym c.is_absent.ensures ∙ c.if-is_absent.false) (sym c.is_absent-2.ensures ∙ c.if-is_absent-2.false) _ _
    c.stands_at.ensures c.if-stands_at.true

pub returns : goal.returns
returns c = not_found _ _ _ _
