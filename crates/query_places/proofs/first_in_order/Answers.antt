use mathlib.Core.Path.{sym, ◌∙◌}
use Rattle.query_places.proofs.Fits.{fit_with, fit_of, fit-both}
use Rattle.query_places.proofs.first_in_order.Goals as goal

pub returns-in_default : goal.returns-in_default
returns-in_default c = fit_with _ c.args.map.now c.args.p c.args.bindings _ _ _ c.scanned.ensures

pub returns-in-None : goal.returns-in-None
returns-in-None c = fit_of _ c.args.map.now c.args.p c.args.bindings _ _ _ _
    (sym c.in-Some.is ∙ c.node_wanted.ensures) c.first_of-place.ensures

pub returns-in-Some-node_wanted : goal.returns-in-Some-node_wanted
returns-in-Some-node_wanted c = fit-both _ c.args.map.now c.args.p c.args.bindings _ _ _ _ _
    (sym c.in-Some.is ∙ c.node_wanted.ensures)
    (sym c.in-Some-node_wanted.is ∙ c.node_wanted-2.ensures) c.place_of-place.ensures
