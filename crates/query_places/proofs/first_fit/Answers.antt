use native.Mathlib.Omega.{arith}
use Rattle.lists.proofs.Fronts.{rises-part}
use Rattle.query_places.proofs.Fits.{fit_with}
use Rattle.query_places.proofs.first_fit.Goals as goal

pub first_in_order-requires : goal.first_in_order-requires
first_in_order-requires c = (c.requires.0, c.requires.1, c.requires.2, c.requires.3, rises-part _ _ _ _ (c.requires.4 c.if-rising.true) (omega (arith, c.requires.3)))

pub returns : goal.returns
returns c = fit_with _ c.args.map.now c.args.p c.args.bindings _ _ _ c.scanned.ensures
