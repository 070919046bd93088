use Rattle.strata.proofs.Closing.{sorted-ready}
use Rattle.strata.proofs.Passes.{swept}
use Rattle.strata.proofs.pass.Goals as goal

pub round-requires : goal.round-requires
round-requires c = let r = sorted-ready _ _ _ _ c.requires.0 c.sort_distinct-count.ensures in (r.0, r.1, c.requires.1)

pub returns : goal.returns
returns c = swept _ _ _ _ _ c.sort_distinct-count.ensures _ _ _ _ c.round.ensures
