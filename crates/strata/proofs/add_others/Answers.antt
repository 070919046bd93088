use Rattle.strata.proofs.Closing.{sorted-ready}
use Rattle.strata.proofs.Passes.{added-sorted}
use Rattle.strata.proofs.add_others.Goals as goal

pub load-requires : goal.load-requires
load-requires c = sorted-ready _ _ _ _ c.requires c.sort_distinct-count.ensures

pub returns : goal.returns
returns c = added-sorted _ _ _ _ _ c.sort_distinct-count.ensures _ _ _ _ c.load.ensures
