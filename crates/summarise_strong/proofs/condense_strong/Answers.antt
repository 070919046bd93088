use native.Mathlib.Omega.{arith}
use Rattle.theory.proofs.Mapped.{length-strong-map}
use Rattle.summarise.proofs.Answers.{all-below, condensed-by}
use Rattle.summarise_strong.proofs.Places.{right-table, map-by-place}
use Rattle.summarise_strong.proofs.condense_strong.Goals as goal

pub strong_map-requires : goal.strong_map-requires
strong_map-requires c = (right-table _ c.args.table.now c.args.roster.now c.requires.0, c.requires.1, c.requires.2)

pub condense_by-requires : goal.condense_by-requires
condense_by-requires c = let a = c.args in (
  omega arith,
  all-below a.roster.now _ _ (length-strong-map _ _ _)
      (map-by-place _ a.table.now a.roster.now _ c.strong_map.ensures.0) a.words a.table.now _ c.requires.0,
)

pub returns : goal.returns
returns c = let a = c.args in
    condensed-by a.roster.now _ _ (length-strong-map _ _ _) (map-by-place _ a.table.now a.roster.now _ c.strong_map.ensures.0)
    _ a.res.now a.map.now a.work.now _ c.requires.1 c.strong_map.ensures.1 _ _ _ c.condense_by.ensures
