use Rattle.model.specs.Classes.{map_of}
use Rattle.theory.proofs.Mapped.{length_map_of}
use Rattle.builder.specs.Builder.{first}
use Rattle.summarise.proofs.Answers.{all-below, condensed-by}
use Rattle.summarise.proofs.condense.Goals as goal

pub condense_by-requires : goal.condense_by-requires
condense_by-requires c = let a = c.args in
    let m = map_of a.words a.roster.now (first a.table.now a.count) in
    (c.requires.0, all-below a.roster.now m _ (length_map_of _ _ _) c.weak_map.ensures.0 _ a.table.now a.count c.requires.1)

pub returns : goal.returns
returns c = let a = c.args in
    let m = map_of a.words a.roster.now (first a.table.now a.count) in
    condensed-by a.roster.now m _ (length_map_of _ _ _) c.weak_map.ensures.0 _ a.res.now a.map.now a.work.now _
    c.requires.2 c.weak_map.ensures.1 _ _ _ c.condense_by.ensures
