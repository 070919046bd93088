use native.Mathlib.Omega.{arith}
use mathlib.Core.Path.{◌∙◌}
use Rattle.query_rows.proofs.Rows.{sized_as}
use Rattle.query_domains.proofs.Sweeps.{right-below, none-swept, some-swept}
use Rattle.query_domains.proofs.sweep.Goals as goal

pub returns-then-not-mark_all : goal.returns-then-not-mark_all
returns-then-not-mark_all c = none-swept c.args.table.now c.args.map.now c.args.rows.now c.args.p c.requires.2
    (right-below _ _ c.requires.0) (right-below _ _ c.requires.1) _ _ _ _ c.set_row.ensures c.set_row-2.ensures
    c.mark_all.ensures (c.if-not-mark_all.true)

pub keep_end-requires : goal.keep_end-requires
keep_end-requires c = let size = c.mark_all.ensures.size ∙ c.set_row-2.ensures.size ∙ c.set_row.ensures.size in
    (sized_as _ _ size c.requires.2, right-below _ _ c.requires.0, omega arith, omega arith)

pub keep_end-requires-2 : goal.keep_end-requires-2
keep_end-requires-2 c = let marked-size = c.mark_all.ensures.size ∙ c.set_row-2.ensures.size ∙ c.set_row.ensures.size in
    let size = c.keep_end.ensures.size ∙ marked-size in
    (sized_as _ _ size c.requires.2, right-below _ _ c.requires.1, omega arith, omega arith)

pub returns : goal.returns
returns c = some-swept c.args.table.now c.args.map.now c.args.rows.now c.args.p c.requires.2
    (right-below _ _ c.requires.0) (right-below _ _ c.requires.1) _ _ _ _ c.set_row.ensures c.set_row-2.ensures
    c.mark_all.ensures _ _ c.keep_end.ensures c.keep_end-2.ensures
