use Rattle.std.proofs.lemmas.Result.{err_from_is_err_and}
use Rattle.cliques.proofs.Call.{by-refused, by-sides, right, sources-length, targets-length}
use Rattle.cliques.proofs.cliques.Goals as goal

pub clique_side-requires : goal.clique_side-requires
clique_side-requires c = let s = c.args in
    let t = c.table_refusal in
    let l = c.lengths_wrong-lengths in
    let q = c.in_ok-table_refusal.was in (
      right _ s.table.now s.roster.now s.sources.now s.targets.now _ l.ensures _ t.ensures q,
      sources-length _ s.table.now s.roster.now s.sources.now s.targets.now _ l.ensures _ t.ensures q,
    )

pub clique_side-requires-2 : goal.clique_side-requires-2
clique_side-requires-2 c = let s = c.args in
    let t = c.table_refusal in
    let l = c.lengths_wrong-lengths in
    let q = c.in_ok-table_refusal.was in (
      right _ s.table.now s.roster.now s.sources.now s.targets.now _ l.ensures _ t.ensures q,
      targets-length _ s.table.now s.roster.now s.sources.now s.targets.now _ l.ensures _ t.ensures q,
    )

pub returns-in_err-table_refusal : goal.returns-in_err-table_refusal
returns-in_err-table_refusal c = let s = c.args in
    let p = err_from_is_err_and c.from_residual.result c.from_residual.ensures.1 in
    rw (p.1, p.2) (by-refused _ s.table.now s.roster.now s.sources.now s.targets.now _ c.lengths_wrong-lengths.ensures _
    c.table_refusal.ensures _ c.in_err-table_refusal.was)

pub returns : goal.returns
returns c = let s = c.args in
    by-sides _ s.table.now s.roster.now s.sources.now s.targets.now _ c.lengths_wrong-lengths.ensures _
    c.table_refusal.ensures c.in_ok-table_refusal.was _ _
    c.clique_side.ensures c.clique_side-2.ensures
