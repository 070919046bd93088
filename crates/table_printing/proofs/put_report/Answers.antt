use Rattle.std.proofs.Common.{◌≡◌, ◌∙◌, arith, rules}
use Rattle.site_bytes.proofs.Stores.{on_new, put_back, room-on-new}
use Rattle.table_printing.proofs.Reports.{room-count, room-table, room-nodes, room-answers, report-put}
use Rattle.table_printing.proofs.put_report.Goals as goal

pub put_summary-requires : goal.put_summary-requires
put_summary-requires c = room-on-new c.new-page.result c.new-page.ensures.front _ (room-count c.args.out.now c.args.table.now c.args.map.now _ _ c.narrow.ensures c.requires.3)

pub put_triples-requires : goal.put_triples-requires
put_triples-requires c = room-table c.args.out.now c.args.table.now c.args.map.now _ _ c.narrow.ensures c.requires.3 _ _
    (on_new _ _ c.new-page.ensures.list c.new-page.ensures.front _ _ c.put_summary.ensures)

pub put_nodes-requires : goal.put_nodes-requires
put_nodes-requires c = (
  omega (arith, c.requires.2),
  room-nodes c.args.out.now c.args.table.now c.args.map.now _ _ c.narrow.ensures c.requires.3 _ _
      (on_new _ _ c.new-page.ensures.list c.new-page.ensures.front _ _ c.put_summary.ensures) _ _ c.put_triples.ensures.put,
)

pub put_answers-requires : goal.put_answers-requires
put_answers-requires c = (
  c.requires.0,
  room-answers c.args.out.now c.args.table.now c.args.map.now _ _ c.narrow.ensures c.requires.3 _ _
      (on_new _ _ c.new-page.ensures.list c.new-page.ensures.front _ _ c.put_summary.ensures) _ _ c.put_triples.ensures.put _ _ c.put_nodes.ensures.put,
)

pub returns : goal.returns
returns c =
    let name : c.put_answers.new.page.out.ghost_name ≡ c.new-page.result.out.ghost_name =
    c.put_answers.ensures.lent ∙ c.put_nodes.ensures.lent ∙ c.put_triples.ensures.lent ∙ c.put_summary.ensures.lent in
    let same = c.new-page.ensures.same in
    put_back _ _ _ _ _ _ (search rules) (report-put c.args.out.now c.args.table.now c.args.map.now _ _ c.narrow.ensures c.requires.3 _ _
    (on_new _ _ c.new-page.ensures.list c.new-page.ensures.front _ _ c.put_summary.ensures) _ _ c.put_triples.ensures.put _ _ c.put_nodes.ensures.put _ _
    c.put_answers.ensures.put)
