use Rattle.std.proofs.Common.{◌≡◌, ◌∙◌, rules}
use Rattle.site_bytes.proofs.Stores.{on_new, put_back, room-on-new}
use Rattle.site_writer.proofs.Whole.{room-first-line, room-second-line, room-third, text-put}
use Rattle.site_writer.proofs.put_text.Goals as goal

pub put_site-requires : goal.put_site-requires
put_site-requires c = room-on-new c.new-page.result c.new-page.ensures.front _ (room-first-line c.args.words c.args.n c.args.table.now c.args.out.now c.requires)

pub put_loaded-requires : goal.put_loaded-requires
put_loaded-requires c = room-second-line c.args.words c.args.n c.args.table.now c.args.out.now c.requires _ _
    (on_new _ _ c.new-page.ensures.list c.new-page.ensures.front _ _ c.put_site.ensures)

pub put_triples-requires : goal.put_triples-requires
put_triples-requires c = room-third c.args.words c.args.n c.args.table.now c.args.out.now c.requires _ _
    (on_new _ _ c.new-page.ensures.list c.new-page.ensures.front _ _ c.put_site.ensures) _ _ c.put_loaded.ensures.put

pub returns : goal.returns
returns c =
    let name : c.put_triples.new.page.out.ghost_name ≡ c.new-page.result.out.ghost_name = c.put_triples.ensures.lent ∙ c.put_loaded.ensures.lent ∙ c.put_site.ensures.lent in
    let same = c.new-page.ensures.same in
    let put = text-put c.args.words c.args.n c.args.table.now c.args.out.now c.requires _ _
    (on_new _ _ c.new-page.ensures.list c.new-page.ensures.front _ _ c.put_site.ensures) _ _ c.put_loaded.ensures.put _ _ c.put_triples.ensures.put in
    put_back _ _ _ _ _ _ (search rules) put
