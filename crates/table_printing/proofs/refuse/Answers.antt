use Rattle.std.proofs.Common.{rules}
use Rattle.site_bytes.proofs.Stores.{on_new, put_back, room-on-new}
use Rattle.table_printing.proofs.Reports.{room_refusal, refusal_put}
use Rattle.table_printing.proofs.refuse.Goals as goal

pub put_refused-requires : goal.put_refused-requires
put_refused-requires c = room-on-new c.new-page.result c.new-page.ensures.front _ (room_refusal _ _ c.refusal_number.ensures)

pub returns : goal.returns
returns c =
    let lent = c.put_refused.ensures.lent in
    let same = c.new-page.ensures.same in
    refusal_put _ _ _ c.refusal_number.ensures _ _ (put_back _ _ _ _ _ _ (search rules) (on_new _ _ c.new-page.ensures.list c.new-page.ensures.front _ _ c.put_refused.ensures))
