use Rattle.std.proofs.Common.{◌∙◌}
use Rattle.site_report.proofs.Lines.{room-code, room_representative, room-pair-end, pair_put}
use Rattle.site_report.proofs.put_pair.Goals as goal

pub put_after-requires : goal.put_after-requires
put_after-requires c = room-code c.args.page.now.out.now _ _ c.args.representative c.requires

pub put_after-requires-2 : goal.put_after-requires-2
put_after-requires-2 c = room_representative _ _ c.args.code c.args.representative c.requires _ _ c.put_after.ensures.put

pub put-requires : goal.put-requires
put-requires c = room-pair-end _ _ c.args.code c.args.representative c.requires _ _ c.put_after.ensures.put _ _ c.put_after-2.ensures.put

pub returns : goal.returns
returns c = record {
  put = pair_put _ _ c.args.code c.args.representative c.requires _ _ c.put_after.ensures.put _ _ c.put_after-2.ensures.put _ _
      c.put.ensures.put;
  lent = c.put.ensures.lent ∙ c.put_after-2.ensures.lent ∙ c.put_after.ensures.lent;
}
