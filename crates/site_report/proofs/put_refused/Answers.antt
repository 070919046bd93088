use Rattle.std.proofs.Common.{◌∙◌}
use Rattle.site_report.proofs.Lines.{room-refused, room-refused-end, refused-put}
use Rattle.site_report.proofs.put_refused.Goals as goal

pub put_after-requires : goal.put_after-requires
put_after-requires c = room-refused c.args.page.now.out.now _ _ c.requires

pub put-requires : goal.put-requires
put-requires c = room-refused-end _ _ _ _ _ c.put_after.ensures.put c.requires

pub returns : goal.returns
returns c = record { put = refused-put _ _ _ _ _ c.put_after.ensures.put _ _ c.put.ensures.put; lent = c.put.ensures.lent ∙ c.put_after.ensures.lent }
