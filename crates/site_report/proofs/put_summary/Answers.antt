use Rattle.std.proofs.Common.{◌∙◌}
use Rattle.site_report.proofs.Lines.{room-summary, room-summary-end, summary-put}
use Rattle.site_report.proofs.put_summary.Goals as goal

pub put_after-requires : goal.put_after-requires
put_after-requires c = room-summary c.args.page.now.out.now _ _ c.requires

pub put-requires : goal.put-requires
put-requires c = room-summary-end _ _ _ _ _ c.put_after.ensures.put c.requires

pub returns : goal.returns
returns c = record { put = summary-put _ _ _ _ _ c.put_after.ensures.put _ _ c.put.ensures.put; lent = c.put.ensures.lent ∙ c.put_after.ensures.lent }
