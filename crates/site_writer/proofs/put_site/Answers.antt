use Rattle.std.proofs.Common.{◌∙◌}
use Rattle.site_writer.proofs.Lines.{room-site, room-site-end, site-put}
use Rattle.site_writer.proofs.put_site.Goals as goal

pub put_after-requires : goal.put_after-requires
put_after-requires c = room-site c.args.page.now.out.now _ _ c.requires

pub put-requires : goal.put-requires
put-requires c = room-site-end _ _ _ _ _ c.put_after.ensures.put c.requires

pub returns : goal.returns
returns c = record { put = site-put _ _ _ _ _ c.put_after.ensures.put _ _ c.put.ensures.put; lent = c.put.ensures.lent ∙ c.put_after.ensures.lent }
