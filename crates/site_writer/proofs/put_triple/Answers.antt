use Rattle.std.proofs.Common.{◌∙◌}
use Rattle.site_writer.proofs.Lines.{room-subject, room-property, room-object, room-triple-end, triple-put}
use Rattle.site_writer.proofs.put_triple.Goals as goal

pub put_after-requires : goal.put_after-requires
put_after-requires c = room-subject c.args.page.now.out.now _ c.args.t c.requires

pub put_after-requires-2 : goal.put_after-requires-2
put_after-requires-2 c = room-property _ _ c.args.t c.requires _ _ c.put_after.ensures.put

pub put_after-requires-3 : goal.put_after-requires-3
put_after-requires-3 c = room-object _ _ c.args.t c.requires _ _ c.put_after.ensures.put _ _ c.put_after-2.ensures.put

pub put-requires : goal.put-requires
put-requires c = room-triple-end _ _ c.args.t c.requires _ _ c.put_after.ensures.put _ _ c.put_after-2.ensures.put _ _
    c.put_after-3.ensures.put

pub returns : goal.returns
returns c = record {
  put = triple-put _ _ c.args.t c.requires _ _ c.put_after.ensures.put _ _ c.put_after-2.ensures.put _ _ c.put_after-3.ensures.put
      _ _ c.put.ensures.put;
  lent = c.put.ensures.lent ∙ c.put_after-3.ensures.lent ∙ c.put_after-2.ensures.lent ∙ c.put_after.ensures.lent;
}
