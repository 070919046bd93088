use Rattle.std.proofs.Common.{◌∙◌}
use Rattle.site_writer.proofs.Lines.{room-instance, room-subclass, room-subproperty, room-domain, room-range, room-words-end, words-put}
use Rattle.site_writer.proofs.put_words.Goals as goal

pub put_after-requires : goal.put_after-requires
put_after-requires c = room-instance c.args.page.now.out.now _ c.args.words c.requires

pub put_after-requires-2 : goal.put_after-requires-2
put_after-requires-2 c = room-subclass _ _ c.args.words c.requires _ _ c.put_after.ensures.put

pub put_after-requires-3 : goal.put_after-requires-3
put_after-requires-3 c = room-subproperty _ _ c.args.words c.requires _ _ c.put_after.ensures.put _ _ c.put_after-2.ensures.put

pub put_after-requires-4 : goal.put_after-requires-4
put_after-requires-4 c = room-domain _ _ c.args.words c.requires _ _ c.put_after.ensures.put _ _ c.put_after-2.ensures.put _ _ c.put_after-3.ensures.put

pub put_after-requires-5 : goal.put_after-requires-5
put_after-requires-5 c = room-range _ _ c.args.words c.requires _ _ c.put_after.ensures.put _ _ c.put_after-2.ensures.put _ _ c.put_after-3.ensures.put _ _ c.put_after-4.ensures.put

pub put-requires : goal.put-requires
put-requires c = room-words-end _ _ c.args.words c.requires _ _ c.put_after.ensures.put _ _ c.put_after-2.ensures.put _ _ c.put_after-3.ensures.put _ _ c.put_after-4.ensures.put _ _ c.put_after-5.ensures.put

pub returns : goal.returns
returns c = record {
  put = words-put _ _ c.args.words c.requires _ _ c.put_after.ensures.put _ _ c.put_after-2.ensures.put _ _ c.put_after-3.ensures.put _ _ c.put_after-4.ensures.put _ _ c.put_after-5.ensures.put _ _ c.put.ensures.put;
  lent = c.put.ensures.lent ∙ c.put_after-5.ensures.lent ∙ c.put_after-4.ensures.lent ∙ c.put_after-3.ensures.lent ∙ c.put_after-2.ensures.lent ∙ c.put_after.ensures.lent;
}
