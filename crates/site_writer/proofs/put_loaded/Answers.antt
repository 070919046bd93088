use Rattle.std.proofs.Common.{refl, sym, ◌∙◌}
use Rattle.site_writer.proofs.Lines.{loaded-none, loaded-room, loaded-some}
use Rattle.site_writer.proofs.put_loaded.Goals as goal

pub put_words-requires : goal.put_words-requires
put_words-requires c = loaded-room _ c.args.page.now.out.now _ (sym c.plain_words.ensures ∙ c.if-not-plain_words.true) c.requires

pub returns-then-not-plain_words : goal.returns-then-not-plain_words
returns-then-not-plain_words c = record {
  put = loaded-some _ _ _ (sym c.plain_words.ensures ∙ c.if-not-plain_words.true) _ _ c.put_words.ensures.put;
  lent = c.put_words.ensures.lent;
}

pub returns-else-not-plain_words : goal.returns-else-not-plain_words
returns-else-not-plain_words c = record { put = loaded-none _ _ _ (sym c.plain_words.ensures ∙ c.if-not-plain_words.false); lent = refl }
