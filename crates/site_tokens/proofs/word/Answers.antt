use Rattle.std.proofs.Common.{sym}
use Rattle.site_tokens.proofs.Words.{word-is, word-not}
use Rattle.site_tokens.proofs.word.Goals as goal

pub returns-then-starts_with : goal.returns-then-starts_with
returns-then-starts_with c = sym (word-is _ _ _ _ c.min.ensures _ c.starts_with.ensures.value c.if-starts_with.true)

pub returns-else-starts_with : goal.returns-else-starts_with
returns-else-starts_with c = sym (word-not _ _ _ _ c.min.ensures _ c.starts_with.ensures.value c.if-starts_with.false)
