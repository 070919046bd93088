use mathlib.Core.Path.{refl}
use Rattle.call_numbers.proofs.Words.{one, by-wrong, by_right}
use Rattle.model.specs.Outcomes.{replied}
use Rattle.weak_summary.proofs.ws_feed.Goals as goal

pub returns-then-words-ne-WORDS_NUMBERS : goal.returns-then-words-ne-WORDS_NUMBERS
returns-then-words-ne-WORDS_NUMBERS c = by-wrong c.if-words-ne-WORDS_NUMBERS.true (one c.refused_status.ensures.0, refl, c.refused_status.ensures.1, refl, refl)

pub words_of-loaded-requires : goal.words_of-loaded-requires
words_of-loaded-requires c = c.if-words-ne-WORDS_NUMBERS.false

pub returns : goal.returns
returns c = let f = c.feed_lists-fed in
    by_right c.if-words-ne-WORDS_NUMBERS.false _ c.words_of-loaded.ensures
    (record { outcome = replied f.result.answer; fed = f.ensures; reports = c.reply_status.ensures })
