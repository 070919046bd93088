use mathlib.Core.Path.{refl}
use Rattle.call_numbers.proofs.Words.{one, by-wrong, by_right}
use Rattle.call_numbers.proofs.Outcomes.{stores_as}
use Rattle.weak_summary.proofs.ws_summarise_strong.Goals as goal

pub returns-then-words-ne-WORDS_NUMBERS : goal.returns-then-words-ne-WORDS_NUMBERS
returns-then-words-ne-WORDS_NUMBERS c = by-wrong c.if-words-ne-WORDS_NUMBERS.true (one c.refusal_number.ensures, refl, refl, refl, refl)

pub words_of-loaded-requires : goal.words_of-loaded-requires
words_of-loaded-requires c = c.if-words-ne-WORDS_NUMBERS.false

pub returns : goal.returns
returns c = by_right c.if-words-ne-WORDS_NUMBERS.false _ c.words_of-loaded.ensures
    (stores_as c.summarise_strong.ensures.answer c.counted_status.ensures, c.summarise_strong.ensures.leaves)
