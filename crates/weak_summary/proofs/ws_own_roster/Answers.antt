use mathlib.Core.Path.{◌∙◌, ap, refl}
use Rattle.call_numbers.proofs.Words.{one, by-wrong, by_right}
use Rattle.call_numbers.specs.Status.{status_of}
use Rattle.weak_summary.proofs.ws_own_roster.Goals as goal

pub returns-then-words-ne-WORDS_NUMBERS : goal.returns-then-words-ne-WORDS_NUMBERS
returns-then-words-ne-WORDS_NUMBERS c = by-wrong c.if-words-ne-WORDS_NUMBERS.true (one c.refusal_number.ensures, refl)

pub words_of-loaded-requires : goal.words_of-loaded-requires
words_of-loaded-requires c = c.if-words-ne-WORDS_NUMBERS.false

pub returns : goal.returns
returns c = let h = c.own_roster.ensures in by_right c.if-words-ne-WORDS_NUMBERS.false _ c.words_of-loaded.ensures
    (c.done_status.ensures ∙ ap status_of h.answer, h.leaves)
