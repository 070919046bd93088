use mathlib.Core.Path.{refl}
use Rattle.call_numbers.proofs.Words.{one, by-wrong, by_right}
use Rattle.model.specs.Outcomes.{replied}
use Rattle.weak_summary.proofs.ws_remove.Goals as goal

pub returns-then-words-ne-WORDS_NUMBERS : goal.returns-then-words-ne-WORDS_NUMBERS
returns-then-words-ne-WORDS_NUMBERS c = by-wrong c.if-words-ne-WORDS_NUMBERS.true (one c.refused_status.ensures.0, c.refused_status.ensures.1, refl, refl)

pub words_of-loaded-requires : goal.words_of-loaded-requires
words_of-loaded-requires c = c.if-words-ne-WORDS_NUMBERS.false

pub returns : goal.returns
returns c = by_right c.if-words-ne-WORDS_NUMBERS.false _ c.words_of-loaded.ensures
    (record {
      outcome = replied c.remove_lists-removed.result.answer;
      removed = c.remove_lists-removed.ensures;
      reports = c.place_status.ensures;
    })
