use mathlib.Core.Path.{refl, ◌∙◌, ap}
use Rattle.call_numbers.proofs.Words.{one, by-wrong, by_right}
use Rattle.query.specs.Ask.{ask_outcome}
use Rattle.call_numbers.specs.Status.{bits}
use Rattle.call_numbers.proofs.Outcomes.{stores_as}
use Rattle.weak_summary.proofs.Calls.{ask-length, ask-passed}
use Rattle.weak_summary.proofs.ws_ask.Goals as goal

pub returns-then-words-ne-WORDS_NUMBERS : goal.returns-then-words-ne-WORDS_NUMBERS
returns-then-words-ne-WORDS_NUMBERS c = by-wrong c.if-words-ne-WORDS_NUMBERS.true (one c.refusal_number.ensures, refl)

pub words_of-loaded-requires : goal.words_of-loaded-requires
words_of-loaded-requires c = c.if-words-ne-WORDS_NUMBERS.false

pub returns-then-query-ne-QUERY_NUMBERS : goal.returns-then-query-ne-QUERY_NUMBERS
returns-then-query-ne-QUERY_NUMBERS c = by_right c.if-words-ne-WORDS_NUMBERS.false _ c.words_of-loaded.ensures
    (ask-length _ _ _ _ _ _ c.if-query-ne-QUERY_NUMBERS.true c.refusal_number-then-query-ne-QUERY_NUMBERS.ensures)

pub returns : goal.returns
returns c = let a = c.args in by_right c.if-words-ne-WORDS_NUMBERS.false _ c.words_of-loaded.ensures
    (stores_as (ap bits (c.ask.ensures ∙ ap (ask_outcome c.words_of-loaded.result a.table.now a.map.now)
    c.query_of.ensures ∙ ask-passed _ _ _ _ c.if-query-ne-QUERY_NUMBERS.false)) c.asked_status.ensures)
