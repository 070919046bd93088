use mathlib.Core.Path.{ap, sym, ◌∙◌}
use Rattle.model.specs.Codes.{codes}
use Rattle.model.specs.Lists.{zeros}
use Rattle.site_form.specs.Reading as reading
use Rattle.weak_summary.specs.Calls.{lent}
use Rattle.weak_summary.proofs.Calls.{wrong-queries, wrong-words, right-lengths, read_length, is_ok, is_err, status_ok, status_err, no-queries, no-words, read-stands}
use Rattle.weak_summary.proofs.ws_read.Goals as goal

pub returns-then-queries-ne-QUERIES_NUMBERS : goal.returns-then-queries-ne-QUERIES_NUMBERS
returns-then-queries-ne-QUERIES_NUMBERS c = let a = c.args in let s = lent a.list.now a.queries.now a.words.now a.n.now a.count.now a.asks.now in read_length
    a.text.now s _ (wrong-queries a.text.now s c.if-queries-ne-QUERIES_NUMBERS.true) c.refusal_number.ensures

pub returns-then-words-ne-WORDS_NUMBERS : goal.returns-then-words-ne-WORDS_NUMBERS
returns-then-words-ne-WORDS_NUMBERS c = let a = c.args in let s = lent a.list.now a.queries.now a.words.now a.n.now a.count.now a.asks.now in read_length
    a.text.now s _ (wrong-words a.text.now s c.if-queries-ne-QUERIES_NUMBERS.false c.if-words-ne-WORDS_NUMBERS.true) c.refusal_number-then-words-ne-WORDS_NUMBERS.ensures

pub returns-in-Ok : goal.returns-in-Ok
returns-in-Ok c = let a = c.args in let s = lent a.list.now a.queries.now a.words.now a.n.now a.count.now a.asks.now in read-stands
    a.text.now s (right-lengths a.text.now s c.if-queries-ne-QUERIES_NUMBERS.false c.if-words-ne-WORDS_NUMBERS.false) c.read-answer.result _ c.read-answer.ensures _
    (is_ok _ _ c.in-Ok.is) _ c.put_queries.ensures _ c.put_words.ensures _ (status_ok _ _ c.in-Ok.is)

pub returns-in-Err : goal.returns-in-Err
unfolding reading.site_of zeros
returns-in-Err c = let a = c.args in let s = lent a.list.now a.queries.now a.words.now a.n.now a.count.now a.asks.now in read-stands
    a.text.now s (right-lengths a.text.now s c.if-queries-ne-QUERIES_NUMBERS.false c.if-words-ne-WORDS_NUMBERS.false) c.read-answer.result _ c.read-answer.ensures _
    (is_err _ _ c.in-Err.is) _ (c.fill.ensures.after (λ y e. e) ∙ ap zeros c.if-queries-ne-QUERIES_NUMBERS.false ∙ sym no-queries) _
    (c.put_words-in-Err.ensures ∙ ap codes c.rdfs_words.ensures ∙ no-words) _ (status_err _ _ _ c.in-Err.is c.refusal_number-in-Err.ensures)
