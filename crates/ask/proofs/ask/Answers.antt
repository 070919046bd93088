use mathlib.Core.Path.{sym, ◌∙◌}
use Rattle.query.proofs.Steps.{few_patterns}
use Rattle.ask.proofs.Answers.{searchable}
use Rattle.ask.proofs.ask.Goals as goal

pub query_retired-requires : goal.query_retired-requires
query_retired-requires c = few_patterns _ _ (sym c.query_wrong.ensures ∙ c.if-query_wrong.false)

pub some_choice-requires : goal.some_choice-requires
some_choice-requires c = let x = c.args in
    searchable _ x.table.now x.map.now x.q _ (sym c.size_wrong.ensures ∙ c.if-size_wrong.false)
    (sym c.length_wrong.ensures ∙ c.if-length_wrong.false) (sym c.codes_wrong.ensures ∙ c.if-codes_wrong.false)
    (sym c.query_wrong.ensures ∙ c.if-query_wrong.false) c.known_rising-rising.ensures
