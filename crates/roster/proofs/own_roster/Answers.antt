use mathlib.Core.Path.{sym, ◌∙◌}
use Rattle.roster.proofs.Own.{by_size, by-table, by-words, by_codes, by_marking, codes-below, filled}
use Rattle.roster.proofs.own_roster.Goals as goal

pub returns-then-size_wrong : goal.returns-then-size_wrong
returns-then-size_wrong c = by_size _ c.args.table.now c.args.roster.now (sym c.size_wrong.ensures ∙ c.if-size_wrong.true)

pub returns-then-length_wrong : goal.returns-then-length_wrong
returns-then-length_wrong c = by-table _ c.args.table.now c.args.roster.now (sym c.length_wrong.ensures ∙ c.if-length_wrong.true)

pub returns-then-words_wrong : goal.returns-then-words_wrong
returns-then-words_wrong c = by-words _ c.args.table.now c.args.roster.now (sym c.size_wrong.ensures ∙ c.if-size_wrong.false)
    (sym c.length_wrong.ensures ∙ c.if-length_wrong.false) (sym c.words_wrong.ensures ∙ c.if-words_wrong.true)

pub returns-then-codes_wrong : goal.returns-then-codes_wrong
returns-then-codes_wrong c = by_codes _ c.args.table.now c.args.roster.now (sym c.size_wrong.ensures ∙ c.if-size_wrong.false)
    (sym c.length_wrong.ensures ∙ c.if-length_wrong.false) (sym c.words_wrong.ensures ∙ c.if-words_wrong.false)
    (sym c.codes_wrong.ensures ∙ c.if-codes_wrong.true)

pub mark_table-requires : goal.mark_table-requires
mark_table-requires c = codes-below _ c.args.table.now c.args.roster.now (sym c.codes_wrong.ensures ∙ c.if-codes_wrong.false) _
    (filled _ _ (c.fill.ensures.after (λ y e. e)))

pub returns : goal.returns
returns c = by_marking _ c.args.table.now c.args.roster.now (sym c.size_wrong.ensures ∙ c.if-size_wrong.false)
    (sym c.length_wrong.ensures ∙ c.if-length_wrong.false) (sym c.words_wrong.ensures ∙ c.if-words_wrong.false)
    (sym c.codes_wrong.ensures ∙ c.if-codes_wrong.false) _ _ (filled _ _ (c.fill.ensures.after (λ y e. e))) c.mark_table.ensures
