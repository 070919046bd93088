use mathlib.Core.Path.{sym, ◌∙◌}
use Rattle.table_checks.proofs.Laws.{by_size, by-table, by-list, by-words, by-roster, by_codes, by-cover, by_none, codes-below}
use Rattle.table_checks.proofs.table_refusal.Goals as goal

pub returns-then-size_wrong : goal.returns-then-size_wrong
returns-then-size_wrong c = let s = c.args in
    by_size _ s.lengths s.table.now s.roster.now (sym c.size_wrong.ensures ∙ c.if-size_wrong.true)

pub returns-then-length_wrong : goal.returns-then-length_wrong
returns-then-length_wrong c = let s = c.args in
    by-table _ s.lengths s.table.now s.roster.now (sym c.length_wrong.ensures ∙ c.if-length_wrong.true)

pub returns-then-lengths : goal.returns-then-lengths
returns-then-lengths c = let s = c.args in
    by-list _ s.lengths s.table.now s.roster.now c.if-lengths.true

pub returns-then-words_wrong : goal.returns-then-words_wrong
returns-then-words_wrong c = let s = c.args in
    by-words _ s.lengths s.table.now s.roster.now (sym c.size_wrong.ensures ∙ c.if-size_wrong.false)
    (sym c.length_wrong.ensures ∙ c.if-length_wrong.false) c.if-lengths.false (sym c.words_wrong.ensures ∙ c.if-words_wrong.true)

pub roster_wrong-requires : goal.roster_wrong-requires
roster_wrong-requires c = sym c.words_wrong.ensures ∙ c.if-words_wrong.false

pub returns-then-roster_wrong : goal.returns-then-roster_wrong
returns-then-roster_wrong c = let s = c.args in
    by-roster _ s.lengths s.table.now s.roster.now (sym c.size_wrong.ensures ∙ c.if-size_wrong.false)
    (sym c.length_wrong.ensures ∙ c.if-length_wrong.false) c.if-lengths.false (sym c.words_wrong.ensures ∙ c.if-words_wrong.false)
    (sym c.roster_wrong.ensures ∙ c.if-roster_wrong.true)

pub returns-then-codes_wrong : goal.returns-then-codes_wrong
returns-then-codes_wrong c = let s = c.args in
    by_codes _ s.lengths s.table.now s.roster.now (sym c.size_wrong.ensures ∙ c.if-size_wrong.false)
    (sym c.length_wrong.ensures ∙ c.if-length_wrong.false) c.if-lengths.false (sym c.words_wrong.ensures ∙ c.if-words_wrong.false)
    (sym c.roster_wrong.ensures ∙ c.if-roster_wrong.false) (sym c.codes_wrong.ensures ∙ c.if-codes_wrong.true)

pub uncovered-requires : goal.uncovered-requires
uncovered-requires c = let s = c.args in codes-below _ s.table.now s.roster.now (sym c.codes_wrong.ensures ∙ c.if-codes_wrong.false)

pub returns-then-uncovered : goal.returns-then-uncovered
returns-then-uncovered c = let s = c.args in
    by-cover _ s.lengths s.table.now s.roster.now (sym c.size_wrong.ensures ∙ c.if-size_wrong.false)
    (sym c.length_wrong.ensures ∙ c.if-length_wrong.false) c.if-lengths.false (sym c.words_wrong.ensures ∙ c.if-words_wrong.false)
    (sym c.roster_wrong.ensures ∙ c.if-roster_wrong.false) (sym c.codes_wrong.ensures ∙ c.if-codes_wrong.false)
    (sym c.uncovered.ensures ∙ c.if-uncovered.true)

pub returns : goal.returns
returns c = let s = c.args in
    by_none _ s.lengths s.table.now s.roster.now (sym c.size_wrong.ensures ∙ c.if-size_wrong.false)
    (sym c.length_wrong.ensures ∙ c.if-length_wrong.false) c.if-lengths.false (sym c.words_wrong.ensures ∙ c.if-words_wrong.false)
    (sym c.roster_wrong.ensures ∙ c.if-roster_wrong.false) (sym c.codes_wrong.ensures ∙ c.if-codes_wrong.false)
    (sym c.uncovered.ensures ∙ c.if-uncovered.false)
