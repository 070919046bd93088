use mathlib.Core.Path.{sym, ◌∙◌}
use Rattle.intake_opening.proofs.Opened.{opened-length, opened-words, opened-roster, opened-all}
use Rattle.intake_opening.proofs.open_lists.Goals as goal

pub returns-then-lengths_wrong : goal.returns-then-lengths_wrong
returns-then-lengths_wrong c = let s = c.args in
    opened-length _ s.roster.now s.triples.now s.summary.now s.weights.now s.map.now
    (sym c.lengths_wrong.ensures ∙ c.if-lengths_wrong.true)

pub returns-then-words_wrong : goal.returns-then-words_wrong
returns-then-words_wrong c = let s = c.args in
    opened-words _ s.roster.now s.triples.now s.summary.now s.weights.now s.map.now
    (sym c.lengths_wrong.ensures ∙ c.if-lengths_wrong.false) (sym c.words_wrong.ensures ∙ c.if-words_wrong.true)

pub roster_wrong-requires : goal.roster_wrong-requires
roster_wrong-requires c = sym c.words_wrong.ensures ∙ c.if-words_wrong.false

pub returns-then-roster_wrong : goal.returns-then-roster_wrong
returns-then-roster_wrong c = let s = c.args in
    opened-roster _ s.roster.now s.triples.now s.summary.now s.weights.now s.map.now
    (sym c.lengths_wrong.ensures ∙ c.if-lengths_wrong.false)
    (sym c.words_wrong.ensures ∙ c.if-words_wrong.false) (sym c.roster_wrong.ensures ∙ c.if-roster_wrong.true)

pub returns : goal.returns
returns c = let s = c.args in
    opened-all _ s.roster.now s.triples.now s.summary.now s.weights.now s.map.now
    (sym c.lengths_wrong.ensures ∙ c.if-lengths_wrong.false)
    (sym c.words_wrong.ensures ∙ c.if-words_wrong.false) (sym c.roster_wrong.ensures ∙ c.if-roster_wrong.false) _ _ _ _
    c.clear.ensures c.clear-2.ensures c.clear-3.ensures c.empty.ensures
