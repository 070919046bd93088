use mathlib.Core.Path.{sym, ◌∙◌}
use Rattle.intake_insertion.proofs.Places.{below_of}
use Rattle.intake_calls.proofs.Calls.{by_lengths, by-work, by-words, by-roster, by_codes, by-cover, by_none}
use Rattle.intake_calls.proofs.call_refusal.Goals as goal

pub returns-then-lengths_wrong : goal.returns-then-lengths_wrong
returns-then-lengths_wrong c = let a = c.args in
    by_lengths _ a.roster.now a.triples.now a.summary.now a.weights.now a.map.now a.work.now a.t
    (sym c.lengths_wrong.ensures ∙ c.if-lengths_wrong.true)

pub returns-then-work_wrong : goal.returns-then-work_wrong
returns-then-work_wrong c = let a = c.args in
    by-work _ a.roster.now a.triples.now a.summary.now a.weights.now a.map.now a.work.now a.t
    (sym c.work_wrong.ensures ∙ c.if-work_wrong.true)

pub returns-then-words_wrong : goal.returns-then-words_wrong
returns-then-words_wrong c = let a = c.args in
    by-words _ a.roster.now a.triples.now a.summary.now a.weights.now a.map.now a.work.now a.t
    (sym c.lengths_wrong.ensures ∙ c.if-lengths_wrong.false) (sym c.work_wrong.ensures ∙ c.if-work_wrong.false)
    (sym c.words_wrong.ensures ∙ c.if-words_wrong.true)

pub roster_wrong-requires : goal.roster_wrong-requires
roster_wrong-requires c = sym c.words_wrong.ensures ∙ c.if-words_wrong.false

pub returns-then-roster_wrong : goal.returns-then-roster_wrong
returns-then-roster_wrong c = let a = c.args in
    by-roster _ a.roster.now a.triples.now a.summary.now a.weights.now a.map.now a.work.now a.t
    (sym c.lengths_wrong.ensures ∙ c.if-lengths_wrong.false) (sym c.work_wrong.ensures ∙ c.if-work_wrong.false)
    (sym c.words_wrong.ensures ∙ c.if-words_wrong.false) (sym c.roster_wrong.ensures ∙ c.if-roster_wrong.true)

pub returns-then-triple_wrong : goal.returns-then-triple_wrong
returns-then-triple_wrong c = let a = c.args in
    by_codes _ a.roster.now a.triples.now a.summary.now a.weights.now a.map.now a.work.now a.t
    (sym c.lengths_wrong.ensures ∙ c.if-lengths_wrong.false) (sym c.work_wrong.ensures ∙ c.if-work_wrong.false)
    (sym c.words_wrong.ensures ∙ c.if-words_wrong.false) (sym c.roster_wrong.ensures ∙ c.if-roster_wrong.false)
    (sym c.triple_wrong.ensures ∙ c.if-triple_wrong.true)

pub covers_triple-requires : goal.covers_triple-requires
covers_triple-requires c = below_of _ _ _ (sym c.triple_wrong.ensures ∙ c.if-triple_wrong.false)

pub returns-then-not-covers_triple : goal.returns-then-not-covers_triple
returns-then-not-covers_triple c = let a = c.args in
    by-cover _ a.roster.now a.triples.now a.summary.now a.weights.now a.map.now a.work.now a.t
    (sym c.lengths_wrong.ensures ∙ c.if-lengths_wrong.false) (sym c.work_wrong.ensures ∙ c.if-work_wrong.false)
    (sym c.words_wrong.ensures ∙ c.if-words_wrong.false) (sym c.roster_wrong.ensures ∙ c.if-roster_wrong.false)
    (sym c.triple_wrong.ensures ∙ c.if-triple_wrong.false)
    (sym c.covers_triple.ensures ∙ c.if-not-covers_triple.true)

pub returns : goal.returns
returns c = let a = c.args in
    by_none _ a.roster.now a.triples.now a.summary.now a.weights.now a.map.now a.work.now a.t
    (sym c.lengths_wrong.ensures ∙ c.if-lengths_wrong.false) (sym c.work_wrong.ensures ∙ c.if-work_wrong.false)
    (sym c.words_wrong.ensures ∙ c.if-words_wrong.false) (sym c.roster_wrong.ensures ∙ c.if-roster_wrong.false)
    (sym c.triple_wrong.ensures ∙ c.if-triple_wrong.false)
    (sym c.covers_triple.ensures ∙ c.if-not-covers_triple.false)
