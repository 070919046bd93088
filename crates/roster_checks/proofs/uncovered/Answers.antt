use mathlib.Core.Path.{sym, ◌∙◌, ap}
use Rattle.model.specs.Roster.{covers_triple}
use Rattle.roster_checks.proofs.Tables.{below_at, uncovered_at, covered-all}
use Rattle.roster_checks.proofs.uncovered.Goals as goal

pub covers_triple-requires : goal.covers_triple-requires
covers_triple-requires c = below_at _ c.args.table.now _ _ c.requires c.loop-i-test.true c.triple_at.ensures

pub returns-then-not-covers_triple : goal.returns-then-not-covers_triple
returns-then-not-covers_triple c = uncovered_at _ c.args.roster.now c.args.table.now _ c.loop-i-test.true
    (ap (covers_triple _ c.args.roster.now) (sym c.triple_at.ensures) ∙ sym c.covers_triple.ensures ∙
    c.if-not-covers_triple.true)

pub returns : goal.returns
returns c = covered-all _ c.args.roster.now c.args.table.now _ c.loop-i-test.false c.loop-i.invariant
