use mathlib.Core.Path.{sym, ap, ◌∙◌}
use Rattle.model.specs.Roster.{wrong_triple}
use Rattle.theory.proofs.Runs.{none-start, none-step, one_found, none_found}
use Rattle.lists.specs.Flat.{at}
use Rattle.checks.proofs.Wrong.{codes-by}
use Rattle.checks.proofs.codes_wrong.Goals as goal

pub loop-i-init : goal.loop-i-init
loop-i-init c = none-start _ _ _

pub returns-then-triple_wrong : goal.returns-then-triple_wrong
returns-then-triple_wrong c = codes-by _ _ _
    (one_found (wrong_triple _ _) (at _) _ _ c.loop-i-test.true
    (ap (wrong_triple _ _) (sym c.triple_at.ensures) ∙ sym c.triple_wrong.ensures ∙ c.if-triple_wrong.true))

pub loop-i-preserved : goal.loop-i-preserved
loop-i-preserved c = none-step _ _ _ _ c.loop-i.invariant c.loop-i-test.true
    (ap (wrong_triple _ _) (sym c.triple_at.ensures) ∙ sym c.triple_wrong.ensures ∙ c.if-triple_wrong.false)

pub returns : goal.returns
returns c = codes-by _ _ _ (none_found _ _ _ _ c.loop-i.invariant c.loop-i-test.false)
