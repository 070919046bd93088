use mathlib.Core.Path.{sym, ◌∙◌}
use Rattle.theory.proofs.Runs.{none-start, none-step, one_found}
use Rattle.lists.specs.Flat.{at}
use Rattle.intake_insertion.specs.Places.{bad}
use Rattle.intake_insertion.proofs.Places.{not_bad, bad-code, bad-cover, below_of}
use Rattle.intake_insertion.proofs.held_wrong.Goals as goal
use Rattle.intake_insertion.proofs.held_wrong.Goals.{then-triple_wrong-via-then-triple_wrong, then-triple_wrong-via-else-triple_wrong+then-not-covers_triple}

pub loop-i-init : goal.loop-i-init
loop-i-init c = none-start _ _ _

pub returns-then-triple_wrong : goal.returns-then-triple_wrong
returns-then-triple_wrong c = one_found (bad _ _) (at _) _ _ c.loop-i-test.true
    (elim c.then-triple_wrong.branch [
      | then-triple_wrong-via-then-triple_wrong w ↦ bad-code _ c.args.list.now c.args.roster.now _ _ c.triple_at-t.ensures
          (sym c.triple_wrong.ensures ∙ w.if-triple_wrong.true)
      | then-triple_wrong-via-else-triple_wrong+then-not-covers_triple w ↦ bad-cover _ c.args.list.now c.args.roster.now _ _ c.triple_at-t.ensures
          (sym w.covers_triple.ensures ∙ w.if-not-covers_triple.true)
    ])

pub covers_triple-requires : goal.covers_triple-requires
covers_triple-requires c = below_of _ _ _ (sym c.triple_wrong.ensures ∙ c.if-triple_wrong.false)

pub loop-i-preserved : goal.loop-i-preserved
loop-i-preserved c = none-step _ _ _ _ c.loop-i.invariant c.loop-i-test.true
    (not_bad _ c.args.list.now c.args.roster.now _ _ c.triple_at-t.ensures
    (sym c.triple_wrong.ensures ∙ c.if-triple_wrong.false)
    (sym c.covers_triple.ensures ∙ c.if-not-covers_triple.false))
