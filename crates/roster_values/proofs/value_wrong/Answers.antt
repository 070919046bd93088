use mathlib.Core.Path.{sym, ◌∙◌, ap}
use native.Mathlib.Omega.{arith}
use Rattle.roster_values.specs.Bytes.{over_three}
use Rattle.roster_values.proofs.Values.{over-part, right-start, right-step, over-rest}
use Rattle.roster_values.proofs.value_wrong.Goals as goal

pub loop-k-init : goal.loop-k-init
loop-k-init c = right-start c.args.roster.now

pub returns-then-word_over_three : goal.returns-then-word_over_three
returns-then-word_over_three c = over-part c.args.roster.now _ 8 (omega arith)
    (ap over_three (sym c.word_at.ensures) ∙ sym c.word_over_three.ensures ∙ c.if-word_over_three.true)

pub loop-k-preserved : goal.loop-k-preserved
loop-k-preserved c = right-step c.args.roster.now _ c.loop-k.invariant 8 _ (omega arith)
    (ap over_three (sym c.word_at.ensures) ∙ sym c.word_over_three.ensures ∙ c.if-word_over_three.false)

pub returns : goal.returns
returns c = c.rest_wrong.ensures ∙ over-rest _ _ c.loop-k.invariant _ (omega arith) (omega arith)
