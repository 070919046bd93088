use mathlib.Core.Path.{sym, ◌∙◌}
use Rattle.query.specs.Ask.{pattern_at, wrong_pattern}
use Rattle.theory.proofs.Runs.{none-start, none-step, one_found, none_found}
use Rattle.query_parts.proofs.Ends.{query-none, query-many, query-few}
use Rattle.query_parts.proofs.query_wrong.Goals as goal
use Rattle.query_parts.proofs.query_wrong.Goals.{then-count-eq0-via-then-count-eq0, then-count-eq0-via-else-count-eq0+then-count-gt8}

pub returns-then-count-eq0 : goal.returns-then-count-eq0
returns-then-count-eq0 c = elim c.then-count-eq0.branch [
  | then-count-eq0-via-then-count-eq0 w ↦ query-none _ c.args.q w.if-count-eq0.true
  | then-count-eq0-via-else-count-eq0+then-count-gt8 w ↦ query-many _ c.args.q w.if-count-eq0.false w.if-count-gt8.true
]

pub loop-k-init : goal.loop-k-init
loop-k-init c = none-start _ _ _

pub returns-then-pattern_wrong : goal.returns-then-pattern_wrong
returns-then-pattern_wrong c = query-few _ c.args.q c.if-count-eq0.false c.if-count-gt8.false
    (one_found (wrong_pattern _) (pattern_at c.args.q) _ _ c.loop-k-test.true (sym c.pattern_wrong.ensures ∙ c.if-pattern_wrong.true))

pub loop-k-preserved : goal.loop-k-preserved
loop-k-preserved c = none-step _ _ _ _ c.loop-k.invariant c.loop-k-test.true (sym c.pattern_wrong.ensures ∙ c.if-pattern_wrong.false)

pub returns : goal.returns
returns c = query-few _ _ c.if-count-eq0.false c.if-count-gt8.false (none_found _ _ _ _ c.loop-k.invariant c.loop-k-test.false)
