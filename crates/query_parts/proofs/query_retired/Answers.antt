use mathlib.Core.Path.{sym, ◌∙◌}
use Rattle.query.specs.Ask.{pattern_at, asks_schema}
use Rattle.theory.proofs.Runs.{none-start, none-step, one_found, none_found}
use Rattle.query_parts.proofs.Ends.{retired-by}
use Rattle.query_parts.proofs.query_retired.Goals as goal

pub loop-i-init : goal.loop-i-init
loop-i-init c = none-start _ _ _

pub returns-then-is_schema : goal.returns-then-is_schema
returns-then-is_schema c = retired-by _ _
    (one_found (asks_schema _) (pattern_at c.args.q) _ _ c.loop-i-test.true (sym c.is_schema.ensures ∙ c.if-is_schema.true))

pub loop-i-preserved : goal.loop-i-preserved
loop-i-preserved c = none-step _ _ _ _ c.loop-i.invariant c.loop-i-test.true
    (sym c.is_schema.ensures ∙ c.if-is_schema.false)

pub returns : goal.returns
returns c = retired-by _ _ (none_found _ _ _ _ c.loop-i.invariant c.loop-i-test.false)
