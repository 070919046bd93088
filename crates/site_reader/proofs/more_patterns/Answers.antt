use Rattle.std.proofs.Common.{sym}
use Rattle.site_reader.proofs.Queries.{empty-short, patterns_start, patterns_step, patterns_stop, patterns_full}
use Rattle.site_reader.proofs.more_patterns.Goals as goal

pub with_pattern-value-requires : goal.with_pattern-value-requires
with_pattern-value-requires c = empty-short _ c.blank_query.ensures

pub loop-value-init : goal.loop-value-init
loop-value-init c = patterns_start _ _ _ _ c.args.first c.blank_query.ensures c.with_pattern-value.ensures

pub returns-in_default : goal.returns-in_default
returns-in_default c = patterns_stop _ _ _ _ c.args.first c.blank_query.ensures c.with_pattern-value.ensures _ _ c.loop-value.invariant
    (sym c.in_default.ensures)

pub loop-value-preserved : goal.loop-value-preserved
loop-value-preserved c = patterns_step _ _ _ _ _ c.loop-value.invariant c.loop-value-test.true _ _
    (sym c.in-Some.ensures) _ c.with_pattern-value-in-loop-value.ensures

pub returns : goal.returns
returns c = patterns_full _ _ _ _ c.args.first c.blank_query.ensures c.with_pattern-value.ensures _ _ c.loop-value.invariant
    c.loop-value-test.false
