use mathlib.Core.Path.{sym, ◌∙◌}
use Rattle.builder.proofs.Offers.{offered_known, offered_after, offered_full}
use Rattle.builder.proofs.offer_full.Goals as goal

pub returns-then-is_known : goal.returns-then-is_known
returns-then-is_known c = offered_after _ _ _ _ _ _ c.compacted-c.ensures _
    (offered_known _ _ _ c.compacted-c.ensures.built (sym c.is_known.ensures ∙ c.if-is_known.true))

pub returns-then-c-list : goal.returns-then-c-list
returns-then-c-list c = offered_after _ _ _ _ _ _ c.compacted-c.ensures _ c.append.ensures

pub returns : goal.returns
returns c = offered_after _ _ _ _ _ _ c.compacted-c.ensures _
    (offered_full _ _ _ _ c.compacted-c.ensures.built c.compacted-c.ensures.all_sorted
    (sym c.is_known.ensures ∙ c.if-is_known.false) c.if-c-list.false)
