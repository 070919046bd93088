use Rattle.std.proofs.lemmas.Result.{err_from_is_err_and}
use mathlib.Core.Path.{sym, ◌∙◌}
use native.Mathlib.Omega.{arith}
use Rattle.rule_walk.proofs.Sweeps.{partners_start, partners_next, partners_full, partners_end, partners_stop}
use Rattle.rule_walk.proofs.draw_partners.Goals as goal

pub loop-i-init : goal.loop-i-init
loop-i-init c = partners_start _ _ _ _ _ _ _ c.requires.0 c.partner_key-key.ensures
    (c.lower_bound-i.ensures.bound c.requires.0.built.base_rising)

pub returns-then-not-same_front : goal.returns-then-not-same_front
returns-then-not-same_front c = partners_stop _ _ _ _ _ _ _ _ c.loop-i.invariant c.requires.1 c.requires.0.built.base_rising
    (omega arith) _ _ c.triple_at-partner.ensures c.partner_key-key.ensures
    (sym c.same_front.ensures ∙ c.if-not-same_front.true)

pub returns-in_err-state : goal.returns-in_err-state
returns-in_err-state c = let p = err_from_is_err_and c.from_residual.result c.from_residual.ensures.1 in
    rw (p.1, p.2) (partners_full _ _ _ _ _ _ _ _ c.loop-i.invariant _ _ (omega arith) c.triple_at-partner.ensures c.requires.1
    c.requires.2 _ c.in_err-state.ensures)

pub loop-i-preserved : goal.loop-i-preserved
loop-i-preserved c = partners_next _ _ _ _ _ _ _ _ c.loop-i.invariant _ _ (omega arith)
    c.triple_at-partner.ensures c.requires.1 c.requires.2 _ c.in_ok-state.ensures

pub returns : goal.returns
returns c = partners_end _ _ _ _ _ _ _ _ c.loop-i.invariant c.requires.1 c.requires.0.built.base_rising
    (omega arith)
