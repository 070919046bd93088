use native.Mathlib.Omega.{arith}
use Rattle.weak_map.proofs.Bares.{joining_start, bare_joinable, joining_step, joining_end}
use Rattle.weak_map.proofs.join_bare.Goals as goal

pub loop-i-init : goal.loop-i-init
loop-i-init c = λ v ts s. joining_start v _ ts _ _ s

pub join_bare_at-first-requires : goal.join_bare_at-first-requires
join_bare_at-first-requires c = bare_joinable _ _ c.requires.ts _ _ c.requires.state _ _ _ (c.loop-i.invariant c.requires.words c.requires.ts c.requires.state)
    (omega arith)

pub loop-i-preserved : goal.loop-i-preserved
loop-i-preserved c = λ v ts s. joining_step v _ ts _ _ s _ _ _ (c.loop-i.invariant v ts s) (omega arith) _ _
    c.join_bare_at-first.ensures

pub returns : goal.returns
returns c = λ v ts s. joining_end v _ ts _ _ s _ _ _ (c.loop-i.invariant v ts s) (omega arith)
