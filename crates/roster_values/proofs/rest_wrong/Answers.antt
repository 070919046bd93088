use native.Mathlib.Omega.{arith}
use Rattle.roster_values.proofs.Values.{over-at, over-nowhere}
use Rattle.roster_values.proofs.rest_wrong.Goals as goal

pub returns-then-roster-i-gt3 : goal.returns-then-roster-i-gt3
returns-then-roster-i-gt3 c = over-at c.args.roster.now _ _ _ (omega arith) (omega arith) c.if-roster-i-gt3.true

pub returns : goal.returns
returns c = over-nowhere c.args.roster.now _ _ (λ k x y. c.loop-i.invariant k (omega arith) x)
