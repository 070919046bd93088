use Prim.Native.Nat.{◌-◌, ◌<◌, ◌≤◌}
use native.Mathlib.Omega.{arith}
use mathlib.Core.Path.{◌∙◌}
use Rattle.query.proofs.Steps.{few_patterns, right-subject, right-object}
use Rattle.query_rows.proofs.Rows.{sized_as}
use Rattle.query_domains.proofs.Sweeps.{all_none, all-swept}
use Rattle.query_domains.proofs.sweep_all.Goals as goal

pub bounds-q-j : goal.bounds-q-j
bounds-q-j c = omega (arith, c.loop-j-test.true, c.loop-j.invariant.1, few_patterns _ c.args.q c.requires.0)

pub sweep-requires : goal.sweep-requires
sweep-requires c = let high : c.loop-j.j - 1 < c.args.q.count = omega (arith, c.loop-j-test.true, c.loop-j.invariant.1) in (
  right-subject _ c.args.q c.requires.0 _ high,
  right-object _ c.args.q c.requires.0 _ high,
  sized_as _ _ (c.loop-j.invariant.0.size ∙ c.fill.ensures.size) c.requires.1,
)

pub returns-then-not-sweep : goal.returns-then-not-sweep
returns-then-not-sweep c = let low : c.args.k ≤ c.loop-j.j - 1 = omega (arith, c.loop-j-test.true) in
    let high : c.loop-j.j - 1 < c.args.q.count = omega (arith, c.loop-j-test.true, c.loop-j.invariant.1) in
    all_none c.args.table.now c.args.map.now _ c.args.q _ _ _ _ _ c.loop-j.invariant.0 low high
    c.sweep.ensures _ _ c.fill.ensures (c.if-not-sweep.true)

pub returns : goal.returns
returns c = all-swept _ _ _ _ _ _ _ _ c.fill.ensures c.loop-j.invariant.0
