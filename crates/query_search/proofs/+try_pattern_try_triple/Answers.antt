use native.Mathlib.Omega.{arith}
use mathlib.Core.Path.{ap, ◌∙◌}
use Rattle.std.specs.Prelude.{Ok}
use Rattle.query.proofs.Steps.{few_patterns, right-subject, right-object}
use Rattle.query_search.proofs.Tries.{subject-outside, object-outside, subject_unfit, object_unfit, all-put, next_sought, try_end, none_left, try_step}
use Rattle.query_search.proofs.+try_pattern_try_triple.Goals as goal
use Rattle.query_search.proofs.+try_pattern_try_triple.Goals.{try_triple-then-not-allowed-via-then-not-allowed, try_triple-then-not-allowed-via-else-not-allowed+then-not-allowed-2}

pub try_pattern-bounds-q-k : goal.try_pattern-bounds-q-k
try_pattern-bounds-q-k t c = omega (arith, few_patterns _ _ c.requires.0)

pub try_pattern-first_fit-first-requires : goal.try_pattern-first_fit-first-requires
try_pattern-first_fit-first-requires t c =
    let x = c.args in
    let h = c.requires in
    (right-subject _ x.q h.0 x.k h.1, right-object _ x.q h.0 x.k h.1, omega arith, omega arith, h.2)

pub try_pattern-returns-then-i-n : goal.try_pattern-returns-then-i-n
try_pattern-returns-then-i-n t c =
    let x = c.args in
    let h = c.requires in
    none_left x.table.now x.map.now x.rows.now x.q h.0 x.k h.1 x.bindings h.5 _ _ _
    c.loop-from.invariant _ c.first_fit-first.ensures _ _ c.spend.ensures c.if-i-n.true

pub try_pattern-loop-from-preserved : goal.try_pattern-loop-from-preserved
try_pattern-loop-from-preserved t c =
    let x = c.args in
    let h = c.requires in
    let w = c.first_fit-first.ensures in
    try_step x.table.now x.map.now x.rows.now x.q h.0 x.k h.1 x.bindings h.5 _ _ _
    c.loop-from.invariant _ w _ _ c.spend.ensures _ c.try_triple.ensures (omega (arith, w.high)) (c.in_ok-try_triple.was ∙ ap Ok c.if-branch.false)

pub try_pattern-returns : goal.try_pattern-returns
try_pattern-returns t c =
    let x = c.args in
    let h = c.requires in
    try_end x.table.now x.map.now x.rows.now x.q h.0 x.k h.1 x.bindings h.5 _ _ _ c.loop-from.invariant
    c.loop-from-test.false

pub try_triple-bounds-q-k : goal.try_triple-bounds-q-k
try_triple-bounds-q-k t c = omega (arith, few_patterns _ _ c.requires.0)

pub try_triple-returns-then-not-allowed : goal.try_triple-returns-then-not-allowed
try_triple-returns-then-not-allowed t c =
    let x = c.args in
    let h = c.requires in
    elim c.then-not-allowed.branch [
      | try_triple-then-not-allowed-via-then-not-allowed w ↦
          subject-outside x.table.now x.map.now x.rows.now x.q h.0 x.k h.1 x.bindings h.7 h.5 x.i h.2 h.3 _ _ c.triple_at-triple.ensures
          c.allowed.ensures w.if-not-allowed.true
      | try_triple-then-not-allowed-via-else-not-allowed+then-not-allowed-2 w ↦
          object-outside x.table.now x.map.now x.rows.now x.q h.0 x.k h.1 x.bindings h.7 h.5 x.i h.2 h.3 _ _ c.triple_at-triple.ensures
          w.allowed-else-not-allowed.ensures w.if-not-allowed-2.true
    ]

pub try_triple-fit_end-requires : goal.try_triple-fit_end-requires
try_triple-fit_end-requires t c =
    let x = c.args in
    let h = c.requires in
    right-subject _ x.q h.0 x.k h.1

pub try_triple-returns-in_default : goal.try_triple-returns-in_default
try_triple-returns-in_default t c =
    let x = c.args in
    let h = c.requires in
    subject_unfit x.table.now x.map.now x.rows.now x.q h.0 x.k h.1 x.bindings h.7 h.5 x.i h.2 h.3 _ _ c.triple_at-triple.ensures c.in_default.ensures

pub try_triple-fit_end-requires-2 : goal.try_triple-fit_end-requires-2
try_triple-fit_end-requires-2 t c =
    let x = c.args in
    let h = c.requires in
    right-object _ x.q h.0 x.k h.1

pub try_triple-returns-in_default-fit_end : goal.try_triple-returns-in_default-fit_end
try_triple-returns-in_default-fit_end t c =
    let x = c.args in
    let h = c.requires in
    object_unfit x.table.now x.map.now x.rows.now x.q h.0 x.k h.1 x.bindings h.7 h.5 x.i h.2 h.3 _ _ c.triple_at-triple.ensures _ c.in-Some.ensures c.in_default-fit_end.ensures

pub try_triple-returns-then-k-count : goal.try_triple-returns-then-k-count
try_triple-returns-then-k-count t c =
    let x = c.args in
    let h = c.requires in
    all-put x.table.now x.map.now x.rows.now x.q h.0 x.k h.1 x.bindings h.7 h.5 x.i h.2 h.3 _
    _ c.triple_at-triple.ensures
    _ c.in-Some.ensures _ c.in-Some-fit_end.ensures c.if-k-count.true

pub try_triple-returns : goal.try_triple-returns
try_triple-returns t c =
    let x = c.args in
    let h = c.requires in
    next_sought x.table.now x.map.now x.rows.now x.q h.0 x.k h.1 x.bindings h.7 h.5 x.i h.2 h.3 _ _ c.triple_at-triple.ensures
    _ c.in-Some.ensures _ c.in-Some-fit_end.ensures _
    c.try_pattern.ensures
