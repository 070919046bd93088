use Prim.Native.Nat.{◌+◌}
use native.Mathlib.Omega.{arith}
use mathlib.Core.Path.{◌∙◌}
use Rattle.std.specs.Prelude.{Ok}
use Rattle.query.proofs.Steps.{few_patterns}
use Rattle.query_rows.proofs.Rows.{sized_as}
use Rattle.query_order.proofs.Arranged.{arranged_right}
use Rattle.query_search.specs.Search.{Sought}
use Rattle.query_settling.specs.Settling.{NextFixed}
use Rattle.query_settling.proofs.Settles.{fixed_row, ends-present, needs_rows, needs_part, settle_falls, each-falls}
use Rattle.query_settling.proofs.Settles.{rows-fewer, rows_more, may_rows, cannot_settle, swept-rows, unsupported, answered, fixed_kept}
use Rattle.query_settling.proofs.Settles.{none_left, fix_step, parts-start, part-missing, part-put, parts-end}
use Rattle.query_settling.proofs.+settle_settle_each_settle_parts.Goals as goal

pub settle-returns-then-not-sweep_all : goal.settle-returns-then-not-sweep_all
settle-returns-then-not-sweep_all t c =
    let x = c.args in
    let w = c.sweep_all.ensures in (
      unsupported x.table.now x.map.now _ _ x.q x.k x.bindings w c.if-not-sweep_all.true,
      swept-rows x.table.now
          x.map.now _ _ x.q x.k x.bindings w _,
    )

pub settle-next_fixed-fixed-requires : goal.settle-next_fixed-fixed-requires
settle-next_fixed-fixed-requires t c =
    let f = c.requires.0 in
    few_patterns _ _ f.whole.right

pub settle-step_limit-steps-requires : goal.settle-step_limit-steps-requires
settle-step_limit-steps-requires t c =
    let f = c.requires.0 in
    (sized_as _ _ c.sweep_all.ensures.size f.sized, omega (arith, few_patterns _ _ f.whole.right), omega (arith, f.whole.short), fixed_row _ _ _ c.next_fixed-fixed.ensures)

pub settle-try_pattern-first-requires : goal.settle-try_pattern-first-requires
settle-try_pattern-first-requires t c =
    let x = c.args in
    let f = c.requires.0 in (
      f.whole.right,
      f.counted,
      f.whole.order,
      ends-present x.table.now x.map.now x.q x.rising f.whole,
      (sized_as _ _ c.sweep_all.ensures.size f.sized).1,
      f.bound,
    )

pub settle-returns-in-Ok : goal.settle-returns-in-Ok
settle-returns-in-Ok t c =
    let x = c.args in
    let w = c.sweep_all.ensures in
    let s : Sought x.table.now x.map.now c.sweep_all.new.rows x.q x.k x.bindings _ _ (Ok c.in-Ok.found) = rw c.in-Ok.is at c.try_pattern-first.ensures in
    (answered x.table.now x.map.now _ _ x.q x.k x.bindings w _ _ s, swept-rows x.table.now x.map.now _ _ x.q x.k x.bindings w _)

pub settle-settle_each-requires : goal.settle-settle_each-requires
settle-settle_each-requires t c =
    let x = c.args in
    let f = c.requires.0 in
    let w = c.sweep_all.ensures in
    let v : NextFixed x.bindings x.depth c.in-Some.fixed = rw c.in-Some.is at c.next_fixed-fixed.ensures in
    let few = v.free.below in
    let copied = c.copy_row.ensures in (
      each-falls _ c.decreases,
      (
        needs_rows x.table.now x.map.now x.rows.now x.q x.k x.bindings x.rising f _
            (copied.size ∙ w.size),
        v.less,
        few,
        v.free.free,
        fixed_kept x.table.now x.map.now _ _ x.q x.k x.bindings w _ _ _ (omega (arith, f.sized.0, w.size)) few copied,
      ),
    )

pub settle_each-returns-then-node-n : goal.settle_each-returns-then-node-n
settle_each-returns-then-node-n t c =
    let x = c.args in
    let h = c.requires in
    let i = c.loop-x.invariant.0 in (
      none_left x.table.now x.map.now x.rows.now x.q x.k x.bindings (10 + x.depth) x.fixed h.2 _ _ i (omega arith) h.4
          _ c.next_in_row-node.ensures c.if-node-n.true,
      rows-fewer _ _ _ _ (omega arith) i.rows,
    )

pub settle_each-loop-x-preserved : goal.settle_each-loop-x-preserved
settle_each-loop-x-preserved t c =
    let x = c.args in
    let f = c.requires.0 in
    let h = c.requires in
    let i = c.loop-x.invariant.0 in
    let s = c.settle_parts.ensures in
    let w = c.next_in_row-node.ensures in (
      fix_step x.table.now x.map.now x.rows.now x.q x.k x.bindings (10 + x.depth) x.fixed h.2 _ _ i (omega arith) h.4 _
          w f.bound h.3 s.0 _ (rows-fewer _ _ _ _ (omega arith) s.1) c.if-settle_parts.false,
      omega (arith, w.high),
    )

pub settle_parts-returns-then-not-may_settle : goal.settle_parts-returns-then-not-may_settle
settle_parts-returns-then-not-may_settle t c =
    let x = c.args in
    let w = c.may_settle.ensures in (
      cannot_settle x.table.now x.map.now _ _ x.q x.k x.bindings w c.if-not-may_settle.true,
      may_rows x.table.now
          x.map.now _ _ x.q x.k x.bindings w _,
    )

pub settle_parts-arrange-ordered-requires : goal.settle_parts-arrange-ordered-requires
settle_parts-arrange-ordered-requires t c =
    let f = c.requires.0 in
    few_patterns _ _ f.whole.right

pub settle_parts-loop-j-init : goal.settle_parts-loop-j-init
settle_parts-loop-j-init t c =
    let x = c.args in
    let f = c.requires.0 in
    parts-start x.table.now x.map.now _ x.q _ x.k x.bindings c.arrange-ordered.ensures _ f.counted

pub settle_parts-part_end-end-requires : goal.settle_parts-part_end-end-requires
settle_parts-part_end-end-requires t c =
    let f = c.requires.0 in
    (c.loop-j-test.true, few_patterns _ _ (arranged_right _ _ _ _ c.arrange-ordered.ensures f.whole.right))

pub settle_parts-settle-requires : goal.settle_parts-settle-requires
settle_parts-settle-requires t c =
    let x = c.args in
    let f = c.requires.0 in (
      settle_falls _ c.decreases,
      (
        needs_part x.table.now x.map.now x.rows.now x.q x.k x.bindings x.rising f
            _ (c.loop-j.invariant.rows.size ∙ c.may_settle.ensures.size) _ c.arrange-ordered.ensures _ _ c.part_end-end.ensures,
        c.requires.1,
      ),
    )

pub settle_parts-returns-then-not-settle : goal.settle_parts-returns-then-not-settle
settle_parts-returns-then-not-settle t c =
    let x = c.args in
    let f = c.requires.0 in
    let i = c.loop-j.invariant in
    let s = c.settle.ensures in (
      part-missing x.table.now x.map.now _ x.q _ x.k x.bindings c.arrange-ordered.ensures _ f.whole.right _ _ i
          c.loop-j-test.true _ c.part_end-end.ensures
          s.0 c.if-not-settle.true,
      rows_more _ _ _ _ _ (omega arith) (may_rows x.table.now x.map.now _ _ x.q x.k x.bindings c.may_settle.ensures _)
          (rows_more _ _ _ _ _ (omega arith) i.rows s.1),
    )

pub settle_parts-loop-j-preserved : goal.settle_parts-loop-j-preserved
settle_parts-loop-j-preserved t c =
    let x = c.args in
    let f = c.requires.0 in
    let s = c.settle.ensures in
    part-put x.table.now x.map.now _ x.q _ x.k x.bindings c.arrange-ordered.ensures _ f.whole.right _ _ c.loop-j.invariant
    c.loop-j-test.true _ c.part_end-end.ensures
    s.0 _ s.1 c.if-not-settle.false

pub settle_parts-returns : goal.settle_parts-returns
settle_parts-returns t c =
    let x = c.args in (
      parts-end x.table.now x.map.now _ x.q _ x.k x.bindings c.arrange-ordered.ensures _ _ _ c.loop-j.invariant
          c.loop-j-test.false,
      rows_more _ _ _ _ _ (omega arith) (may_rows x.table.now x.map.now _ _ x.q x.k x.bindings c.may_settle.ensures _)
          c.loop-j.invariant.rows,
    )
