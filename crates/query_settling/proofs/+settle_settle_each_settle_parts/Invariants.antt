use Rattle.std.proofs.Common.{◌+◌, ◌-◌, ◌*◌, ◌≤◌}
use Rattle.query_settling.proofs.Settles.{NoneFixed, PartsPut}
use Rattle.query_settling.proofs.+settle_settle_each_settle_parts.Given as goal

-- variables that may still be fixed; at one depth first the parts, then a part, then the nodes of its fixed variable
abbrev pub decreases-settle : goal.decreases-settle
decreases-settle l = 3 * (3 - l.depth) + 1

abbrev pub decreases-settle_each : goal.decreases-settle_each
decreases-settle_each l = 3 * (3 - l.depth)

abbrev pub decreases-settle_parts : goal.decreases-settle_parts
decreases-settle_parts l = 3 * (3 - l.depth) + 2

abbrev pub invariant-settle_each-loop-x : goal.invariant-settle_each-loop-x
invariant-settle_each-loop-x l =
    NoneFixed l.table l.map l.initial.rows l.q l.k l.bindings (10 + l.depth) l.fixed l.rows l.x × (l.x ≤ l.n)

abbrev pub decreases-settle_each-loop-x : goal.decreases-settle_each-loop-x
decreases-settle_each-loop-x l = l.n - l.x

abbrev pub invariant-settle_parts-loop-j : goal.invariant-settle_parts-loop-j
invariant-settle_parts-loop-j l = PartsPut l.table l.map l.initial.rows l.ordered l.k l.bindings (10 + l.depth) l.rows l.j

abbrev pub decreases-settle_parts-loop-j : goal.decreases-settle_parts-loop-j
decreases-settle_parts-loop-j l = l.count - l.j
