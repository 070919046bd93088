use Prim.Native.Nat.{◌*◌, ◌≤◌}
use Rattle.query_rows.proofs.nodes_in.Given as goal

abbrev pub invariant-loop-word : goal.invariant-loop-word
invariant-loop-word l = l.nodes ≤ 64 * l.word-index
