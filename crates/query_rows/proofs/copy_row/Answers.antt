use native.Mathlib.Omega.{arith}
use Prim.Native.Nat.{◌/◌}
use lib.ListN.{length}
use Rattle.query_rows.proofs.Rows.{moved, row_copied}
use Rattle.query_rows.proofs.copy_row.Goals as goal

pub returns : goal.returns
returns c = let rows = c.args.rows.now in
    let w = c.copy_within.ensures in
    row_copied rows _ _ _ _ c.requires.0 (omega arith) (omega arith)
    (moved rows _ _ _ _ (length rows / 13) (omega arith) w.len w.by_index.0 w.by_index.1 w.by_index.2)
