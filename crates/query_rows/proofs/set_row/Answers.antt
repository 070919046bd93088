use Prim.Native.Nat.{◌/◌}
use native.Mathlib.Omega.{arith}
use lib.ListN.{length, length-take, length-drop}
use Rattle.query_rows.proofs.Places.{row_within}
use Rattle.query_rows.proofs.Rows.{filled, row-set}
use Rattle.query_rows.proofs.set_row.Goals as goal

pub returns : goal.returns
returns c = let rows = c.args.rows.now in
    let l = row_within _ (length rows) c.requires.1 in
    row-set rows _ _ _ _ c.requires.0 (omega arith) (omega arith)
    (filled rows _ _ _ _ (length rows / 13) _ l (omega arith) (simp (length-take, length-drop) (omega arith)) (c.fill.ensures.after (λ y e. e)))
