use mathlib.Core.Path.{◌∙◌, ap}
use Rattle.query_rows.specs.Rows.{bit}
use Rattle.query_rows.proofs.Rows.{in_row_is}
use Rattle.query_rows.proofs.in_row.Goals as goal

pub returns : goal.returns
returns c = let rows = c.args.rows.now in
    c.has_bit.ensures ∙ ap (bit rows) c.place.ensures ∙ in_row_is rows _ _
