use mathlib.Core.Path.{◌∙◌}
use borrow.Author.Tests.{le-ltb}
use Rattle.query_rows.proofs.Bits.{bit_beyond, bit_is}
use Rattle.query_rows.proofs.has_bit.Goals as goal

pub returns-then-j-rows : goal.returns-then-j-rows
returns-then-j-rows c = bit_is c.args.rows.now _

pub returns-else-j-rows : goal.returns-else-j-rows
returns-else-j-rows c = le-ltb _ _ c.if-j-rows.false ∙ bit_beyond c.args.rows.now _ c.if-j-rows.false
