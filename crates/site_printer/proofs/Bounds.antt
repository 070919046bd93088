-- The parts of the program's two lists.
-- Assumes nothing.
use Prim.Native.Nat.{ℕ, ◌≤◌}
use mathlib.Core.Path.{◌≡◌}
use mathlib.Core.List.{List}
use native.Mathlib.Omega.{arith}
use lib.ListN.{length}
use Rattle.site_form.specs.Printing.{printed}
use Rattle.site_bytes.specs.Calls.{Put}
use Rattle.site_bytes.proofs.Stores.{put-length}
use Rattle.table_printing.proofs.Fits.{printed-fits}

-- what is printed fits
pub print_end : (text l out : List ℕ) (r : ℕ) → 65536 ≡ length l → Put l 0 (printed text) out r → r ≤ length out
print_end text l out r e p = omega (arith, p.next, printed-fits text, put-length l 0 (printed text) out r p)
