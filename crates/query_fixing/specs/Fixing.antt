-- The variable to fix.
-- Assumes nothing.
use Rattle.std.specs.Prelude.{◌≡◌, ℕ, ◌<◌, List, slice_index}
use Rattle.model.specs.Codes.{absent}

-- a variable that has no node
pub record FreeVariable (b : List ℕ) (v : ℕ) : Type 0 where
  pub below : v < 8
  pub free : slice_index b v ≡ absent
