-- The bindings after a fit.
-- Assumes nothing.
use Rattle.std.specs.Prelude.{ℕ, List, Option, Some, None, cond}
use Rattle.query.specs.Ask.{Fit}

-- the bindings afterwards, where it fits
abbrev pub kept : Fit → Option (List ℕ)
kept f = cond f.fits (Some f.bindings) None
