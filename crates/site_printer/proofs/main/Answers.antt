use mathlib.Core.Path.{refl}
use Rattle.site_printer.proofs.Bounds.{print_end}
use Rattle.site_printer.proofs.main.Goals as goal

pub slice_bounds-write_all-end : goal.slice_bounds-write_all-end
slice_bounds-write_all-end c = print_end _ _ _ _ refl c.print_site-count.ensures
