use mathlib.Core.Path.{refl}
use native.Mathlib.Omega.{arith}
use Rattle.printer.proofs.Texts.{too_long, text_refused, count-few, count-end, part-flat, part-few, asks-few, text_put}
use Rattle.printer.proofs.print_site.Goals as goal

pub returns-then-text-gt-MOST_BYTES : goal.returns-then-text-gt-MOST_BYTES
returns-then-text-gt-MOST_BYTES c = too_long _ _ _ _ c.if-text-gt-MOST_BYTES.true c.refuse.ensures

pub returns-in_default : goal.returns-in_default
returns-in_default c = text_refused _ _ refl c.if-text-gt-MOST_BYTES.false _ _ c.in_default.ensures _ _ _ c.refuse-in_default.ensures

pub overflow_mul-site : goal.overflow_mul-site
overflow_mul-site c = let h = count-few _ _ refl c.if-text-gt-MOST_BYTES.false _ _ c.in-Ok.ensures in omega arith

pub slice_bounds-check_and_print-end : goal.slice_bounds-check_and_print-end
slice_bounds-check_and_print-end c = count-end _ _ refl c.if-text-gt-MOST_BYTES.false _ _ c.in-Ok.ensures

pub check_and_print-requires : goal.check_and_print-requires
check_and_print-requires c = (
  asks-few _ _ refl c.if-text-gt-MOST_BYTES.false _ _ c.in-Ok.ensures,
  part-flat _ _ refl c.if-text-gt-MOST_BYTES.false _ _ c.in-Ok.ensures,
  part-few _ _ refl c.if-text-gt-MOST_BYTES.false _ _ c.in-Ok.ensures,
)

pub returns : goal.returns
returns c = text_put _ _ refl c.if-text-gt-MOST_BYTES.false _ _ c.in-Ok.ensures _ _ _ c.check_and_print.ensures
