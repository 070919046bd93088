-- The order of the printer's checks.
-- Assumes nothing.
use Rattle.model.specs.Outcomes.{decided}
use Rattle.site_form.specs.Printing.{print_checked, CodesBeforeQueries}

pub codes-before-queries : CodesBeforeQueries
unfolding print_checked decided
codes-before-queries v n triples saturated summarised representatives answers size words codes = rw (size, words, codes)
