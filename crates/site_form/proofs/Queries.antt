-- Queries as values.
-- Assumes nothing.
use mathlib.Core.Path.{◌≡◌}
use mathlib.Core.List.{List, ◌++◌}
use lib.ListN.{length, get_or, get_or-append}
use Rattle.model.specs.Lists.{tabulate}
use Rattle.query.specs.Ask.{blank, counted_patterns}
use Rattle.theory.proofs.Lists.{tabulate-list}
use Rattle.site_form.specs.Reading.{query_of, CountsPatterns}

-- the first elements of a list, by their places
front : {A : Type 0} (d : A) (xs ys : List A) → tabulate (λ k. get_or (xs ++ ys) k d) 0 (length xs) ≡ xs
front d xs ys = tabulate-list d (λ k. get_or (xs ++ ys) k d) xs (λ k h. get_or-append xs ys d k h)

pub counts_patterns : CountsPatterns
unfolding counted_patterns query_of
counts_patterns ps = front blank ps _
