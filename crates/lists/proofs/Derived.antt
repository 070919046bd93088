-- The derived comparisons of triples are those of the definitions.
-- Assumes nothing.
use mathlib.Core.Path.{◌≡◌, refl}
use Rattle.std.proofs.Common.{rules}
use Rattle.std.specs.Ordering.{partial_lt}
use Rattle.std.specs.Cmp.Rules.{comparing}
use Rattle.model.specs.declared.Triple.{Triple}
use Rattle.model.specs.contracts.TriplePartialOrd.TheImpl as order
use Rattle.model.specs.contracts.TriplePartialEq.TheImpl as equality
use Rattle.model.specs.Triples.{before, same}

pub lt_before : (a b : Triple) → partial_lt (order.partial_cmp-value).it a b ≡ before a b
unfolding before
lt_before a b = search (comparing, rules)

pub eq_same : (a b : Triple) → (equality.eq-value).it a b ≡ same a b
unfolding same
eq_same a b = refl
