use native.Mathlib.Omega.{arith}
use mathlib.Core.Path.{refl}
use Rattle.std.specs.Prelude.{Ok, []}
use Rattle.query.specs.Ask.{unbound}
use Rattle.query.proofs.Steps.{some_pattern}
use Rattle.query_search.specs.Search.{Sought}
use Rattle.query_settling.proofs.Settles.{ends-present, quick-exact, settled-exact}
use Rattle.query_settling.proofs.some_choice.Goals as goal

pub try_pattern-quick-requires : goal.try_pattern-quick-requires
try_pattern-quick-requires c = let x = c.args in (
  c.requires.right,
  some_pattern _ x.q c.requires.right,
  c.requires.order,
  ends-present x.table.now x.map.now x.q x.rising
      c.requires,
  omega arith,
  refl,
)

pub returns-in-Ok : goal.returns-in-Ok
returns-in-Ok c = let x = c.args in
    let s : Sought x.table.now x.map.now [] x.q 0 unbound _ _ (Ok c.in-Ok.found) = rw c.in-Ok.is at c.try_pattern-quick.ensures in
    quick-exact x.table.now x.map.now x.q x.rising c.requires _ (omega arith) _ _ s

pub returns : goal.returns
returns c = let x = c.args in
    settled-exact x.table.now x.map.now x.q x.rising c.requires c.settle_parts.ensures.0
