-- The order of a query's patterns changes neither what is refused of it nor its choices.
-- Assumes nothing.
use Prim.Native.Nat.{ℕ, ◌<◌, ◌≤◌}
use native.Mathlib.Omega.{arith}
use native.Mathlib.Decide.{dec_lt}
use mathlib.Core.Path.{◌≡◌, refl, ap, ◌∙◌}
use mathlib.Core.Bool.{false}
use mathlib.Core.List.Memᴰ
use mathlib.Core.List.{List}
use lib.ListN.{length}
use lib.Dec.{eqb, ltb}
use borrow.Author.Tests.{ne_eqb, le-ltb}
use Rattle.model.specs.declared.Triple.{Triple}
use Rattle.model.specs.Partition.{label}
use Rattle.theory.proofs.Tests.{or_neither}
use Rattle.theory.proofs.Runs.{run-fails}
use Rattle.std.specs.List.{swap}
use Rattle.query.specs.declared.Pattern.{Pattern}
use Rattle.query.specs.declared.Query.{Query}
use Rattle.query.specs.Ask.{pattern_at, wrong_pattern, counted_patterns, wrong_query}
use Rattle.query.specs.Match.{pattern_triple}
use Rattle.query.specs.Choices.{Puts}
use Rattle.query.proofs.Steps.{some_pattern, few_patterns, right-pattern}
use Rattle.query_order.specs.Order.{first_patterns, StandsIn, Arranged}
use Rattle.query_order.proofs.Exchange.{swapped-is, exchange_arranged}

-- ── orders ──
pub arranged_as_is : (k : ℕ) (q : Query) → length q.patterns ≡ 8 → Arranged k q q
arranged_as_is k q room = record {
  room = room;
  count = refl;
  before = λ j l m. refl;
  comes = λ j l m. (j, l, m, refl);
  goes = λ j l m. (j, l, m, refl);
}

pub arranged_on : (k : ℕ) (q r s : Query) → Arranged k q r → Arranged k r s → Arranged k q s
arranged_on k q r s a b = record {
  room = b.room;
  count = b.count ∙ a.count;
  before = λ j l m. b.before j l (omega (arith, a.count)) ∙ a.before j l m;
  comes = λ j l m. let w = b.comes j l m in let z = a.comes w.0 w.1 w.2 in (z.0, z.1, z.2, w.3 ∙ z.3);
  goes = λ j l m. let w = a.goes j l m in let z = b.goes w.0 w.1 w.2 in (z.0, z.1, z.2, w.3 ∙ z.3);
}

-- ── the loop that arranges ──
-- two patterns from the k-th on exchanged as the library says it
pub arrange_step : (k : ℕ) (q r : Query) (i j : ℕ) → Arranged k q r → q.count ≤ 8 → k ≤ i → k ≤ j → i < q.count → j < q.count
    → (ps : List Pattern) → ps ≡ swap r.patterns i j → Arranged k q (record { patterns = ps; count = r.count })
arrange_step k q r i j a few ki kj ci cj ps e =
    let x = exchange_arranged k r i j a.room (omega (arith, a.count)) ki kj (omega (arith, a.count)) (omega (arith, a.count)) in
    rw (swapped-is r i j (omega (arith, a.room)) (omega (arith, a.room)) ps e) (arranged_on k q r _ a x)

-- ── what is refused ──
right-query : (n : ℕ) (q : Query) → 0 < q.count → q.count ≤ 8 → ((j : ℕ) → j < q.count → wrong_pattern n (pattern_at q j) ≡ false)
    → wrong_query n q ≡ false
unfolding wrong_query counted_patterns
right-query n q some few h =
    or_neither (eqb q.count 0) _ (ne_eqb q.count 0 (λ z. omega arith))
    (or_neither (ltb 8 q.count) _ (le-ltb 8 q.count few) (run-fails (wrong_pattern n) (pattern_at q) 0 q.count (λ j l m. h j (omega arith))))

-- a query with its patterns in another order is no wrong one
pub arranged_right : (n k : ℕ) (q r : Query) → Arranged k q r → wrong_query n q ≡ false → wrong_query n r ≡ false
arranged_right n k q r a h =
    let some = some_pattern n q h in
    let few = few_patterns n q h in
    let e = a.count in
    right-query n r (omega arith) (omega arith) (λ j l. at_place j l (dec_lt j k))
  where
    at_place : (j : ℕ) → j < r.count → Dec (j < k) → wrong_pattern n (pattern_at r j) ≡ false
    at_place j l (yes b) =
        let m : j < q.count = omega (arith, a.count) in
        ap (wrong_pattern n) (a.before j b m) ∙ right-pattern n q h j m
    at_place j l (no b) = let w = a.comes j (omega arith) l in ap (wrong_pattern n) w.3 ∙ right-pattern n q h w.0 w.2

-- nor are the first patterns of one
pub first-right : (n : ℕ) (q : Query) (z : ℕ) → wrong_query n q ≡ false → 0 < z → z ≤ q.count → wrong_query n (first_patterns q z) ≡ false
first-right n q z h some l =
    right-query n (first_patterns q z) some (let few = few_patterns n q h in omega arith) (λ j m. right-pattern n q h j (omega arith))

-- ── choices ──
module _ (ts : List Triple) (map : List ℕ) (k : ℕ) (q r : Query) (b : List ℕ) (σ : ℕ → ℕ) where
  -- where each pattern of r is one of q
  puts-each : ((j : ℕ) → k ≤ j → j < r.count → StandsIn q k (pattern_at r j)) → Puts ts map q k b σ → Puts ts map r k b σ
  puts-each h p = record {
    agrees = p.agrees;
    puts = λ j l m.
        let w = h j l m in
        Memᴰ.cast {a = pattern_triple (label map) σ (pattern_at r j)} (ap (pattern_triple (label map) σ) w.3) (p.puts w.0 w.1 w.2);
  }

pub to_arranged : (ts : List Triple) (map : List ℕ) (k : ℕ) (q r : Query) (b : List ℕ) (σ : ℕ → ℕ)
    → Arranged k q r → Puts ts map q k b σ → Puts ts map r k b σ
to_arranged ts map k q r b σ a = puts-each ts map k q r b σ a.comes

pub from_arranged : (ts : List Triple) (map : List ℕ) (k : ℕ) (q r : Query) (b : List ℕ) (σ : ℕ → ℕ)
    → Arranged k q r → Puts ts map r k b σ → Puts ts map q k b σ
from_arranged ts map k q r b σ a = puts-each ts map k r q b σ a.goes
