-- Two patterns of a query exchanged.
-- Assumes nothing.
use Prim.Native.Nat.{ℕ, ◌<◌, ◌≤◌}
use native.Mathlib.Omega.{arith}
use native.Mathlib.Decide.{ℕ_discrete}
use mathlib.Core.Path.{◌≡◌, refl, sym, ap, ◌∙◌}
use mathlib.Core.List.{List}
use lib.ListN.{length, get_or, set, length-set}
use lib.Seq.{get_or-set_same, get_or-set_other}
use Rattle.std.specs.List.{swap}
use Rattle.std.proofs.lemmas.List.Edits.{swap_is}
use Rattle.query.specs.declared.Pattern.{Pattern}
use Rattle.query.specs.declared.Query.{Query}
use Rattle.query.specs.Ask.{blank, pattern_at}
use Rattle.query_order.specs.Order.{Arranged}

-- ── two patterns exchanged ──
-- the query with its patterns i and j exchanged
unfoldable pub exchanged : Query → ℕ → ℕ → Query
exchanged q i j = record { patterns = set (set q.patterns i (pattern_at q j)) j (pattern_at q i); count = q.count }

module _ (q : Query) (i j : ℕ) (li : i < length q.patterns) (lj : j < length q.patterns) where
  once : List Pattern
  once = set q.patterns i (pattern_at q j)

  at_j : pattern_at (exchanged q i j) j ≡ pattern_at q i
  unfolding exchanged once
  at_j = get_or-set_same once j (pattern_at q i) blank (omega (arith, length-set q.patterns i (pattern_at q j)))

  at_other : (m : ℕ) → (m ≡ j → ⊥) → pattern_at (exchanged q i j) m ≡ get_or once m blank
  unfolding exchanged once
  at_other m n = get_or-set_other once j m (pattern_at q i) blank n

  at_i : (i ≡ j → ⊥) → pattern_at (exchanged q i j) i ≡ pattern_at q j
  unfolding once
  at_i n = at_other i n ∙ get_or-set_same q.patterns i (pattern_at q j) blank li

  at_rest : (m : ℕ) → (m ≡ i → ⊥) → (m ≡ j → ⊥) → pattern_at (exchanged q i j) m ≡ pattern_at q m
  unfolding once
  at_rest m n o = at_other m o ∙ get_or-set_other q.patterns i m (pattern_at q j) blank n

  -- where pattern m went, which is also where it came from
  abbrev Went : ℕ → ℕ → Type 0
  Went k m = (n : ℕ) × (k ≤ n) × (n < q.count) × (pattern_at (exchanged q i j) m ≡ pattern_at q n) × (pattern_at q m ≡ pattern_at (exchanged q i j) n)

  after : ℕ → Pattern
  after = pattern_at (exchanged q i j)

  went : (k : ℕ) → k ≤ i → k ≤ j → i < q.count → j < q.count → (m : ℕ) → k ≤ m → m < q.count → Went k m
  unfolding after
  went k ki kj ci cj m km cm = go (ℕ_discrete m j) (ℕ_discrete m i) (ℕ_discrete i j)
    where
      go : Dec (m ≡ j) → Dec (m ≡ i) → Dec (i ≡ j) → Went k m
      go (yes e) _ (yes s) = (i, ki, ci, ap after e ∙ at_j, ap (pattern_at q) (e ∙ sym s) ∙ sym at_j ∙ ap after (sym s))
      go (yes e) _ (no s) = (i, ki, ci, ap after e ∙ at_j, ap (pattern_at q) e ∙ sym (at_i s))
      go (no n) (yes e) _ = (j, kj, cj, ap after e ∙ at_i (λ z. n (e ∙ z)), ap (pattern_at q) e ∙ sym at_j)
      go (no n) (no o) _ = (m, km, cm, at_rest m o n, sym (at_rest m o n))

-- exchanging two patterns from the k-th on is an order of those
pub exchange_arranged : (k : ℕ) (q : Query) (i j : ℕ) → length q.patterns ≡ 8 → q.count ≤ 8 → k ≤ i → k ≤ j → i < q.count → j < q.count
    → Arranged k q (exchanged q i j)
unfolding exchanged
exchange_arranged k q i j room few ki kj ci cj = record {
  room = length-set (set q.patterns i (pattern_at q j)) j (pattern_at q i) ∙ length-set q.patterns i (pattern_at q j) ∙ room;
  count = refl;
  before = λ m l c. at_rest q i j li lj m (λ z. omega arith) (λ z. omega arith);
  comes = λ m l c. let w = went q i j li lj k ki kj ci cj m l c in (w.0, w.1, w.2, w.3);
  goes = λ m l c. let w = went q i j li lj k ki kj ci cj m l c in (w.0, w.1, w.2, w.4);
}
  where
    li : i < length q.patterns
    li = omega arith

    lj : j < length q.patterns
    lj = omega arith

-- as the library says it
pub swapped-is : (q : Query) (i j : ℕ) → i < length q.patterns → j < length q.patterns → (ps : List Pattern) → ps ≡ swap q.patterns i j
    → ◌≡◌ {A = Query} (record { patterns = ps; count = q.count }) (exchanged q i j)
unfolding exchanged
swapped-is q i j li lj ps e = ap (λ (x : List Pattern). record { patterns = x; count = q.count }) (e ∙ sym (swap_is q.patterns i j blank li lj))
