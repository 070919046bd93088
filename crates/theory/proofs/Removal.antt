-- A held triple that leaves: where the other held triples keep its ends, no class changes and the map stays.
-- Assumes nothing.
use Prim.Native.Nat.{ℕ, ◌≤◌}
use mathlib.Core.Path.{◌≡◌, sym, subst, ◌∙◌, ap}
use mathlib.Core.Logic.{◌⊎◌, inl, inr, ⊎_elim}
use mathlib.Core.Bool.{true, true≢false}
use mathlib.Core.List.{List}
use lib.ListN.{length}
use Rattle.model.specs.declared.Triple.{Triple}
use Rattle.model.specs.declared.Vocabulary.{Vocabulary}
use Rattle.model.specs.Codes.{absent}
use Rattle.model.specs.Triples.{same, without, is_data}
use Rattle.model.specs.Partition.{label}
use Rattle.model.specs.declared.Side.{Side}
use Rattle.model.specs.Cliques.{Graph, end, Node, Has}
use Rattle.model.specs.Classes.{DataNode, map_of}
use Rattle.theory.specs.Tables.{AllBelow, In, HasData, Weak, by_side, by_none, itself, turned, chained}
use Rattle.theory.proofs.Tests.{bool_cases}
use Rattle.theory.proofs.Order.{same-eq, same_refl, mem-without, without-mem}
use Rattle.theory.proofs.Covered.{Plain}
use Rattle.theory.proofs.Weak.{node-map, data_map, has_data, has-node, has-map, Reps}
use Rattle.theory.proofs.Mapped.{map-reps, map-absent, length_map_of}
use Rattle.theory.proofs.Summaries.{map_unique}

module _ (v : Vocabulary) (roster : List ℕ) (H : List Triple) (t : Triple) (below : AllBelow (length roster) H) (room : length roster ≤ absent) where
  abbrev G : Graph
  G = In H

  abbrev K : Graph
  K = In (without t H)

  -- The other held triples keep the end of t at a side: it is still a node; and of a data triple an unmarked end still has a data triple and is
  -- still equivalent to the nodes that are left at that side of the property.
  pub record Other (e : Side) : Type 0 where
    pub node : Node K (end e t)
    pub still : is_data v t ≡ true → Plain roster (end e t) → HasData v K (end e t)
    pub side : is_data v t ≡ true → Plain roster (end e t) → (m : ℕ) → Has v roster K e m t.property → Weak v roster K (end e t) m

  -- where another held triple has the end at the same side of the same property
  pub other-there : (e : Side) → Node K (end e t) → (is_data v t ≡ true → Plain roster (end e t) → Has v roster K e (end e t) t.property) → Other e
  other-there e n h = record { node = n; still = λ d a. has_data v roster (h d a); side = λ d a m y. by_side (h d a) y }

  module _ (others : (e : Side) → Other e) where
    kept : (u : Triple) → K u → G u
    kept u m = without-mem t u H m

    -- a held triple is another one, or t
    split : (u : Triple) → G u → (u ≡ t) ⊎ K u
    split u m =
        ⊎_elim (λ e. inl (sym (same-eq t u e)))
        (λ e. inr (mem-without t u H m (λ q. true≢false (sym (same_refl t u (sym q)) ∙ e)))) (bool_cases (same t u))

    node-down : {n : ℕ} → Node G n → Node K n
    node-down {n} x = ⊎_elim
        (λ (q : x.by ≡ t). subst (Node K) (ap (end x.side) (sym q) ∙ x.is_end) (others x.side).node)
        (λ m. record { by = x.by; held = m; side = x.side; is_end = x.is_end }) (split x.by x.held)

    data_node_down : {n : ℕ} → DataNode v roster G n → DataNode v roster K n
    data_node_down x = record { node = node-down x.node; plain = x.plain }

    data_node_up : {n : ℕ} → DataNode v roster K n → DataNode v roster G n
    data_node_up x = record { node = node-map kept x.node; plain = x.plain }

    data_down : {n : ℕ} → Plain roster n → HasData v G n → HasData v K n
    data_down {n} a h = ⊎_elim
        (λ (q : h.by ≡ t).
        let e : end h.side t ≡ n = ap (end h.side) (sym q) ∙ h.is_end in
        subst (HasData v K) e ((others h.side).still (subst (λ (z : Triple). is_data v z ≡ true) q h.data_triple) (subst (Plain roster) (sym e) a)))
        (λ m. record { by = h.by; held = m; data_triple = h.data_triple; side = h.side; is_end = h.is_end }) (split h.by h.held)

    -- a node at a side of a property is still there, or is t's end
    has_cases : {e : Side} {n p : ℕ} → Has v roster G e n p → Has v roster K e n p ⊎ ((end e t ≡ n) × (t.property ≡ p) × (is_data v t ≡ true))
    has_cases {e} {n} {p} x = ⊎_elim
        (λ (q : x.by ≡ t). inr (ap (end e) (sym q) ∙ x.is_end, ap (λ (z : Triple). z.property) (sym q) ∙ x.property, subst (λ (z : Triple). is_data v z ≡ true) q x.data_triple))
        (λ m. inl (record { by = x.by; held = m; data_triple = x.data_triple; is_end = x.is_end; plain = x.plain; property = x.property })) (split x.by x.held)

    side-down : {e : Side} {n m p : ℕ} → Has v roster G e n p → Has v roster G e m p → Weak v roster K n m
    side-down {e} {n} {m} {p} x y = go (has_cases x) (has_cases y)
      where
        lost : (k j : ℕ) → (end e t ≡ k) → (t.property ≡ p) → (is_data v t ≡ true) → Plain roster k → Has v roster K e j p → Weak v roster K k j
        lost k j q r d a h = subst (λ (z : ℕ). Weak v roster K z j) q ((others e).side d (subst (Plain roster) (sym q) a) j (subst (Has v roster K e j) (sym r) h))

        go : Has v roster K e n p ⊎ ((end e t ≡ n) × (t.property ≡ p) × (is_data v t ≡ true)) → Has v roster K e m p ⊎ ((end e t ≡ m) × (t.property ≡ p) × (is_data v t ≡ true)) → Weak v roster K n m
        go (inl h) (inl k) = by_side h k
        go (inl h) (inr w) = turned (lost m n w.0 w.1 w.2 y.plain h)
        go (inr w) (inl k) = lost n m w.0 w.1 w.2 x.plain k
        go (inr w) (inr z) = subst (Weak v roster K n) (sym w.0 ∙ z.0) (itself (data_node_down (has-node v roster x)))

    weak_down : {n m : ℕ} → Weak v roster G n m → Weak v roster K n m
    weak_down (by_side x y) = side-down x y
    weak_down (by_none x y f g) = by_none (data_node_down x) (data_node_down y) (λ h. f (data_map v kept h)) (λ h. g (data_map v kept h))
    weak_down (itself x) = itself (data_node_down x)
    weak_down (turned w) = turned (weak_down w)
    weak_down (chained u w) = chained (weak_down u) (weak_down w)

    weak_up : {n m : ℕ} → Weak v roster K n m → Weak v roster G n m
    weak_up (by_side x y) = by_side (has-map v roster kept x) (has-map v roster kept y)
    weak_up (by_none x y f g) = by_none (data_node_up x) (data_node_up y) (λ h. f (data_down x.plain h)) (λ h. g (data_down y.plain h))
    weak_up (itself x) = itself (data_node_up x)
    weak_up (turned w) = turned (weak_up w)
    weak_up (chained u w) = chained (weak_up u) (weak_up w)

    reps-down : Reps v roster K (label (map_of v roster H))
    reps-down =
        let R = map-reps v roster H below room in
        record {
          of_marked = λ n x a. R.of_marked n (node-map kept x) a;
          of_plain = λ n x. weak_down (R.of_plain n (data_node_up x));
          least = λ n m x w. R.least n m (data_node_up x) (weak_up w);
        }

    pub removed-map : map_of v roster H ≡ map_of v roster (without t H)
    removed-map =
        map_unique v roster (without t H) (λ u m. below u (kept u m)) room (map_of v roster H) (length_map_of v roster H) reps-down
        (λ c f. map-absent v roster H below room c (λ x. f (node-down x)))
