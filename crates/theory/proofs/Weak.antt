-- Weak equivalence by its generators: two data nodes at the same side of one data property, or both without data triples.
-- It is the weak equivalence that 01 words through cliques.
-- Assumes nothing.
use Prim.Native.Nat.{ℕ, ◌≤◌}
use mathlib.Core.Path.{◌≡◌, refl}
use mathlib.Core.Logic.{◌⊎◌, inl, inr}
use mathlib.Core.Bool.{true}
use mathlib.Core.List.{List}
use borrow.Author.Tests.{leb-true, le-leb}
use Rattle.model.specs.declared.Triple.{Triple}
use Rattle.model.specs.declared.Vocabulary.{Vocabulary}
use Rattle.model.specs.Codes.{kind}
use Rattle.model.specs.Triples.{is_data}
use Rattle.model.specs.declared.Side.{Side}
use Rattle.model.specs.Cliques.{Graph, Node, Has, Share, Clique, shared, linked}
use Rattle.model.specs.Classes.{DataNode, Weakly, same_clique, no_clique, chain, RepresentsBy}
use Rattle.theory.specs.Tables.{HasData, Weak, by_side, by_none, itself, turned, chained}
use Rattle.theory.proofs.Covered.{Plain}

pub node-map : {G H : Graph} → ((t : Triple) → G t → H t) → {n : ℕ} → Node G n → Node H n
node-map f x = record { by = x.by; held = f x.by x.held; side = x.side; is_end = x.is_end }

module _ (v : Vocabulary) where
  pub data_kind : (t : Triple) → is_data v t ≡ true → 5 ≤ kind v t.property
  unfolding is_data
  data_kind t h = leb-true 5 (kind v t.property) h

  pub kind_data : (t : Triple) → 5 ≤ kind v t.property → is_data v t ≡ true
  unfolding is_data
  kind_data t h = le-leb 5 (kind v t.property) h

  pub data_map : {G H : Graph} → ((t : Triple) → G t → H t) → {n : ℕ} → HasData v G n → HasData v H n
  data_map f x = record { by = x.by; held = f x.by x.held; data_triple = x.data_triple; side = x.side; is_end = x.is_end }

  module _ (roster : List ℕ) where
    pub has_data : {G : Graph} {e : Side} {n p : ℕ} → Has v roster G e n p → HasData v G n
    has_data {e = e} h = record { by = h.by; held = h.held; data_triple = h.data_triple; side = e; is_end = h.is_end }

    pub data_has : {G : Graph} {n : ℕ} → Plain roster n → (h : HasData v G n) → Has v roster G h.side n h.by.property
    data_has a h = record { by = h.by; held = h.held; data_triple = h.data_triple; is_end = h.is_end; plain = a; property = refl }

    pub has-node : {G : Graph} {e : Side} {n p : ℕ} → Has v roster G e n p → DataNode v roster G n
    has-node {e = e} h = record { node = record { by = h.by; held = h.held; side = e; is_end = h.is_end }; plain = h.plain }

    pub has-map : {G H : Graph} → ((t : Triple) → G t → H t) → {e : Side} {n p : ℕ} → Has v roster G e n p → Has v roster H e n p
    has-map f h = record { by = h.by; held = f h.by h.held; data_triple = h.data_triple; is_end = h.is_end; plain = h.plain; property = h.property }

    pub data_node_map : {G H : Graph} → ((t : Triple) → G t → H t) → {n : ℕ} → DataNode v roster G n → DataNode v roster H n
    data_node_map f x = record { node = node-map f x.node; plain = x.plain }

    -- ── it relates data nodes, and those with data triples to such ──
    pub weak_nodes : {G : Graph} {n m : ℕ} → Weak v roster G n m → DataNode v roster G n × DataNode v roster G m
    weak_nodes (by_side x y) = (has-node x, has-node y)
    weak_nodes (by_none x y f g) = (x, y)
    weak_nodes (itself x) = (x, x)
    weak_nodes (turned w) = ((weak_nodes w).1, (weak_nodes w).0)
    weak_nodes (chained u w) = ((weak_nodes u).0, (weak_nodes w).1)

    pub weak_data : {G : Graph} {n m : ℕ} → Weak v roster G n m → (HasData v G n → HasData v G m) × (HasData v G m → HasData v G n)
    weak_data (by_side x y) = (λ h. has_data y, λ h. has_data x)
    weak_data (by_none x y f g) = (λ h. absurd (f h), λ h. absurd (g h))
    weak_data (itself x) = (λ h. h, λ h. h)
    weak_data (turned w) = ((weak_data w).1, (weak_data w).0)
    weak_data (chained u w) = (λ h. (weak_data w).0 ((weak_data u).0 h), λ h. (weak_data u).1 ((weak_data w).1 h))

    -- a larger graph that gives no data triple to a node without one keeps what is equivalent
    pub weak_map : {G H : Graph} → ((t : Triple) → G t → H t) → ((n : ℕ) → Node G n → HasData v H n → HasData v G n) → {n m : ℕ} → Weak v roster G n m → Weak v roster H n m
    weak_map f d (by_side x y) = by_side (has-map f x) (has-map f y)
    weak_map f d (by_none {n} {m} x y p q) = by_none (data_node_map f x) (data_node_map f y) (λ h. p (d n x.node h)) (λ h. q (d m y.node h))
    weak_map f d (itself x) = itself (data_node_map f x)
    weak_map f d (turned w) = turned (weak_map f d w)
    weak_map f d (chained u w) = chained (weak_map f d u) (weak_map f d w)

    -- ── it is 01's ──
    share_sym : {G : Graph} {e : Side} {p q : ℕ} → Share v roster G e p q → Share v roster G e q p
    share_sym s = record { node = s.node; one = s.two; two = s.one }

    pub clique_sym : {G : Graph} {e : Side} {p q : ℕ} → Clique v roster G e p q → Clique v roster G e q p
    clique_sym (shared s) = shared (share_sym s)
    clique_sym (linked x y) = linked (clique_sym y) (clique_sym x)

    clique-end : {G : Graph} {e : Side} {p q : ℕ} → Clique v roster G e p q → (n : ℕ) × Has v roster G e n q
    clique-end (shared s) = (s.node, s.two)
    clique-end (linked x y) = clique-end y

    pub clique-self : {G : Graph} {e : Side} {n p : ℕ} → Has v roster G e n p → Clique v roster G e p p
    clique-self {n = n} h = shared (record { node = n; one = h; two = h })

    pub clique_weak : {G : Graph} {e : Side} {p q n m : ℕ} → Clique v roster G e p q → Has v roster G e n p → Has v roster G e m q → Weak v roster G n m
    clique_weak (shared s) x y = chained (by_side x s.one) (by_side s.two y)
    clique_weak (linked k l) x y = let (c, z) = clique-end k in chained (clique_weak k x z) (clique_weak l z y)

    pub weakly_weak : {G : Graph} {n m : ℕ} → Weakly v roster G n m → Weak v roster G n m
    weakly_weak (same_clique x y k) = clique_weak k x y
    weakly_weak (no_clique x y f g) =
        by_none x y (λ h. f h.side h.by.property (data_has x.plain h)) (λ h. g h.side h.by.property (data_has y.plain h))
    weakly_weak (chain u w) = chained (weakly_weak u) (weakly_weak w)

    weakly_sym : {G : Graph} {n m : ℕ} → Weakly v roster G n m → Weakly v roster G m n
    weakly_sym (same_clique x y k) = same_clique y x (clique_sym k)
    weakly_sym (no_clique x y f g) = no_clique y x g f
    weakly_sym (chain u w) = chain (weakly_sym w) (weakly_sym u)

    -- where it can be told whether a node has a data triple
    pub weak_weakly : {G : Graph} → ((n : ℕ) → HasData v G n ⊎ (HasData v G n → ⊥)) → {n m : ℕ} → Weak v roster G n m → Weakly v roster G n m
    weak_weakly d (by_side x y) = same_clique x y (clique-self x)
    weak_weakly d (by_none x y f g) = no_clique x y (λ e p h. f (has_data h)) (λ e p h. g (has_data h))
    weak_weakly {G} d (itself {n} x) = go (d n)
      where
        go : HasData v G n ⊎ (HasData v G n → ⊥) → Weakly v roster G n n
        go (inl h) = let y = data_has x.plain h in same_clique y y (clique-self y)
        go (inr f) = no_clique x x (λ e p h. f (has_data h)) (λ e p h. f (has_data h))
    weak_weakly d (turned w) = weakly_sym (weak_weakly d w)
    weak_weakly d (chained u w) = chain (weak_weakly d u) (weak_weakly d w)

    abbrev pub Reps : Graph → (ℕ → ℕ) → Type 0
    Reps G f = RepresentsBy v roster (Weak v roster G) G f

    pub reps-represents : {G : Graph} {f : ℕ → ℕ} → ((n : ℕ) → HasData v G n ⊎ (HasData v G n → ⊥)) → Reps G f → RepresentsBy v roster (Weakly v roster G) G f
    reps-represents d R =
        record { of_marked = R.of_marked; of_plain = λ n x. weak_weakly d (R.of_plain n x); least = λ n m x w. R.least n m x (weakly_weak w) }
