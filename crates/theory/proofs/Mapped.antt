-- The computed cliques and the computed map are those that 01 words.
-- Assumes nothing.
use Prim.Native.Nat.{ℕ, ◌≤◌, ◌<◌}
use mathlib.Core.Path.{◌≡◌, refl, sym, subst, ◌∙◌, ap}
use mathlib.Core.Logic.{◌⊎◌, inl, inr, ⊎_elim}
use mathlib.Core.Bool.{Bool, true, false, cond, not, ◌&&◌, ◌||◌, true≢false}
use mathlib.Core.List.Memᴰ.{cases_cons as mem-cases}
use mathlib.Core.List.Memᴰ.{head as here}
use mathlib.Core.List.Memᴰ.{not-nil as no-mem}
use mathlib.Core.List.Memᴰ.{tail as there}
use mathlib.Core.List.{List, [], ◌∷◌, Memᴰ as Mem}
use native.Mathlib.Omega.{arith}
use lib.Dec.{eqb}
use lib.ListN.{length}
use borrow.Author.Tests.{eqb-true, eqb-false, eq-eqb, ne_eqb, not-true}
use Rattle.model.specs.declared.Triple.{Triple}
use Rattle.model.specs.declared.Vocabulary.{Vocabulary}
use Rattle.model.specs.Codes.{absent}
use Rattle.model.specs.Lists.{any, when, tabulate}
use Rattle.model.specs.Triples.{is_data}
use Rattle.model.specs.Roster.{unmarked, is_node}
use Rattle.model.specs.Partition.{label, Pair, pairs}
use Rattle.model.specs.declared.Side.{Side}
use Rattle.model.specs.declared.Side.TheVariants.{Source as source, Target as target}
use Rattle.model.specs.Cliques.{Graph, end, Node, Has, Clique, shared, linked, links, shares, has_clique, cliques}
use Rattle.model.specs.Classes.{DataNode, Placed, together, alike, RepresentsBy, clique_of, placed_at, placed, map_by, map_of, strong_map_of}
use Rattle.theory.proofs.Tests.{cond_cases, bool_cases, or_true, or_left, or_right, and_true, and_both}
use Rattle.theory.proofs.Lists.{any_found, any-holds, collect-mem, mem-collect, when-mem, mem-when, mem-tabulate, length-tabulate}
use Rattle.theory.specs.Tables.{AllBelow, In, HasData, Weak, by_side, by_none, itself, turned, chained}
use Rattle.theory.proofs.Covered.{Plain}
use Rattle.theory.proofs.Partition.{Labels, Joining, Joins, Merged, merged-all, pairs-mem, mem-pairs, start-labels, length_merged}
use Rattle.theory.proofs.Strong.{Partner, Strong, strong-self, strong-flip, strong-through}
use Rattle.theory.proofs.Weak.{has_data, data_has, has-node, weak_nodes, clique_sym, clique-self, clique_weak, Reps}

-- ── nodes ──
pub node_test : (ts : List Triple) (c : ℕ) → Node (In ts) c → is_node ts c ≡ true
unfolding is_node
node_test ts c x = any-holds (λ t. eqb c t.subject || eqb c t.object) ts x.by x.held (at x.side x.is_end)
  where
    at : (e : Side) → end e x.by ≡ c → (eqb c x.by.subject || eqb c x.by.object) ≡ true
    at source q = or_left (eqb c x.by.subject) _ (eq-eqb c x.by.subject (sym q))
    at target q = or_right (eqb c x.by.subject) _ (eq-eqb c x.by.object (sym q))

pub test_node : (ts : List Triple) (c : ℕ) → is_node ts c ≡ true → Node (In ts) c
unfolding is_node
test_node ts c h =
    let y = any_found (λ t. eqb c t.subject || eqb c t.object) ts h in
    ⊎_elim (λ e. record { by = y.0; held = y.1; side = source; is_end = sym (eqb-true c y.0.subject e) })
    (λ e. record { by = y.0; held = y.1; side = target; is_end = sym (eqb-true c y.0.object e) }) (or_true (eqb c y.0.subject) _ y.2)

pub node_or : (ts : List Triple) (c : ℕ) → Node (In ts) c ⊎ (Node (In ts) c → ⊥)
node_or ts c = ⊎_elim (λ e. inl (test_node ts c e)) (λ e. inr (λ x. true≢false (sym (node_test ts c x) ∙ e))) (bool_cases (is_node ts c))

pub node-below : (n : ℕ) (ts : List Triple) → AllBelow n ts → (c : ℕ) → Node (In ts) c → c < n
node-below n ts b c x = at x.side x.is_end
  where
    at : (e : Side) → end e x.by ≡ c → c < n
    at source q = omega (arith, (b x.by x.held).subject)
    at target q = omega (arith, (b x.by x.held).object)

-- ── data triples at a code ──
data_at : Vocabulary → ℕ → Triple → Bool
data_at v c t = is_data v t && (eqb c t.subject || eqb c t.object)

pub data_or : (v : Vocabulary) (ts : List Triple) (c : ℕ) → HasData v (In ts) c ⊎ (HasData v (In ts) c → ⊥)
unfolding data_at
data_or v ts c = ⊎_elim (λ e. inl (found e)) (λ e. inr (λ x. true≢false (sym (holds x) ∙ e))) (bool_cases (any (data_at v c) ts))
  where
    found : any (data_at v c) ts ≡ true → HasData v (In ts) c
    found h =
        let y = any_found (data_at v c) ts h in
        let z = and_true (is_data v y.0) _ y.2 in
        ⊎_elim (λ e. record { by = y.0; held = y.1; data_triple = z.0; side = source; is_end = sym (eqb-true c y.0.subject e) })
        (λ e. record { by = y.0; held = y.1; data_triple = z.0; side = target; is_end = sym (eqb-true c y.0.object e) }) (or_true (eqb c y.0.subject) _ z.1)

    holds : HasData v (In ts) c → any (data_at v c) ts ≡ true
    holds x = any-holds (data_at v c) ts x.by x.held (and_both (is_data v x.by) _ x.data_triple (at x.side x.is_end))
      where
        at : (e : Side) → end e x.by ≡ c → (eqb c x.by.subject || eqb c x.by.object) ≡ true
        at source q = or_left (eqb c x.by.subject) _ (eq-eqb c x.by.subject (sym q))
        at target q = or_right (eqb c x.by.subject) _ (eq-eqb c x.by.object (sym q))

module _ (v : Vocabulary) (roster : List ℕ) (ts : List Triple) (below : AllBelow (length roster) ts) (room : length roster ≤ absent) where
  abbrev G : Graph
  G = In ts

  -- ── cliques ──
  -- a code that is a property with a clique at this side
  pub record Cliqued (e : Side) (p : ℕ) : Type 0 where
    pub node : ℕ
    pub has : Has v roster G e node p

  links-has : (e : Side) (t : Triple) → Mem t ts → links v roster e t ≡ true → Has v roster G e (end e t) t.property
  unfolding links
  links-has e t m h = let x = and_true (is_data v t) _ h in record { by = t; held = m; data_triple = x.0; is_end = refl; plain = x.1; property = refl }

  has-links : (e : Side) {n p : ℕ} (h : Has v roster G e n p) → links v roster e h.by ≡ true
  unfolding links
  has-links e h = and_both (is_data v h.by) _ h.data_triple (subst (λ (z : ℕ). unmarked roster z ≡ true) (sym h.is_end) h.plain)

  test_clique : (e : Side) (p : ℕ) → has_clique v roster e ts p ≡ true → Cliqued e p
  unfolding has_clique
  test_clique e p h =
      let y = any_found (λ t. eqb p t.property && links v roster e t) ts h in
      let z = and_true (eqb p y.0.property) _ y.2 in
      record { node = end e y.0; has = subst (Has v roster G e (end e y.0)) (sym (eqb-true p y.0.property z.0)) (links-has e y.0 y.1 z.1) }

  clique_test : (e : Side) (p : ℕ) → Cliqued e p → has_clique v roster e ts p ≡ true
  unfolding has_clique
  clique_test e p c =
      any-holds (λ t. eqb p t.property && links v roster e t) ts c.has.by c.has.held
      (and_both (eqb p c.has.by.property) _ (eq-eqb p c.has.by.property (sym c.has.property)) (has-links e c.has))

  pub cliqued_below : (e : Side) (p : ℕ) → Cliqued e p → p < length roster
  cliqued_below e p c = omega (arith, (below c.has.by c.has.held).property, c.has.property)

  clique_joining : (e : Side) → Joining (Cliqued e) (Clique v roster G e)
  clique_joining e =
      record { small = λ p c. omega (arith, cliqued_below e p c); flip = λ p q k. clique_sym v roster k; through = λ p q r k l. linked k l }

  clique-start : (e : Side) → Labels (Cliqued e) (Clique v roster G e) (tabulate (λ p. cond (has_clique v roster e ts p) p absent) 0 (length roster))
  clique-start e =
      start-labels (Cliqued e) (Clique v roster G e) (has_clique v roster e ts) (length roster)
      (λ p c. (cliqued_below e p c, clique_test e p c, clique-self v roster c.has)) (test_clique e)

  shares-joins : (e : Side) (p : Pair) → Mem p (pairs (shares v roster e) (λ (t : Triple). t.property) ts) → Joins (Cliqued e) (Clique v roster G e) p
  unfolding shares
  shares-joins e p m =
      let w = pairs-mem (shares v roster e) (λ (t : Triple). t.property) ts p m in
      let x = and_true (links v roster e w.first) _ w.passes in
      let y = and_true (links v roster e w.second) _ x.1 in
      let a = links-has e w.first w.first_in x.0 in
      let b = links-has e w.second w.second_in y.0 in
      subst (Joins (Cliqued e) (Clique v roster G e)) (sym w.is_pair)
      (record {
        one = record { node = end e w.first; has = a };
        two = record { node = end e w.second; has = b };
        related = shared (record { node = end e w.first; one = a; two = subst (λ (z : ℕ). Has v roster G e z w.second.property) (sym (eqb-true _ _ y.1)) b });
      })

  clique-merged : (e : Side) → Merged (Cliqued e) (Clique v roster G e) (clique_joining e) (pairs (shares v roster e) (λ (t : Triple). t.property) ts)
      (tabulate (λ p. cond (has_clique v roster e ts p) p absent) 0 (length roster)) (cliques v roster e ts)
  unfolding cliques
  clique-merged e = merged-all (Cliqued e) (Clique v roster G e) (clique_joining e) _ _ (shares-joins e) (clique-start e)

  -- each property has the smallest property of its clique
  pub clique-labels : (e : Side) → Labels (Cliqued e) (Clique v roster G e) (cliques v roster e ts)
  clique-labels e = (clique-merged e).joined.right

  pub clique-agrees : (e : Side) {p q : ℕ} → Clique v roster G e p q → label (cliques v roster e ts) p ≡ label (cliques v roster e ts) q
  unfolding shares
  clique-agrees e (shared s) =
      let C = cliques v roster e ts in
      let a = s.one in
      let b = s.two in
      ap (label C) (sym a.property)
      ∙ (clique-merged e).agree _
      (mem-pairs (shares v roster e) (λ (t : Triple). t.property) ts a.by b.by a.held b.held
      (and_both (links v roster e a.by) _ (has-links e a) (and_both (links v roster e b.by) _ (has-links e b) (eq-eqb _ _ (a.is_end ∙ sym b.is_end)))))
      ∙ ap (label C) b.property
  clique-agrees e (linked k l) = clique-agrees e k ∙ clique-agrees e l

  pub clique_cliqued : (e : Side) {p q : ℕ} → Clique v roster G e p q → Cliqued e q
  clique_cliqued e (shared s) = record { node = s.node; has = s.two }
  clique_cliqued e (linked k l) = clique_cliqued e l

  -- ── the clique of a data node ──
  abbrev Found : Side → ℕ → List Triple → ℕ → Type 0
  Found e c xs l =
      ((l ≡ absent) × ((t : Triple) → Mem t xs → is_data v t ≡ true → end e t ≡ c → ⊥))
      ⊎ ((t : Triple) × Mem t xs × (is_data v t ≡ true) × (end e t ≡ c) × (l ≡ label (cliques v roster e ts) t.property))

  found : (e : Side) (c : ℕ) (xs : List Triple) → Found e c xs (clique_of v roster e (cliques v roster e ts) c xs)
  unfolding clique_of
  found e c [] = inl (refl, λ t m h k. no-mem m)
  found e c (u ∷ xs) =
      cond_cases (Found e c (u ∷ xs)) (is_data v u && eqb (end e u) c)
      (λ h. let x = and_true (is_data v u) _ h in inr (u, here refl, x.0, eqb-true _ _ x.1, refl))
      (λ h. more h (found e c xs))
    where
      more : {l : ℕ} → (is_data v u && eqb (end e u) c) ≡ false → Found e c xs l → Found e c (u ∷ xs) l
      more h (inr (t, m, d, k, q)) = inr (t, there m, d, k, q)
      more h (inl (q, f)) =
          inl (
            q,
            λ t m d k. ⊎_elim
                (λ (z : t ≡ u). true≢false (sym (and_both (is_data v u) _ (subst (λ (y : Triple). is_data v y ≡ true) z d) (eq-eqb _ _ (ap (end e) (sym z) ∙ k))) ∙ h))
                (λ (l : Mem t xs). f t l d k) (mem-cases m),
          )

  abbrev pub clique_at : Side → ℕ → ℕ
  clique_at e c = clique_of v roster e (cliques v roster e ts) c ts

  pub has-label : (e : Side) {c p : ℕ} → Has v roster G e c p → clique_at e c ≡ label (cliques v roster e ts) p
  has-label e {c} {p} h = go (found e c ts)
    where
      go : Found e c ts (clique_at e c) → clique_at e c ≡ label (cliques v roster e ts) p
      go (inl (q, f)) = absurd (f h.by h.held h.data_triple h.is_end)
      go (inr (t, m, d, k, q)) =
          q ∙ clique-agrees e (shared (record { node = c; one = record { by = t; held = m; data_triple = d; is_end = k; plain = h.plain; property = refl }; two = h }))

  pub has_named : (e : Side) {c p : ℕ} → Has v roster G e c p → clique_at e c ≡ absent → ⊥
  has_named e {c} {p} h q =
      omega (arith, (clique_joining e).small (label (cliques v roster e ts) p) ((clique-labels e).active p (record { node = c; has = h })), has-label e h)

  pub none-label : (e : Side) (c : ℕ) → Plain roster c → ((p : ℕ) → Has v roster G e c p → ⊥) → clique_at e c ≡ absent
  none-label e c a f = go (found e c ts)
    where
      go : Found e c ts (clique_at e c) → clique_at e c ≡ absent
      go (inl (q, g)) = q
      go (inr (t, m, d, k, q)) = absurd (f t.property (record { by = t; held = m; data_triple = d; is_end = k; plain = a; property = refl }))

  some-has : (e : Side) (c : ℕ) → Plain roster c → (clique_at e c ≡ absent → ⊥) → (p : ℕ) × Has v roster G e c p
  some-has e c a f = go (found e c ts)
    where
      go : Found e c ts (clique_at e c) → (p : ℕ) × Has v roster G e c p
      go (inl (q, g)) = absurd (f q)
      go (inr (t, m, d, k, q)) = (t.property, record { by = t; held = m; data_triple = d; is_end = k; plain = a; property = refl })

  -- two data nodes with one clique that is not absent
  one_clique : (e : Side) (c d : ℕ) → Plain roster c → Plain roster d → (clique_at e c ≡ absent → ⊥) → clique_at e c ≡ clique_at e d → Weak v roster G c d
  one_clique e c d a b f h =
      let (p, x) = some-has e c a f in
      let (q, y) = some-has e d b (λ z. f (h ∙ z)) in
      let l : label (cliques v roster e ts) p ≡ label (cliques v roster e ts) q = sym (has-label e x) ∙ h ∙ has-label e y in
      clique_weak v roster
      (linked ((clique-labels e).related p (record { node = c; has = x }))
      (subst (λ (z : ℕ). Clique v roster G e z q) (sym l) (clique_sym v roster ((clique-labels e).related q (record { node = d; has = y })))))
      x y

  -- ── the data nodes with their cliques ──
  abbrev ps : List Placed
  ps = placed v roster (cliques v roster source ts) (cliques v roster target ts) ts

  abbrev at : ℕ → Placed
  at c = placed_at v roster (cliques v roster source ts) (cliques v roster target ts) ts c

  placed-has : (c : ℕ) → DataNode v roster G c → Mem (at c) ps
  unfolding placed
  placed-has c x =
      mem-collect (λ c. when (is_node ts c && unmarked roster c) (at c)) (tabulate (λ c. c) 0 (length roster)) c
      (mem-tabulate (λ c. c) 0 (length roster) c (omega arith) (omega (arith, node-below (length roster) ts below c x.node)))
      (mem-when (and_both (is_node ts c) _ (node_test ts c x.node) x.plain))

  record IsPlaced (a : Placed) : Type 0 where
    code : ℕ
    data_node_lem : DataNode v roster G code
    is_at : a ≡ at code

  placed-is : (a : Placed) → Mem a ps → IsPlaced a
  unfolding placed
  placed-is a m =
      let w = collect-mem (λ c. when (is_node ts c && unmarked roster c) (at c)) (tabulate (λ c. c) 0 (length roster)) m in
      let z = when-mem w.2 in
      let y = and_true (is_node ts w.0) _ z.0 in
      record { code = w.0; data_node_lem = record { node = test_node ts w.0 y.0; plain = y.1 }; is_at = z.1 }

  -- the test puts only weakly equivalent nodes together
  together_weak : (c d : ℕ) → DataNode v roster G c → DataNode v roster G d → together (at c) (at d) ≡ true → Weak v roster G c d
  unfolding together
  together_weak c d x y h =
      let fc = clique_at source c in
      let fd = clique_at source d in
      let tc = clique_at target c in
      let td = clique_at target d in
      ⊎_elim
      (λ l. ⊎_elim
      (λ u. let w = and_true (not (eqb fc absent)) _ u in one_clique source c d x.plain y.plain (eqb-false _ _ (not-true _ w.0)) (eqb-true _ _ w.1))
      (λ u. let w = and_true (not (eqb tc absent)) _ u in one_clique target c d x.plain y.plain (eqb-false _ _ (not-true _ w.0)) (eqb-true _ _ w.1))
      (or_true (not (eqb fc absent) && eqb fc fd) (not (eqb tc absent) && eqb tc td) l))
      (λ l.
      let u = and_true (eqb fc absent) _ l in
      let w = and_true (eqb tc absent) _ u.1 in
      let z = and_true (eqb fd absent) _ w.1 in
      by_none x y (bare c x (eqb-true _ _ u.0) (eqb-true _ _ w.0)) (bare d y (eqb-true _ _ z.0) (eqb-true _ _ z.1)))
      (or_true (not (eqb fc absent) && eqb fc fd || not (eqb tc absent) && eqb tc td) _ h)
    where
      bare : (n : ℕ) → DataNode v roster G n → clique_at source n ≡ absent → clique_at target n ≡ absent → HasData v G n → ⊥
      bare n i p q k = side k.side (data_has v roster i.plain k)
        where
          side : (e : Side) → Has v roster G e n k.by.property → ⊥
          side source g = has_named source g p
          side target g = has_named target g q

  -- ── the map by a test that puts only equivalent nodes together ──
  module _ (test : Placed → Placed → Bool) (E : ℕ → ℕ → Type 0) (nodes : (x y : ℕ) → E x y → DataNode v roster G x × DataNode v roster G y)
      (self : (x : ℕ) → DataNode v roster G x → E x x) (flip : (x y : ℕ) → E x y → E y x) (through : (x y z : ℕ) → E x y → E y z → E x z)
      (sound : (c d : ℕ) → DataNode v roster G c → DataNode v roster G d → test (at c) (at d) ≡ true → E c d) where
    -- one code, or equivalent
    abbrev Alike : ℕ → ℕ → Type 0
    Alike x y = (x ≡ y) ⊎ E x y

    alike-flip : (x y : ℕ) → Alike x y → Alike y x
    alike-flip x y (inl e) = inl (sym e)
    alike-flip x y (inr w) = inr (flip x y w)

    alike-through : (x y z : ℕ) → Alike x y → Alike y z → Alike x z
    alike-through x y z (inl e) (inl f) = inl (e ∙ f)
    alike-through x y z (inl e) (inr u) = inr (subst (λ (k : ℕ). E k z) (sym e) u)
    alike-through x y z (inr w) (inl f) = inr (subst (λ (k : ℕ). E x k) f w)
    alike-through x y z (inr w) (inr u) = inr (through x y z w u)

    map_joining : Joining (Node G) Alike
    map_joining = record { small = λ c x. omega (arith, node-below (length roster) ts below c x); flip = alike-flip; through = alike-through }

    map-start : Labels (Node G) Alike (tabulate (λ c. cond (is_node ts c) c absent) 0 (length roster))
    map-start =
        start-labels (Node G) Alike (is_node ts) (length roster) (λ c x. (node-below (length roster) ts below c x, node_test ts c x, inl refl)) (test_node ts)

    map-joins : (p : Pair) → Mem p (pairs test (λ (a : Placed). a.node) ps) → Joins (Node G) Alike p
    map-joins p m =
        let w = pairs-mem test (λ (a : Placed). a.node) ps p m in
        let x = placed-is w.first w.first_in in
        let y = placed-is w.second w.second_in in
        let t : test (at x.code) (at y.code) ≡ true =
        subst (λ (z : Placed). test z (at y.code) ≡ true) x.is_at (subst (λ (z : Placed). test w.first z ≡ true) y.is_at w.passes) in
        let r = sound x.code y.code x.data_node_lem y.data_node_lem t in
        let pair : p ≡ record { one = x.code; two = y.code } = w.is_pair ∙ (λ i. record { one = (x.is_at i).node; two = (y.is_at i).node }) in
        subst (Joins (Node G) Alike) (sym pair) (record { one = x.data_node_lem.node; two = y.data_node_lem.node; related = inr r })

    map-merged : Merged (Node G) Alike map_joining (pairs test (λ (a : Placed). a.node) ps) (tabulate (λ c. cond (is_node ts c) c absent) 0 (length roster)) (map_by v roster test ts)
    unfolding map_by
    map-merged = merged-all (Node G) Alike map_joining _ _ map-joins map-start

    labels-by : Labels (Node G) Alike (map_by v roster test ts)
    labels-by = map-merged.joined.right

    agrees-by : (c d : ℕ) → DataNode v roster G c → DataNode v roster G d → test (at c) (at d) ≡ true → label (map_by v roster test ts) c ≡ label (map_by v roster test ts) d
    agrees-by c d x y h = map-merged.agree _ (mem-pairs test (λ (a : Placed). a.node) ps (at c) (at d) (placed-has c x) (placed-has d y) h)

    -- where what is equivalent has one label, the labels are the representatives
    reps-by : ((x y : ℕ) → E x y → label (map_by v roster test ts) x ≡ label (map_by v roster test ts) y) → RepresentsBy v roster E G (label (map_by v roster test ts))
    reps-by agrees =
        record {
          of_marked = λ c x t. ⊎_elim (λ (e : c ≡ label (map_by v roster test ts) c). sym e)
              (λ (w : E c (label (map_by v roster test ts) c)). absurd (true≢false (sym (nodes _ _ w).0.plain ∙ t))) (labels-by.related c x);
          of_plain = λ c x. ⊎_elim (λ (e : c ≡ label (map_by v roster test ts) c). subst (E c) e (self c x)) (λ (w : E c (label (map_by v roster test ts) c)). w) (labels-by.related c x.node);
          least = λ c d x w. subst (λ (z : ℕ). z ≤ d) (sym (agrees c d w)) (labels-by.low d (nodes _ _ w).1.node);
        }

  -- ── the map by weak equivalence ──
  pub map-labels : Labels (Node G) (λ x y. (x ≡ y) ⊎ Weak v roster G x y) (map_of v roster ts)
  unfolding map_of
  map-labels = labels-by together (Weak v roster G) (λ x y w. weak_nodes v roster w) (λ x d. itself d) (λ x y w. turned w) (λ x y z u w. chained u w) together_weak

  pair-agrees : (c d : ℕ) → DataNode v roster G c → DataNode v roster G d → together (at c) (at d) ≡ true → label (map_of v roster ts) c ≡ label (map_of v roster ts) d
  unfolding map_of
  pair-agrees = agrees-by together (Weak v roster G) (λ x y w. weak_nodes v roster w) (λ x d. itself d) (λ x y w. turned w) (λ x y z u w. chained u w) together_weak

  -- the test of two nodes at the same side of one property, and of two with no data triple
  side-together : (e : Side) {c d p : ℕ} → Has v roster G e c p → Has v roster G e d p → together (at c) (at d) ≡ true
  unfolding together
  side-together e {c} {d} x y = go e (ap not (ne_eqb _ _ (has_named e x))) (eq-eqb _ _ (has-label e x ∙ sym (has-label e y)))
    where
      go : (s : Side) → not (eqb (clique_at s c) absent) ≡ true → eqb (clique_at s c) (clique_at s d) ≡ true → together (at c) (at d) ≡ true
      go source p q =
          or_left (not (eqb (clique_at source c) absent) && eqb (clique_at source c) (clique_at source d) || not (eqb (clique_at target c) absent) && eqb (clique_at target c) (clique_at target d)) _
          (or_left (not (eqb (clique_at source c) absent) && eqb (clique_at source c) (clique_at source d)) _ (and_both (not (eqb (clique_at source c) absent)) _ p q))
      go target p q =
          or_left (not (eqb (clique_at source c) absent) && eqb (clique_at source c) (clique_at source d) || not (eqb (clique_at target c) absent) && eqb (clique_at target c) (clique_at target d)) _
          (or_right (not (eqb (clique_at source c) absent) && eqb (clique_at source c) (clique_at source d)) _ (and_both (not (eqb (clique_at target c) absent)) _ p q))

  none-together : (c d : ℕ) → DataNode v roster G c → DataNode v roster G d → (HasData v G c → ⊥) → (HasData v G d → ⊥) → together (at c) (at d) ≡ true
  unfolding together
  none-together c d x y f g =
      or_right (not (eqb (clique_at source c) absent) && eqb (clique_at source c) (clique_at source d) || not (eqb (clique_at target c) absent) && eqb (clique_at target c) (clique_at target d)) _
      (and_both (eqb (clique_at source c) absent) _ (bare source c x f)
      (and_both (eqb (clique_at target c) absent) _ (bare target c x f)
      (and_both (eqb (clique_at source d) absent) _ (bare source d y g) (bare target d y g))))
    where
      bare : (e : Side) (n : ℕ) → DataNode v roster G n → (HasData v G n → ⊥) → eqb (clique_at e n) absent ≡ true
      bare e n z h = eq-eqb _ _ (none-label e n z.plain (λ p k. h (has_data v roster k)))

  -- what is weakly equivalent has one label
  pub map-agrees : {x y : ℕ} → Weak v roster G x y → label (map_of v roster ts) x ≡ label (map_of v roster ts) y
  map-agrees (by_side {e} {n = c} {m = d} x y) = pair-agrees c d (has-node v roster x) (has-node v roster y) (side-together e x y)
  map-agrees (by_none {n = c} {m = d} x y f g) = pair-agrees c d x y (none-together c d x y f g)
  map-agrees (itself x) = refl
  map-agrees (turned w) = sym (map-agrees w)
  map-agrees (chained u w) = map-agrees u ∙ map-agrees w

  -- the computed map gives each node its representative
  pub map-reps : Reps v roster G (label (map_of v roster ts))
  unfolding map_of
  map-reps = reps-by together (Weak v roster G) (λ x y w. weak_nodes v roster w) (λ x d. itself d) (λ x y w. turned w) (λ x y z u w. chained u w) together_weak (λ x y w. map-agrees w)

  -- a code that is no node is absent
  pub map-absent : (c : ℕ) → (Node G c → ⊥) → label (map_of v roster ts) c ≡ absent
  map-absent c f = map-labels.silent c f

  pub map-node : (c : ℕ) → Node G c → Node G (label (map_of v roster ts) c)
  map-node c x = map-labels.active c x

  -- ── the map by strong equivalence ──
  alike-side : (e : Side) (c d : ℕ) → Plain roster c → Plain roster d → clique_at e c ≡ clique_at e d → (p : ℕ) → Has v roster G e c p → Partner v roster G e p d
  alike-side e c d a b h p x =
      let (q, y) = some-has e d b (λ z. has_named e x (h ∙ z)) in
      let l : label (cliques v roster e ts) p ≡ label (cliques v roster e ts) q = sym (has-label e x) ∙ h ∙ has-label e y in
      record {
        property = q;
        has = y;
        clique = linked ((clique-labels e).related p (record { node = c; has = x }))
            (subst (λ (z : ℕ). Clique v roster G e z q) (sym l) (clique_sym v roster ((clique-labels e).related q (record { node = d; has = y }))));
      }

  -- the same cliques at both sides, none counting as a value
  pub cliques-strong : (c d : ℕ) → DataNode v roster G c → DataNode v roster G d → ((e : Side) → clique_at e c ≡ clique_at e d) → Strong v roster G c d
  cliques-strong c d x y q =
      record {
        one = x;
        two = y;
        alike = λ e. record { forth = alike-side e c d x.plain y.plain (q e); back = alike-side e d c y.plain x.plain (sym (q e)) };
      }

  alike-strong : (c d : ℕ) → DataNode v roster G c → DataNode v roster G d → alike (at c) (at d) ≡ true → Strong v roster G c d
  unfolding alike
  alike-strong c d x y h = cliques-strong c d x y (λ e. side e (and_true (eqb (clique_at source c) (clique_at source d)) _ h))
    where
      side : (e : Side) → (eqb (clique_at source c) (clique_at source d) ≡ true) × (eqb (clique_at target c) (clique_at target d) ≡ true) → clique_at e c ≡ clique_at e d
      side source w = eqb-true _ _ w.0
      side target w = eqb-true _ _ w.1

  -- whether a node has a property at a side
  pub has_or : (e : Side) (c : ℕ) → Plain roster c → ((p : ℕ) × Has v roster G e c p) ⊎ ((p : ℕ) → Has v roster G e c p → ⊥)
  has_or e c a = ⊎_elim (λ h. inr (λ p x. has_named e x (eqb-true _ _ h))) (λ h. inl (some-has e c a (eqb-false _ _ h))) (bool_cases (eqb (clique_at e c) absent))

  pub strong-cliques : {c d : ℕ} → Strong v roster G c d → (e : Side) → clique_at e c ≡ clique_at e d
  strong-cliques {c} {d} s e = go (has_or e c s.one.plain)
    where
      go : ((p : ℕ) × Has v roster G e c p) ⊎ ((p : ℕ) → Has v roster G e c p → ⊥) → clique_at e c ≡ clique_at e d
      go (inl (p, x)) = let y = (s.alike e).forth p x in has-label e x ∙ clique-agrees e y.clique ∙ sym (has-label e y.has)
      go (inr f) = none-label e c s.one.plain f ∙ sym (none-label e d s.two.plain (λ p x. let y = (s.alike e).back p x in f y.property y.has))

  strong-alike : {c d : ℕ} → Strong v roster G c d → alike (at c) (at d) ≡ true
  unfolding alike
  strong-alike {c} {d} s = and_both (eqb (clique_at source c) (clique_at source d)) _ (eq-eqb _ _ (strong-cliques s source)) (eq-eqb _ _ (strong-cliques s target))

  -- a node's clique is a property with a clique, or absent
  pub clique_or : (e : Side) (c : ℕ) → Plain roster c → (clique_at e c ≡ absent) ⊎ Cliqued e (clique_at e c)
  clique_or e c a =
      ⊎_elim (λ (x : (p : ℕ) × Has v roster G e c p). inr (subst (Cliqued e) (sym (has-label e x.1)) ((clique-labels e).active x.0 (record { node = c; has = x.1 }))))
      (λ f. inl (none-label e c a f)) (has_or e c a)

  -- what is strongly equivalent has one label
  pub strong-agrees : {x y : ℕ} → Strong v roster G x y → label (strong_map_of v roster ts) x ≡ label (strong_map_of v roster ts) y
  unfolding strong_map_of
  strong-agrees {x} {y} s =
      agrees-by alike (Strong v roster G) (λ x y w. (w.one, w.two)) (λ x d. strong-self v roster d) (λ x y w. strong-flip v roster w)
      (λ x y z u w. strong-through v roster u w) alike-strong x y s.one s.two (strong-alike s)

  pub strong-reps : RepresentsBy v roster (Strong v roster G) G (label (strong_map_of v roster ts))
  unfolding strong_map_of
  strong-reps = reps-by alike (Strong v roster G) (λ x y w. (w.one, w.two)) (λ x d. strong-self v roster d) (λ x y w. strong-flip v roster w)
      (λ x y z u w. strong-through v roster u w) alike-strong (λ x y w. strong-agrees w)

  pub strong-absent : (c : ℕ) → (Node G c → ⊥) → label (strong_map_of v roster ts) c ≡ absent
  unfolding strong_map_of
  strong-absent c f = (labels-by alike (Strong v roster G) (λ x y w. (w.one, w.two)) (λ x d. strong-self v roster d)
      (λ x y w. strong-flip v roster w) (λ x y z u w. strong-through v roster u w) alike-strong).silent c f

pub length-cliques : (v : Vocabulary) (roster : List ℕ) (e : Side) (ts : List Triple) → length (cliques v roster e ts) ≡ length roster
unfolding cliques
length-cliques v roster e ts = length_merged _ _ ∙ length-tabulate _ 0 (length roster)

pub length-strong-map : (v : Vocabulary) (roster : List ℕ) (ts : List Triple) → length (strong_map_of v roster ts) ≡ length roster
unfolding map_by strong_map_of
length-strong-map v roster ts = length_merged _ _ ∙ length-tabulate _ 0 (length roster)

pub length_map_of : (v : Vocabulary) (roster : List ℕ) (ts : List Triple) → length (map_of v roster ts) ≡ length roster
unfolding map_by map_of
length_map_of v roster ts = length_merged _ _ ∙ length-tabulate _ 0 (length roster)
