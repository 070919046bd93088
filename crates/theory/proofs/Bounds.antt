-- The bound on the triples of a weak summary. All unmarked subjects of a data property have one representative, marked ones represent themselves,
-- and objects likewise: so the images of its triples are cells of a grid of A + 1 subjects and B + 1 objects.
-- Assumes nothing.
use Prim.Native.Nat.{ℕ, ◌≤◌, ◌<◌, ◌+◌, ◌*◌, min}
use mathlib.Core.Path.{◌≡◌, refl, sym, subst, ◌∙◌, ap}
use mathlib.Core.Logic.{⊎_elim}
use mathlib.Core.Bool.{Bool, true, false, cond, not, ◌&&◌, true≢false}
use mathlib.Core.List.Memᴰ.{head as here}
use mathlib.Core.List.Memᴰ.{tail as there}
use mathlib.Core.List.{List, ◌∷◌, map, Memᴰ as Mem}
use native.Mathlib.Omega.{arith}
use native.Mathlib.Nat.{le_refl, le_trans, le-min, min-le_left, min-le_right, mul-le-mul}
use lib.Dec.{eqb, leb}
use lib.ListN.{length, length-map}
use borrow.Author.Tests.{eqb-true, eq-eqb}
use Rattle.model.specs.declared.Triple.{Triple}
use Rattle.model.specs.declared.Vocabulary.{Vocabulary}
use Rattle.model.specs.Codes.{kind, absent}
use Rattle.model.specs.Lists.{any, how_many, collect, filter, total}
use Rattle.model.specs.Triples.{triple, is_data, sorted}
use Rattle.model.specs.Roster.{unmarked}
use Rattle.model.specs.Partition.{label}
use Rattle.model.specs.declared.Side.{Side}
use Rattle.model.specs.declared.Side.TheVariants.{Source as source, Target as target}
use Rattle.model.specs.Cliques.{end, Node, Has}
use Rattle.model.specs.Classes.{map_of}
use Rattle.model.specs.Summary.{moved, summary}
use Rattle.theory.specs.Tables.{AllBelow, In, by_side}
use Rattle.theory.specs.Bounds.{codes_below, with_property, data_property, marked_ends, property_bound, data_bound, slots_bound, present, Untouched, Bounded}
use Rattle.theory.proofs.Tests.{bool_cases, and_true, and_both, not_both, not_true_false}
use Rattle.theory.proofs.Lists.{any_found, any-holds, any_none, many-none, many-some, many_more, mem-collect, mem-filter, mem-map, mem-tabulate}
use Rattle.theory.proofs.Order.{sorted-rising, sorted-mem, mem-sorted, rising-many}
use Rattle.theory.proofs.Covered.{Marked, Plain, by-mark}
use Rattle.theory.proofs.Mapped.{node-below, map-reps, map-agrees}
use Rattle.theory.proofs.Summaries.{condensed-rising, condensed-exact}
use Rattle.theory.proofs.Counting.{total-many, total-le, map_same, many-parts, filter-length, many-turned, many-same, grid_length, one_number}

and_no : (b : Bool) → (b && false) ≡ false
and_no true = refl
and_no false = refl

module _ (v : Vocabulary) (roster : List ℕ) (ts : List Triple) where
  abbrev f : ℕ → ℕ
  f = label (map_of v roster ts)

  abbrev out : List Triple
  out = summary v roster ts

  -- a data property that a triple has
  abbrev data_with : ℕ → Triple → Bool
  data_with p t = data_property v p && with_property p t

  data_of : (t : Triple) (p : ℕ) → t.property ≡ p → is_data v t ≡ data_property v p
  unfolding is_data
  data_of t p e = ap (λ (z : ℕ). leb 5 (kind v z)) e

  from : (t : Triple) → Mem t out → (u : Triple) × Mem u ts × (t ≡ moved f u)
  from t m = (condensed-exact (map_of v roster ts) ts t).0 m

  image : (u : Triple) → Mem u ts → Mem (moved f u) out
  image u m = (condensed-exact (map_of v roster ts) ts (moved f u)).1 (u, m, refl)

  -- no more images pass a test than distinct triples, if the test looks at the property alone
  fewer : (g : Triple → Bool) → ((u : Triple) → g (moved f u) ≡ g u) → how_many g out ≤ how_many g (sorted ts)
  fewer g same =
      let h = rising-many g out (map (moved f) (filter g (sorted ts))) (condensed-rising (map_of v roster ts) ts)
      (λ t m e.
      let u = from t m in
      mem-map (moved f) (filter g (sorted ts)) u.0 (mem-filter g (sorted ts) u.0 (mem-sorted u.0 ts u.1) (sym (same u.0) ∙ ap g (sym u.2) ∙ e)) u.2) in
      omega (arith, h, length-map (filter g (sorted ts)) (moved f), filter-length g (sorted ts))

  module _ (b : AllBelow (length roster) ts) (room : length roster ≤ absent) where
    at-end : (e : Side) (u : Triple) → Mem u ts → Node (In ts) (end e u)
    at-end e u m = record { by = u; held = m; side = e; is_end = refl }

    -- ── one property ──
    module _ (p : ℕ) (d : data_property v p ≡ true) where
      has : (e : Side) (u : Triple) → Mem u ts → u.property ≡ p → Plain roster (end e u) → Has v roster (In ts) e (end e u) p
      has e u m q pl = record { by = u; held = m; data_triple = data_of u p q ∙ d; is_end = refl; plain = pl; property = q }

      abbrev plain_end : Side → Triple → Bool
      plain_end e u = with_property p u && unmarked roster (end e u)

      -- the unmarked ends of a property at a side have one representative
      one : (e : Side) → (r : ℕ) × ((u : Triple) → Mem u ts → u.property ≡ p → Plain roster (end e u) → f (end e u) ≡ r)
      one e =
          ⊎_elim
          (λ (h : any (plain_end e) ts ≡ true).
          let w = any_found (plain_end e) ts h in
          let z = and_true (with_property p w.0) _ w.2 in
          (f (end e w.0), λ u m q pl. map-agrees v roster ts b room (by_side (has e u m q pl) (has e w.0 w.1 (sym (eqb-true _ _ z.0)) z.1))))
          (λ (h : any (plain_end e) ts ≡ false).
          (0, λ u m q pl. absurd (not_both (and_both (with_property p u) _ (eq-eqb _ _ (sym q)) pl) (any_none (plain_end e) ts h u m))))
          (bool_cases (any (plain_end e) ts))

      -- the codes that marked_ends counts
      abbrev marked_end : Side → ℕ → Bool
      marked_end e c = not (unmarked roster c) && any (λ t. with_property p t && eqb c (end e t)) ts

      codes_at : Side → List ℕ
      codes_at e = (one e).0 ∷ filter (marked_end e) (codes_below (length roster))

      codes-length : (e : Side) → length (codes_at e) ≡ marked_ends roster ts e p + 1
      unfolding codes_at marked_ends
      codes-length e = omega (arith, filter-length (marked_end e) (codes_below (length roster)))

      end_in_lem : (e : Side) (u : Triple) → Mem u ts → u.property ≡ p → Mem (f (end e u)) (codes_at e)
      unfolding codes_at
      end_in_lem e u m q =
          let c = end e u in
          ⊎_elim
          (λ (k : Marked roster c).
          there (subst (λ (z : ℕ). Mem z (filter (marked_end e) (codes_below (length roster)))) (sym ((map-reps v roster ts b room).of_marked c (at-end e u m) k))
          (mem-filter (marked_end e) (codes_below (length roster)) c
          (mem-tabulate (λ c. c) 0 (length roster) c (omega arith) (omega (arith, node-below (length roster) ts b c (at-end e u m))))
          (and_both (not (unmarked roster c)) _ (ap not k)
          (any-holds (λ t. with_property p t && eqb c (end e t)) ts u m (and_both (with_property p u) _ (eq-eqb _ _ (sym q)) (eq-eqb c c refl)))))))
          (λ (k : Plain roster c). here ((one e).1 u m q k))
          (by-mark roster c)

      in_grid : how_many (with_property p) out ≤ (marked_ends roster ts source p + 1) * (marked_ends roster ts target p + 1)
      in_grid =
          let cell : ℕ → ℕ → Triple = λ s o. triple s p o in
          let h = rising-many (with_property p) out (collect (λ s. map (cell s) (codes_at target)) (codes_at source)) (condensed-rising (map_of v roster ts) ts)
          (λ t m e.
          let w = from t m in
          let u = w.0 in
          let q : u.property ≡ p = sym (ap (λ (z : Triple). z.property) w.2) ∙ sym (eqb-true _ _ e) in
          mem-collect (λ s. map (cell s) (codes_at target)) (codes_at source) (f u.subject) (end_in_lem source u w.1 q)
          (mem-map (cell (f u.subject)) (codes_at target) (f u.object) (end_in_lem target u w.1 q) (w.2 ∙ (λ i. triple (f u.subject) (q i) (f u.object))))) in
          subst (λ (k : ℕ). how_many (with_property p) out ≤ k) (grid_length cell (codes_at source) (codes_at target) ∙ (λ i. codes-length source i * codes-length target i)) h

      each : how_many (with_property p) out ≤ property_bound roster ts p
      unfolding property_bound
      each = le-min (fewer (with_property p) (λ u. refl)) in_grid

    -- ── all properties ──
    below : (t : Triple) → Mem t out → t.property < length roster
    below t m = let u = from t m in subst (λ (z : Triple). z.property < length roster) (sym u.2) (b u.0 u.1).property

    -- a triple is counted at its own property, if that is a data property
    at_own : (t : Triple) → t.property < length roster → how_many (λ p. data_with p t) (codes_below (length roster)) ≡ cond (is_data v t) 1 0
    at_own t h = at (is_data v t) refl
      where
        own : (p : ℕ) → with_property p t ≡ true → data_property v p ≡ is_data v t
        own p e = sym (data_of t p (sym (eqb-true _ _ e)))

        at : (c : Bool) → is_data v t ≡ c → how_many (λ p. data_with p t) (codes_below (length roster)) ≡ cond c 1 0
        at true e =
            many-same (λ p. data_with p t) (λ p. with_property p t) (codes_below (length roster))
            (λ p. ⊎_elim (λ q. ap (λ (z : Bool). z && with_property p t) (own p q ∙ e)) (λ q. ap (λ (z : Bool). data_property v p && z) q ∙ and_no (data_property v p) ∙ sym q) (bool_cases (with_property p t)))
            ∙ one_number t.property 0 (length roster) (omega arith) (omega (arith, h))
        at false e =
            many-none (λ p. data_with p t) (codes_below (length roster))
            (λ p m. ⊎_elim (λ q. ap (λ (z : Bool). z && with_property p t) (own p q ∙ e)) (λ q. ap (λ (z : Bool). data_property v p && z) q ∙ and_no (data_property v p)) (bool_cases (with_property p t)))

    by_property : (us : List Triple) → ((t : Triple) → Mem t us → t.property < length roster)
        → how_many (is_data v) us ≡ total (map (λ p. how_many (data_with p) us) (codes_below (length roster)))
    by_property us h =
        sym (many-turned data_with (codes_below (length roster)) us
        ∙ ap total (map_same (λ t. how_many (λ p. data_with p t) (codes_below (length roster))) (λ t. cond (is_data v t) 1 0) us (λ t m. at_own t (h t m)))
        ∙ total-many (is_data v) us)

    -- what is shown of each property adds up
    together : how_many (is_data v) out ≤ data_bound v roster ts
    unfolding data_bound
    together =
        subst (λ (k : ℕ). k ≤ total (map (λ p. cond (data_property v p) (property_bound roster ts p) 0) (codes_below (length roster)))) (sym (by_property out below))
        (total-le (λ p. how_many (data_with p) out) (λ p. cond (data_property v p) (property_bound roster ts p) 0) (codes_below (length roster)) (λ p. at p (data_property v p) refl))
      where
        at : (p : ℕ) (c : Bool) → data_property v p ≡ c → how_many (λ t. c && with_property p t) out ≤ cond c (property_bound roster ts p) 0
        at p true e = each p e
        at p false e = omega (arith, many-none (λ (t : Triple). false) out (λ t m. refl))

    whole : length out ≤ slots_bound v roster ts
    unfolding slots_bound
    whole =
        let h = fewer (λ t. not (is_data v t)) (λ u. ap not (data_of (moved f u) u.property refl ∙ sym (data_of u u.property refl))) in
        omega (arith, many-parts (is_data v) out, together, h)

    no_more : slots_bound v roster ts ≤ length (sorted ts)
    unfolding slots_bound data_bound property_bound
    no_more =
        let few = total-le (λ p. cond (data_property v p) (property_bound roster ts p) 0) (λ p. how_many (data_with p) (sorted ts)) (codes_below (length roster)) (λ p. at p (data_property v p)) in
        let all = by_property (sorted ts) (λ t m. (b t (sorted-mem t ts m)).property) in
        omega (arith, few, all, many-parts (is_data v) (sorted ts))
      where
        at : (p : ℕ) (c : Bool) → cond c (property_bound roster ts p) 0 ≤ how_many (λ t. c && with_property p t) (sorted ts)
        at p true = min-le_left (how_many (with_property p) (sorted ts)) ((marked_ends roster ts source p + 1) * (marked_ends roster ts target p + 1))
        at p false = omega arith

    -- ── no data triple with a marked end ──
    module _ (plain : Untouched v roster ts) where
      no-ends : (p : ℕ) → data_property v p ≡ true → (e : Side) → marked_ends roster ts e p ≡ 0
      unfolding marked_ends
      no-ends p d e =
          many-none (marked_end p d e) (codes_below (length roster))
          (λ c m. not_true_false (marked_end p d e c) (λ h.
          let z = and_true (not (unmarked roster c)) _ h in
          let t = any_found (λ t. with_property p t && eqb c (end e t)) ts z.1 in
          let k = and_true (with_property p t.0) _ t.2 in
          let u : unmarked roster c ≡ true = ap (unmarked roster) (eqb-true _ _ k.1) ∙ plain t.0 t.1 (data_of t.0 p (sym (eqb-true _ _ k.0)) ∙ d) e in
          true≢false (sym z.0 ∙ ap not u)))

      -- a data property has one line if it is present, and none if it is not; and so says its bound
      cells : (p : ℕ) → data_property v p ≡ true → (marked_ends roster ts source p + 1) * (marked_ends roster ts target p + 1) ≡ 1
      cells p d = λ i. (no-ends p d source i + 1) * (no-ends p d target i + 1)

      lines : (p : ℕ) → data_property v p ≡ true → (c : Bool) → any (with_property p) ts ≡ c → how_many (with_property p) out ≡ cond c 1 0
      lines p d true h =
          let w = any_found (with_property p) ts h in
          let low = many-some (with_property p) out (moved f w.0) (image w.0 w.1) w.2 in
          omega (arith, low, in_grid p d, cells p d)
      lines p d false h =
          many-none (with_property p) out
          (λ t m.
          let u = from t m in
          ap (λ (z : Triple). with_property p z) u.2 ∙ any_none (with_property p) ts h u.0 u.1)

      bounds : (p : ℕ) → data_property v p ≡ true → (c : Bool) → any (with_property p) ts ≡ c → property_bound roster ts p ≡ cond c 1 0
      unfolding property_bound
      bounds p d true h =
          let n = how_many (with_property p) (sorted ts) in
          let w = any_found (with_property p) ts h in
          let low : 1 ≤ n = many-some (with_property p) (sorted ts) w.0 (mem-sorted w.0 ts w.1) w.2 in
          ap (min n) (cells p d) ∙ omega (arith, le-min low (le_refl 1), min-le_right n 1)
      bounds p d false h =
          let none : how_many (with_property p) (sorted ts) ≡ 0 = many-none (with_property p) (sorted ts) (λ t m. any_none (with_property p) ts h t (sorted-mem t ts m)) in
          omega (arith, none, min-le_left (how_many (with_property p) (sorted ts)) ((marked_ends roster ts source p + 1) * (marked_ends roster ts target p + 1)))

      abbrev present_at : ℕ → Bool
      present_at p = data_property v p && any (with_property p) ts

      exact : how_many (is_data v) out ≡ present v roster ts
      unfolding present
      exact =
          by_property out below
          ∙ ap total (map_same (λ p. how_many (data_with p) out) (λ p. cond (present_at p) 1 0) (codes_below (length roster)) (λ p m. at p (data_property v p) refl))
          ∙ total-many present_at (codes_below (length roster))
        where
          at : (p : ℕ) (c : Bool) → data_property v p ≡ c → how_many (λ t. c && with_property p t) out ≡ cond (c && any (with_property p) ts) 1 0
          at p true e = lines p e (any (with_property p) ts) refl
          at p false e = many-none (λ (t : Triple). false) out (λ t m. refl)

      tight : data_bound v roster ts ≡ present v roster ts
      unfolding data_bound present
      tight =
          ap total (map_same (λ p. cond (data_property v p) (property_bound roster ts p) 0) (λ p. cond (present_at p) 1 0) (codes_below (length roster)) (λ p m. at p (data_property v p) refl))
          ∙ total-many present_at (codes_below (length roster))
        where
          at : (p : ℕ) (c : Bool) → data_property v p ≡ c → cond c (property_bound roster ts p) 0 ≡ cond (c && any (with_property p) ts) 1 0
          at p true e = bounds p e (any (with_property p) ts) refl
          at p false e = refl

    pub bounded : Bounded v roster ts
    bounded = record { each = each; together = together; whole = whole; no_more = no_more; exact = exact; tight = tight }

-- ── without some of the triples ──
module _ (v : Vocabulary) (roster : List ℕ) (part ts : List Triple) (among : (t : Triple) → Mem t part → Mem t ts) where
  fewer-ends : (e : Side) (p : ℕ) → marked_ends roster part e p ≤ marked_ends roster ts e p
  unfolding marked_ends
  fewer-ends e p = many_more _ _ (codes_below (length roster)) (λ c h.
      let k = and_true (not (unmarked roster c)) _ h in
      let w = any_found (λ t. with_property p t && eqb c (end e t)) part k.1 in
      and_both (not (unmarked roster c)) _ k.0 (any-holds (λ t. with_property p t && eqb c (end e t)) ts w.0 (among w.0 w.1) w.2))

  fewer-triples : (f : Triple → Bool) → how_many f (sorted part) ≤ how_many f (sorted ts)
  fewer-triples f =
      let h = rising-many f (sorted part) (filter f (sorted ts)) (sorted-rising part) (λ t m e. mem-filter f (sorted ts) t (mem-sorted t ts (among t (sorted-mem t part m))) e) in
      omega (arith, h, filter-length f (sorted ts))

  pub part_bounded : slots_bound v roster part ≤ slots_bound v roster ts
  unfolding slots_bound data_bound property_bound
  part_bounded = omega (arith, total-le _ _ (codes_below (length roster)) (λ p. at p (data_property v p)), fewer-triples (λ t. not (is_data v t)))
    where
      at : (p : ℕ) (c : Bool) → cond c (property_bound roster part p) 0 ≤ cond c (property_bound roster ts p) 0
      at p false = omega arith
      at p true =
          le-min (le_trans (min-le_left _ _) (fewer-triples (with_property p)))
          (le_trans (min-le_right (how_many (with_property p) (sorted part)) _) (mul-le-mul (more (fewer-ends source p)) (more (fewer-ends target p))))
        where
          more : {m n : ℕ} → m ≤ n → m + 1 ≤ n + 1
          more h = omega arith
