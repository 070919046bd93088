-- One triple more in a clique list: its property is opened, and then linked at its node.
-- Assumes nothing.
use Prim.Native.Nat.{ℕ, ◌<◌}
use mathlib.Core.Path.{◌≡◌, refl, sym, ◌∙◌, ap, subst}
use mathlib.Core.Logic.{◌⊎◌, inl, inr, ⊎_elim}
use mathlib.Core.Bool.{Bool, true, false, ◌||◌}
use mathlib.Core.List.{List}
use native.Mathlib.Omega.{arith}
use native.Mathlib.Decide.{ℕ_discrete}
use lib.Dec.{eqb}
use lib.ListN.{length, get_or, set, length-set}
use lib.Seq.{get_or-set_same, get_or-set_other}
use borrow.Author.Tests.{eqb-true, eqb-false, eq-eqb, ne_eqb}
use Rattle.model.specs.declared.Triple.{Triple}
use Rattle.model.specs.declared.Vocabulary.{Vocabulary}
use Rattle.model.specs.Codes.{absent}
use Rattle.model.specs.Roster.{unmarked}
use Rattle.model.specs.declared.Side.{Side}
use Rattle.model.specs.Cliques.{Graph, Has, Clique, shared, linked}
use Rattle.theory.proofs.Tests.{cond_cases, bool_cases, not_both, not_true_false, or_true, or_left, or_right, or-false}
use Rattle.theory.proofs.Weak.{has-map, clique_sym}
use Rattle.union_find.specs.Roots.{Kept, root, merge}
use Rattle.union_find.specs.Calls.{ActivePair, United}
use Rattle.union_find.proofs.Classes.{Added, forest-add, root-add, roots-add}
use Rattle.union_find.proofs.Unions.{united_one, united_same, united_in}
use Rattle.property_groups.specs.Grouping.{Grouping, group_opened, Linkable, NodeLinked}
use Rattle.property_groups.proofs.Entries.{forest-same, roots-same}

module _ (v : Vocabulary) where
  module _ (roster : List ℕ) (e : Side) where
    abbrev CliqueIn : Graph → ℕ → ℕ → Type 0
    CliqueIn G = Clique v roster G e

    abbrev HasIn : Graph → ℕ → ℕ → Type 0
    HasIn G = Has v roster G e

    clique-map : {G G' : Graph} → ((t : Triple) → G t → G' t) → {p q : ℕ} → CliqueIn G p q → CliqueIn G' p q
    clique-map f (shared s) = shared (record { node = s.node; one = has-map v roster f s.one; two = has-map v roster f s.two })
    clique-map f (linked x y) = linked (clique-map f x) (clique-map f y)

    -- G' is G with one property more at a node
    pub record Grown (G G' : Graph) (n q : ℕ) : Type 0 where
      pub up : (t : Triple) → G t → G' t
      pub own : Has v roster G' e n q
      pub back : (m p : ℕ) → Has v roster G' e m p → Has v roster G e m p ⊎ ((m ≡ n) × (p ≡ q))

    pub widen : {A : ℕ → Bool} {G G' K : Graph} {l : List ℕ} → ((t : Triple) → G t → G' t) → Grouping v roster e A G K l → Grouping v roster e A G' K l
    widen f b = record {
      size = b.size;
      forest = b.forest;
      marked = b.marked;
      sound = λ p h. clique-map f (b.sound p h);
      none = b.none;
      first = b.first;
      held = b.held;
    }

    -- a triple that links nothing
    pub skip : {A : ℕ → Bool} {G G' : Graph} {l : List ℕ} → ((t : Triple) → G t → G' t) → ((m p : ℕ) → HasIn G' m p → HasIn G m p)
        → Grouping v roster e A G G l → Grouping v roster e A G' G' l
    skip f g b = record {
      size = b.size;
      forest = b.forest;
      marked = b.marked;
      sound = λ p h. clique-map f (b.sound p h);
      none = b.none;
      first = λ n p h. b.first n p (g n p h);
      held = λ n i u. ⊎_elim (λ z. inl z) (λ h. inr (has-map v roster f h)) (b.held n i u);
    }

    module _ (A : ℕ → Bool) (G' G : Graph) (l : List ℕ) (b : Grouping v roster e A G' G l) where
      -- an unmarked code is no property
      outside : (n : ℕ) → unmarked roster n ≡ true → A n ≡ false
      outside n u = not_true_false (A n) (λ h. not_both u (b.marked n h))

      apart : (n p : ℕ) → unmarked roster n ≡ true → unmarked roster p ≡ false → n ≡ p → ⊥
      apart n p u m z = not_both u (ap (unmarked roster) z ∙ m)

      -- a node with a property holds one
      known : (n p : ℕ) → HasIn G n p → get_or l n 0 ≡ absent → ⊥
      known n p h z = omega (arith, b.forest.inside (get_or l n 0) (b.first n p h).1, b.forest.size)

      -- ── the property is opened ──
      module _ (q : ℕ) (w : q < length l) (m : unmarked roster q ≡ false) where
        module _ (z : get_or l q 0 ≡ absent) (own : CliqueIn G' q q) where
          more : ℕ → Bool
          more x = eqb x q || A x

          fresh : A q ≡ false
          fresh = not_true_false (A q) (λ h. omega (arith, b.forest.falls q h, b.forest.size))

          added : Added A more q
          unfolding more
          added = record { before = fresh; after = or_left (eqb q q) _ (eq-eqb q q refl); rest = λ y n. rw (ne_eqb y q n) }

          kept : (y : ℕ) → A y ≡ true → root (set l q q) y ≡ root l y
          kept = roots-add A more q added l (set l q q) b.forest w refl

          other : (n : ℕ) → unmarked roster n ≡ true → get_or (set l q q) n 0 ≡ get_or l n 0
          other n u = get_or-set_other l q n q 0 (apart n q u m)

          open_new : Grouping v roster e more G' G (set l q q)
          unfolding more
          open_new = record {
            size = length-set l q q ∙ b.size;
            forest = forest-add A more q added l (set l q q) b.forest w refl;
            marked = λ p h. ⊎_elim (λ t. ap (unmarked roster) (eqb-true p q t) ∙ m) (λ a. b.marked p a) (or_true (eqb p q) _ h);
            sound = λ p h. ⊎_elim (λ t. at_new p (eqb-true p q t)) (λ a. subst (CliqueIn G' p) (sym (kept p a)) (b.sound p a)) (or_true (eqb p q) _ h);
            none = λ p i u a.
                let x = or-false (eqb p q) _ a in
                get_or-set_other l q p q 0 (eqb-false p q x.0) ∙ b.none p (omega (arith, length-set l q q)) u x.1;
            first = λ n p h.
                let x = b.first n p h in (
                  or_right (eqb p q) _ x.0,
                  ap more (other n h.plain) ∙ or_right (eqb (get_or l n 0) q) _ x.1,
                  ap (root (set l q q)) (other n h.plain) ∙ kept (get_or l n 0) x.1 ∙ x.2 ∙ sym (kept p x.0),
                );
            held = λ n i u. ⊎_elim (λ z. inl (other n u ∙ z)) (λ h. inr (subst (HasIn G n) (sym (other n u)) h)) (b.held n (omega (arith, length-set l q q)) u);
          }
            where
              at_new : (p : ℕ) → p ≡ q → CliqueIn G' p (root (set l q q) p)
              at_new p t = rw (t, root-add A more q added l (set l q q) b.forest w refl) own

        abbrev Opened : List ℕ → Type 0
        Opened l' = (B : ℕ → Bool) × Grouping v roster e B G' G l' × (B q ≡ true)

        open_old : (get_or l q 0 ≡ absent → ⊥) → A q ≡ true
        open_old n = ⊎_elim (λ t. t) (λ f. absurd (n (b.none q w m f))) (bool_cases (A q))

        pub open_state : CliqueIn G' q q → Opened (group_opened l q)
        unfolding group_opened
        open_state own =
            cond_cases Opened (eqb (get_or l q 0) absent)
            (λ t. let z = eqb-true (get_or l q 0) absent t in (more z own, open_new z own, (added z own).after))
            (λ t. (A, b, open_old (eqb-false (get_or l q 0) absent t)))

      -- ── the property is linked at the node ──
      module _ (n q : ℕ) (u : unmarked roster n ≡ true) (w : n < length l) (aq : A q ≡ true) (g : Grown G G' n q) where
        -- the node's first property
        link-first : get_or l n 0 ≡ absent → Grouping v roster e A G' G' (set l n q)
        link-first z = record {
          size = length-set l n q ∙ b.size;
          forest = forest-same A l l' b.forest same-on (length-set l n q);
          marked = b.marked;
          sound = λ p h. subst (CliqueIn G' p) (sym (kept p h)) (b.sound p h);
          none = λ p i m a. get_or-set_other l n p q 0 (λ t. apart n p u m (sym t)) ∙ b.none p (omega (arith, length-set l n q)) m a;
          first = λ k p h. ⊎_elim (λ o. before k p o) (λ x. now k p x.0 x.1) (g.back k p h);
          held = λ k i v. holds k (omega (arith, length-set l n q)) v (ℕ_discrete k n);
        }
          where
            l' : List ℕ
            l' = set l n q

            same-on : (y : ℕ) → A y ≡ true → get_or l' y 0 ≡ get_or l y 0
            same-on y a = get_or-set_other l n y q 0 (λ t. not_both a (ap A t ∙ outside n u))

            kept : (y : ℕ) → A y ≡ true → root l' y ≡ root l y
            kept = roots-same A l l' b.forest same-on

            before : (k p : ℕ) → HasIn G k p → (A p ≡ true) × (A (get_or l' k 0) ≡ true) × (root l' (get_or l' k 0) ≡ root l' p)
            before k p o =
                let x = b.first k p o in
                let E = get_or-set_other l n k q 0 (λ t. known k p o (ap (λ (j : ℕ). get_or l j 0) t ∙ z)) in
                (x.0, ap A E ∙ x.1, ap (root l') E ∙ kept (get_or l k 0) x.1 ∙ x.2 ∙ sym (kept p x.0))

            now : (k p : ℕ) → k ≡ n → p ≡ q → (A p ≡ true) × (A (get_or l' k 0) ≡ true) × (root l' (get_or l' k 0) ≡ root l' p)
            now k p s t = rw (s, t, get_or-set_same l n q 0 w) (aq, aq, refl)

            holds : (k : ℕ) → k < length l → unmarked roster k ≡ true → Dec (k ≡ n) → (get_or l' k 0 ≡ absent) ⊎ HasIn G' k (get_or l' k 0)
            holds k i u (yes s) = inr (rw (s, get_or-set_same l n q 0 w) g.own)
            holds k i u (no s) =
                let E = get_or-set_other l n k q 0 s in
                ⊎_elim (λ y. inl (E ∙ y)) (λ h. inr (subst (HasIn G' k) (sym E) (has-map v roster g.up h))) (b.held k i u)

        -- a later property of the node
        module _ (z : get_or l n 0 ≡ absent → ⊥) where
          abbrev a : ℕ
          a = get_or l n 0

          held-there : HasIn G n a
          held-there = ⊎_elim (λ y. absurd (z y)) (λ h. h) (b.held n w u)

          there : A a ≡ true
          there = (b.first n a held-there).0

          together : CliqueIn G' a q
          together = shared (record { node = n; one = has-map v roster g.up held-there; two = g.own })

          pair : ActivePair l a q
          pair = record { A = A; forest = b.forest; left = there; right = aq }

          link-later : (l' : List ℕ) → United l l' a q → Grouping v roster e A G' G' l'
          link-later l' united = record {
            size = k.len ∙ b.size;
            forest = k.forest;
            marked = b.marked;
            sound = united_in A l l' a q there aq k (CliqueIn G') (λ x y c. clique_sym v roster c) (λ x y z c d. linked c d) together b.sound;
            none = λ p i m f. k.others p f ∙ b.none p (omega (arith, k.len)) m f;
            first = λ m p h. ⊎_elim (λ o. before m p o) (λ x. now m p x.0 x.1) (g.back m p h);
            held = λ m i u.
                ⊎_elim (λ y. inl (stays m u ∙ y)) (λ h. inr (subst (HasIn G' m) (sym (stays m u)) (has-map v roster g.up h))) (b.held m (omega (arith, k.len)) u);
          }
            where
              k : Kept A l l' (merge (root l) a q)
              k = united.keeps A b.forest there aq

              stays : (m : ℕ) → unmarked roster m ≡ true → get_or l' m 0 ≡ get_or l m 0
              stays m v = k.others m (outside m v)

              before : (m p : ℕ) → HasIn G m p → (A p ≡ true) × (A (get_or l' m 0) ≡ true) × (root l' (get_or l' m 0) ≡ root l' p)
              before m p o =
                  let x = b.first m p o in
                  let E = stays m o.plain in
                  (x.0, ap A E ∙ x.1, ap (root l') E ∙ united_same A l l' a q there aq k (get_or l m 0) p x.1 x.0 x.2)

              now : (m p : ℕ) → m ≡ n → p ≡ q → (A p ≡ true) × (A (get_or l' m 0) ≡ true) × (root l' (get_or l' m 0) ≡ root l' p)
              now m p s t = rw (s, t, stays n u) (aq, there, united_one A l l' a q there aq k)

        pub linkable : Linkable l n q
        linkable = record { inside = w; pair = pair }

        pub link-state : (l' : List ℕ) → NodeLinked l l' n q → Grouping v roster e A G' G' l'
        link-state l' s = go (ℕ_discrete (get_or l n 0) absent)
          where
            go : Dec (get_or l n 0 ≡ absent) → Grouping v roster e A G' G' l'
            go (yes z) = subst (Grouping v roster e A G' G') (sym (s.first z)) (link-first z)
            go (no z) = link-later z l' (s.later z)
