-- Strong equivalence in a form that can be turned and chained: at each side, whatever property the one has is in a clique with one that
-- the other has. It is the strong equivalence that 02 words through cliques, and it is finer than weak equivalence.
-- Assumes nothing.
use Prim.Native.Nat.{ℕ, ◌≤◌}
use mathlib.Core.Path.{◌≡◌, refl, sym, subst, ◌∙◌}
use mathlib.Core.Logic.{◌⊎◌, inl, inr}
use mathlib.Core.Bool.{true}
use mathlib.Core.List.{List}
use Rattle.model.specs.declared.Triple.{Triple}
use Rattle.model.specs.declared.Vocabulary.{Vocabulary}
use Rattle.model.specs.Codes.{kind}
use Rattle.model.specs.Triples.{is_data}
use Rattle.model.specs.Rules.{Derives, given, by_rule}
use Rattle.model.specs.declared.Side.{Side}
use Rattle.model.specs.declared.Side.TheVariants.{Source as source, Target as target}
use Rattle.model.specs.Cliques.{Graph, end, Node, Has, Clique, shared, linked}
use Rattle.model.specs.Classes.{DataNode, SameClique, neither, in_one, Strongly}
use Rattle.model.specs.Summary.{Image}
use Rattle.theory.proofs.Covered.{Plain}
use Rattle.theory.proofs.RuleLaws.{laws}
use Rattle.theory.specs.Tables.{HasData, Weak, by_none}
use Rattle.theory.proofs.Weak.{data_kind, kind_data, has_data, data_has, has-node, has-map, data_node_map, clique_sym, clique-self, clique_weak}
use Rattle.theory.proofs.Images.{Covers, derives_covered}
use Rattle.theory.proofs.Carried.{Own, Keeps, has-up, data_node_up, has-down, plain_down}

module _ (v : Vocabulary) (roster : List ℕ) where
  -- a property of the node that is in a clique with p
  pub record Partner (G : Graph) (e : Side) (p n : ℕ) : Type 0 where
    pub property : ℕ
    pub has : Has v roster G e n property
    pub clique : Clique v roster G e p property

  pub record Alike (G : Graph) (e : Side) (n m : ℕ) : Type 0 where
    pub forth : (p : ℕ) → Has v roster G e n p → Partner G e p m
    pub back : (p : ℕ) → Has v roster G e m p → Partner G e p n

  pub record Strong (G : Graph) (n m : ℕ) : Type 0 where
    pub one : DataNode v roster G n
    pub two : DataNode v roster G m
    pub alike : (e : Side) → Alike G e n m

  -- ── an equivalence of data nodes ──
  pub strong-self : {G : Graph} {n : ℕ} → DataNode v roster G n → Strong G n n
  strong-self x =
      record {
        one = x;
        two = x;
        alike = λ e. record { forth = λ p h. record { property = p; has = h; clique = clique-self v roster h }; back = λ p h. record { property = p; has = h; clique = clique-self v roster h } };
      }

  pub strong-flip : {G : Graph} {n m : ℕ} → Strong G n m → Strong G m n
  strong-flip s = record { one = s.two; two = s.one; alike = λ e. record { forth = (s.alike e).back; back = (s.alike e).forth } }

  further : {G : Graph} {e : Side} {n p q : ℕ} → Clique v roster G e p q → Partner G e q n → Partner G e p n
  further k x = record { property = x.property; has = x.has; clique = linked k x.clique }

  pub strong-through : {G : Graph} {n k m : ℕ} → Strong G n k → Strong G k m → Strong G n m
  strong-through s t =
      record {
        one = s.one;
        two = t.two;
        alike = λ e. record {
          forth = λ p h. let x = (s.alike e).forth p h in further x.clique ((t.alike e).forth x.property x.has);
          back = λ p h. let x = (t.alike e).back p h in further x.clique ((s.alike e).back x.property x.has);
        };
      }

  -- ── graphs with the same properties at each node ──
  clique-map : {G H : Graph} → ((t : Triple) → G t → H t) → {e : Side} {p q : ℕ} → Clique v roster G e p q → Clique v roster H e p q
  clique-map f (shared s) = shared (record { node = s.node; one = has-map v roster f s.one; two = has-map v roster f s.two })
  clique-map f (linked k l) = linked (clique-map f k) (clique-map f l)

  -- a larger graph in which no node comes to a side where it was not keeps what is equivalent
  pub strong-map : {G H : Graph} → ((t : Triple) → G t → H t) → ((e : Side) (n p : ℕ) → Has v roster H e n p → (q : ℕ) × Has v roster G e n q) → {n m : ℕ} → Strong G n m → Strong H n m
  strong-map {G} {H} f d {n} {m} s =
      record {
        one = data_node_map v roster f s.one;
        two = data_node_map v roster f s.two;
        alike = λ e. record { forth = λ p h. go e (s.alike e).forth p h; back = λ p h. go e (s.alike e).back p h };
      }
    where
      go : (e : Side) {a b : ℕ} → ((p : ℕ) → Has v roster G e a p → Partner G e p b) → (p : ℕ) → Has v roster H e a p → Partner H e p b
      go e {a} next p h =
          let w = d e a p h in
          let x = next w.0 w.1 in
          record {
            property = x.property;
            has = has-map v roster f x.has;
            clique = linked (shared (record { node = a; one = h; two = has-map v roster f w.1 })) (clique-map f x.clique);
          }

  -- ── derivation brings no node to another side ──
  record Ground (G : Graph) (t : Triple) : Type 0 where
    from : Triple
    held : G from
    data_triple : is_data v from ≡ true
    subject : t.subject ≡ from.subject
    object : t.object ≡ from.object

  ground : (G : Graph) → Covers v roster G → {t : Triple} → Derives v G t → 5 ≤ kind v t.property → Ground G t
  ground G c (given {t} x) h = record { from = t; held = x; data_triple = kind_data v t h; subject = refl; object = refl }
  ground G c (by_rule r a b k e g x y) h =
      let d = (laws v roster r k).from_data a b e (derives_covered v roster G c x) (derives_covered v roster G c y) (subst (λ (z : Triple). 5 ≤ kind v z.property) g h) in
      let w = ground G c y d.data_triple in
      subst (Ground G) (sym g) (record { from = w.from; held = w.held; data_triple = w.data_triple; subject = d.subject ∙ w.subject; object = d.object ∙ w.object })

  ground-end : {G : Graph} {t : Triple} (e : Side) (w : Ground G t) → end e t ≡ end e w.from
  ground-end source w = w.subject
  ground-end target w = w.object

  pub side-down : (G : Graph) → Covers v roster G → (e : Side) (n p : ℕ) → Has v roster (Derives v G) e n p → (q : ℕ) × Has v roster G e n q
  side-down G c e n p h =
      let w = ground G c h.held (data_kind v h.by h.data_triple) in
      (w.from.property, record { by = w.from; held = w.held; data_triple = w.data_triple; is_end = sym (ground-end e w) ∙ h.is_end; plain = h.plain; property = refl })

  pub strong-up : {G : Graph} → Covers v roster G → {n m : ℕ} → Strong G n m → Strong (Derives v G) n m
  strong-up {G} c s = strong-map (λ t x. given x) (side-down G c) s

  -- ── finer than weak equivalence ──
  pub strong_weak : {G : Graph} {n m : ℕ} → HasData v G n ⊎ (HasData v G n → ⊥) → Strong G n m → Weak v roster G n m
  strong_weak (inl h) s =
      let x = data_has v roster s.one.plain h in
      let y = (s.alike h.side).forth h.by.property x in
      clique_weak v roster y.clique x y.has
  strong_weak (inr f) s =
      by_none s.one s.two f
      (λ h. f (has_data v roster ((s.alike h.side).back h.by.property (data_has v roster s.two.plain h)).has))

  -- ── it is 02's ──
  pub strongly-strong : {G : Graph} {n m : ℕ} → Strongly v roster G n m → Strong G n m
  strongly-strong {G} {n} {m} s = record { one = s.one; two = s.two; alike = λ e. go e (s.each_side e) }
    where
      -- all properties of a node at a side are in one clique
      own : (e : Side) {a p q : ℕ} → Has v roster G e a p → Has v roster G e a q → Clique v roster G e p q
      own e {a} x y = shared (record { node = a; one = x; two = y })

      go : (e : Side) → SameClique v roster G e n m → Alike G e n m
      go e (neither f g) = record { forth = λ p h. absurd (f p h); back = λ p h. absurd (g p h) }
      go e (in_one {p} {q} x y k) =
          record {
            forth = λ r h. record { property = q; has = y; clique = linked (own e h x) k };
            back = λ r h. record { property = p; has = x; clique = linked (own e h y) (clique_sym v roster k) };
          }

  -- where it can be told whether a node has a property at a side
  pub strong-strongly : {G : Graph} → ((e : Side) (n : ℕ) → Plain roster n → ((p : ℕ) × Has v roster G e n p) ⊎ ((p : ℕ) → Has v roster G e n p → ⊥))
      → {n m : ℕ} → Strong G n m → Strongly v roster G n m
  strong-strongly {G} d {n} {m} s = record { one = s.one; two = s.two; each_side = λ e. go e (d e n s.one.plain) }
    where
      go : (e : Side) → ((p : ℕ) × Has v roster G e n p) ⊎ ((p : ℕ) → Has v roster G e n p → ⊥) → SameClique v roster G e n m
      go e (inl (p, h)) = let x = (s.alike e).forth p h in in_one h x.has x.clique
      go e (inr f) = neither f (λ p h. let x = (s.alike e).back p h in f x.property x.has)

  -- ── a finer quotient first ──
  module _ (H : Graph) (f : ℕ → ℕ) (own : Own v roster H f) (finer : (n : ℕ) → DataNode v roster H n → Strong H n (f n)) where
    keeps : Keeps v roster H f
    keeps n x = (finer n x).two.plain

    -- data nodes with one image are equivalent
    one-image : {n m : ℕ} → DataNode v roster H n → DataNode v roster H m → f n ≡ f m → Strong H n m
    one-image {n} {m} x y e = strong-through (finer n x) (strong-flip (subst (Strong H m) (sym e) (finer m y)))

    clique-up : {e : Side} {p q : ℕ} → Clique v roster H e p q → Clique v roster (Image f H) e p q
    clique-up (shared s) = shared (record { node = f s.node; one = has-up v roster H f own keeps s.one; two = has-up v roster H f own keeps s.two })
    clique-up (linked k l) = linked (clique-up k) (clique-up l)

    clique-down : {e : Side} {p q : ℕ} → Clique v roster (Image f H) e p q → Clique v roster H e p q
    clique-down {e} (shared {p} {q} s) =
        let a = has-down v roster H f own keeps s.one in
        let b = has-down v roster H f own keeps s.two in
        let x = ((one-image (has-node v roster a.has) (has-node v roster b.has) (a.image ∙ sym b.image)).alike e).forth p a.has in
        linked x.clique (shared (record { node = b.code; one = x.has; two = b.has }))
    clique-down (linked k l) = linked (clique-down k) (clique-down l)

    pub strong-image : {n m : ℕ} → Strong H n m → Strong (Image f H) (f n) (f m)
    strong-image {n} {m} s =
        record {
          one = data_node_up v roster H f own keeps s.one;
          two = data_node_up v roster H f own keeps s.two;
          alike = λ e. record { forth = λ p h. go e s.one (s.alike e).forth p h; back = λ p h. go e s.two (s.alike e).back p h };
        }
      where
        go : (e : Side) {a b : ℕ} → DataNode v roster H a → ((p : ℕ) → Has v roster H e a p → Partner H e p b) → (p : ℕ) → Has v roster (Image f H) e (f a) p → Partner (Image f H) e p (f b)
        go e {a} {b} x next p h =
            let k = has-down v roster H f own keeps h in
            let y = ((one-image (has-node v roster k.has) x k.image).alike e).forth p k.has in
            let z = next y.property y.has in
            record { property = z.property; has = has-up v roster H f own keeps z.has; clique = linked (clique-up y.clique) (clique-up z.clique) }

    pub image-strong : {x y : ℕ} → Strong (Image f H) x y → (n m : ℕ) → Node H n → Node H m → f n ≡ x → f m ≡ y → Strong H n m
    image-strong {x} {y} s n m i j e g =
        let a = plain_down v roster H f own keeps i (subst (Plain roster) (sym e) s.one.plain) in
        let b = plain_down v roster H f own keeps j (subst (Plain roster) (sym g) s.two.plain) in
        record {
          one = a;
          two = b;
          alike = λ d. record { forth = λ p h. go d e g b (s.alike d).forth p h; back = λ p h. go d g e a (s.alike d).back p h };
        }
      where
        go : (d : Side) {c k u w : ℕ} → f c ≡ u → f k ≡ w → DataNode v roster H k
            → ((p : ℕ) → Has v roster (Image f H) d u p → Partner (Image f H) d p w) → (p : ℕ) → Has v roster H d c p → Partner H d p k
        go d {c} {k} {u} {w} p₁ p₂ z next p h =
            let up : Has v roster (Image f H) d u p = subst (λ (q : ℕ). Has v roster (Image f H) d q p) p₁ (has-up v roster H f own keeps h) in
            let r = next p up in
            let l = has-down v roster H f own keeps r.has in
            let t = ((one-image (has-node v roster l.has) z (l.image ∙ sym p₂)).alike d).forth r.property l.has in
            record { property = t.property; has = t.has; clique = linked (clique-down r.clique) t.clique }
