-- What the rules derive from a covered graph, and that a map which leaves marked nodes alone commutes with derivation:
-- the saturation of the image is the image of the saturation.
-- Assumes nothing.
use Prim.Native.Nat.{ℕ, ◌≤◌}
use mathlib.Core.Path.{◌≡◌, refl, sym, subst, ◌∙◌, ap}
use mathlib.Core.Logic.{◌↔◌}
use mathlib.Core.Bool.{true}
use mathlib.Core.List.{List}
use Rattle.model.specs.declared.Triple.{Triple}
use Rattle.model.specs.declared.Vocabulary.{Vocabulary}
use Rattle.model.specs.Codes.{kind}
use Rattle.model.specs.Triples.{triple}
use Rattle.model.specs.Rules.{fits, gives, Derives, given, by_rule}
use Rattle.model.specs.declared.Side.{Side}
use Rattle.model.specs.declared.Side.TheVariants.{Source as source, Target as target}
use Rattle.model.specs.Cliques.{Graph, end, Node}
use Rattle.model.specs.Summary.{moved, Image}
use Rattle.theory.proofs.Covered.{Marked, Covered, schema-marked}
use Rattle.theory.proofs.RuleLaws.{EndOf, first_subject, first_object, second_subject, second_object, Fixes, laws}
use Rattle.theory.specs.Tables.{HasData, Weak}
use Rattle.theory.proofs.Weak.{data_kind, kind_data, node-map, weak_map}

module _ (v : Vocabulary) (roster : List ℕ) where
  abbrev pub Covers : Graph → Type 0
  Covers G = (t : Triple) → G t → Covered roster v t

  module _ (G : Graph) (c : Covers G) where
    pub derives_covered : {t : Triple} → Derives v G t → Covered roster v t
    derives_covered (given {t} x) = c t x
    derives_covered (by_rule r a b k e g x y) = subst (Covered roster v) (sym g) ((laws v roster r k).covered a b e (derives_covered x) (derives_covered y))

    -- ── no new node ──
    pub record Ends (t : Triple) : Type 0 where
      pub subject : Node G t.subject
      pub object : Node G t.object

    subject-node : (t : Triple) → G t → Node G t.subject
    subject-node t x = record { by = t; held = x; side = source; is_end = refl }

    object-node : (t : Triple) → G t → Node G t.object
    object-node t x = record { by = t; held = x; side = target; is_end = refl }

    from-ends : {a b : Triple} {n : ℕ} → Ends a → Ends b → EndOf v roster a b n → Node G n
    from-ends x y (first_subject e) = subst (Node G) (sym e) x.subject
    from-ends x y (first_object e) = subst (Node G) (sym e) x.object
    from-ends x y (second_subject e) = subst (Node G) (sym e) y.subject
    from-ends x y (second_object e) = subst (Node G) (sym e) y.object

    pub derives_ends : {t : Triple} → Derives v G t → Ends t
    derives_ends (given {t} x) = record { subject = subject-node t x; object = object-node t x }
    derives_ends (by_rule r a b k e g x y) =
        subst Ends (sym g) (record {
          subject = from-ends (derives_ends x) (derives_ends y) ((laws v roster r k).subject_end a b);
          object = from-ends
              (derives_ends x) (derives_ends y) ((laws v roster r k).object_end a b);
        })

    each_side : {t : Triple} → Ends t → (e : Side) → Node G (end e t)
    each_side x source = x.subject
    each_side x target = x.object

    pub node-down : {n : ℕ} → Node (Derives v G) n → Node G n
    node-down x = subst (Node G) x.is_end (each_side (derives_ends x.held) x.side)

    pub node-up : {n : ℕ} → Node G n → Node (Derives v G) n
    node-up x = node-map (λ t y. given y) x

    -- ── no data triple at a node that had none ──
    record DataEnds (t : Triple) : Type 0 where
      subject : HasData v G t.subject
      object : HasData v G t.object

    data_ends : {t : Triple} → Derives v G t → 5 ≤ kind v t.property → DataEnds t
    data_ends (given {t} x) h =
        record {
          subject = record { by = t; held = x; data_triple = kind_data v t h; side = source; is_end = refl };
          object = record { by = t; held = x; data_triple = kind_data v t h; side = target; is_end = refl };
        }
    data_ends (by_rule r a b k e g x y) h =
        let d = (laws v roster r k).from_data a b e (derives_covered x) (derives_covered y) (subst (λ (z : Triple). 5 ≤ kind v z.property) g h) in
        let z = data_ends y d.data_triple in
        subst DataEnds (sym g) (record { subject = subst (HasData v G) (sym d.subject) z.subject; object = subst (HasData v G) (sym d.object) z.object })

    data_at_lem : {t : Triple} → DataEnds t → (e : Side) → HasData v G (end e t)
    data_at_lem x source = x.subject
    data_at_lem x target = x.object

    pub data_down : {n : ℕ} → HasData v (Derives v G) n → HasData v G n
    data_down x = subst (HasData v G) x.is_end (data_at_lem (data_ends x.held (data_kind v x.by x.data_triple)) x.side)

    -- what is equivalent stays so
    pub weak_up : {n m : ℕ} → Weak v roster G n m → Weak v roster (Derives v G) n m
    weak_up w = weak_map v roster (λ t x. given x) (λ n x h. data_down h) w

    -- ── a map that leaves marked nodes alone ──
    module _ (f : ℕ → ℕ) (own : (n : ℕ) → Node G n → Marked roster n → f n ≡ n) where
      fixes : {t : Triple} → Derives v G t → Fixes v roster f t
      fixes x = let n = derives_ends x in record { subject = λ h. own _ n.subject h; object = λ h. own _ n.object h }

      -- it does not move a schema triple
      pub record Still (t : Triple) : Type 0 where
        pub subject : f t.subject ≡ t.subject
        pub object : f t.object ≡ t.object

      pub still : {t : Triple} → Derives v G t → 1 ≤ kind v t.property → kind v t.property ≤ 4 → Still t
      still {t} x l u =
          let m = schema-marked roster v t l u (derives_covered x) in
          record { subject = (fixes x).subject m.0; object = (fixes x).object m.1 }

      pub unmoved : {t : Triple} → Still t → moved f t ≡ t
      unmoved {t} s = λ i. triple (s.subject i) t.property (s.object i)

      -- the image of what is derived is derived from the image
      pub image_derives : {t : Triple} → Derives v G t → Derives v (Image f G) (moved f t)
      image_derives (given {t} x) = given (t, x, refl)
      image_derives {t} (by_rule r a b k e g x y) =
          let w = (laws v roster r k).schema a b e in
          let s = still x w.0 w.1 in
          let z = (laws v roster r k).along f a b e s.subject s.object in
          by_rule r a (moved f b) k z.0 (ap (moved f) g ∙ sym z.1) (subst (Derives v (Image f G)) (unmoved s) (image_derives x)) (image_derives y)

      -- and what is derived from the image is the image of what is derived
      pub derives_image : {t : Triple} → Derives v (Image f G) t → Image f (Derives v G) t
      derives_image (given (u, x, e)) = (u, given x, e)
      derives_image {t} (by_rule r a b k e g x y) = go (derives_image x) (derives_image y)
        where
          go : Image f (Derives v G) a → Image f (Derives v G) b → Image f (Derives v G) t
          go (a₀, dx, ea) (b₀, dy, eb) =
              let w = (laws v roster r k).schema a b e in
              let pa : a.property ≡ a₀.property = ap (λ (z : Triple). z.property) ea in
              let s = still dx (subst (λ (z : ℕ). 1 ≤ kind v z) pa w.0) (subst (λ (z : ℕ). kind v z ≤ 4) pa w.1) in
              let same : a ≡ a₀ = ea ∙ unmoved s in
              let moves : fits v r a₀ (moved f b₀) ≡ true = subst (λ (z : Triple). fits v r z (moved f b₀) ≡ true) same (subst (λ (z : Triple). fits v r a z ≡ true) eb e) in
              let fit = (laws v roster r k).back f a₀ b₀ (derives_covered dy) (fixes dy) moves in
              let z = (laws v roster r k).along f a₀ b₀ fit s.subject s.object in
              (gives v r a₀ b₀, by_rule r a₀ b₀ k fit refl dx dy, g ∙ (λ i. gives v r (same i) (eb i)) ∙ z.1)

      pub image-exact : (t : Triple) → Derives v (Image f G) t ↔ Image f (Derives v G) t
      image-exact t = (derives_image, λ w. subst (Derives v (Image f G)) (sym w.2) (image_derives w.1))
