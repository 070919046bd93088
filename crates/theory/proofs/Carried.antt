-- What a map of codes does to a graph: it leaves marked nodes alone and sends data nodes to unmarked codes.
-- Assumes nothing.
use Prim.Native.Nat.{ℕ}
use mathlib.Core.Path.{◌≡◌, refl, sym, subst, ◌∙◌, ap}
use mathlib.Core.Logic.{⊎_elim}
use mathlib.Core.Bool.{true≢false}
use mathlib.Core.List.{List}
use Rattle.model.specs.declared.Triple.{Triple}
use Rattle.model.specs.declared.Vocabulary.{Vocabulary}
use Rattle.model.specs.Triples.{is_data}
use Rattle.model.specs.declared.Side.{Side}
use Rattle.model.specs.declared.Side.TheVariants.{Source as source, Target as target}
use Rattle.model.specs.Cliques.{Graph, end, Node, Has}
use Rattle.model.specs.Classes.{DataNode}
use Rattle.model.specs.Summary.{moved, Image}
use Rattle.theory.proofs.Covered.{Marked, Plain, by-mark}
use Rattle.theory.specs.Tables.{HasData}
use Rattle.theory.proofs.Weak.{has-node}

pub moved-end : (f : ℕ → ℕ) (e : Side) (t : Triple) → end e (moved f t) ≡ f (end e t)
moved-end f source t = refl
moved-end f target t = refl

moved_data : (v : Vocabulary) (f : ℕ → ℕ) (t : Triple) → is_data v (moved f t) ≡ is_data v t
unfolding is_data
moved_data v f t = refl

pub node-image : (f : ℕ → ℕ) {G : Graph} {n : ℕ} → Node G n → Node (Image f G) (f n)
node-image f x = record { by = moved f x.by; held = (x.by, x.held, refl); side = x.side; is_end = moved-end f x.side x.by ∙ ap f x.is_end }

pub image-node : (f : ℕ → ℕ) {G : Graph} {x : ℕ} → Node (Image f G) x → (n : ℕ) × Node G n × (f n ≡ x)
image-node f y =
    let w = y.held in
    (end y.side w.0, record { by = w.0; held = w.1; side = y.side; is_end = refl }, sym (moved-end f y.side w.0) ∙ ap (end y.side) (sym w.2) ∙ y.is_end)

module _ (v : Vocabulary) (roster : List ℕ) (H : Graph) (f : ℕ → ℕ) where
  abbrev pub Own : Type 0
  Own = (n : ℕ) → Node H n → Marked roster n → f n ≡ n

  abbrev pub Keeps : Type 0
  Keeps = (n : ℕ) → DataNode v roster H n → Plain roster (f n)

  module _ (own : Own) (keeps : Keeps) where
    -- a node whose image is unmarked is unmarked
    pub plain_down : {n : ℕ} → Node H n → Plain roster (f n) → DataNode v roster H n
    plain_down {n} x a =
        record {
          node = x;
          plain = ⊎_elim (λ (t : Marked roster n). absurd (true≢false (sym a ∙ subst (Marked roster) (sym (own n x t)) t))) (λ (b : Plain roster n). b) (by-mark roster n);
        }

    pub data_node_up : {n : ℕ} → DataNode v roster H n → DataNode v roster (Image f H) (f n)
    data_node_up {n} x = record { node = node-image f x.node; plain = keeps n x }

    pub has-up : {e : Side} {n p : ℕ} → Has v roster H e n p → Has v roster (Image f H) e (f n) p
    has-up {e} {n} h =
        record {
          by = moved f h.by;
          held = (h.by, h.held, refl);
          data_triple = moved_data v f h.by ∙ h.data_triple;
          is_end = moved-end f e h.by ∙ ap f h.is_end;
          plain = keeps n (has-node v roster h);
          property = h.property;
        }

    pub data_up : {n : ℕ} → HasData v H n → HasData v (Image f H) (f n)
    data_up h =
        record {
          by = moved f h.by;
          held = (h.by, h.held, refl);
          data_triple = moved_data v f h.by ∙ h.data_triple;
          side = h.side;
          is_end = moved-end f h.side h.by ∙ ap f h.is_end;
        }

    -- a property that the image has at a code, the graph has at a node with that image
    pub record Below-has (e : Side) (x p : ℕ) : Type 0 where
      pub code : ℕ
      pub has : Has v roster H e code p
      pub image : f code ≡ x

    pub has-down : {e : Side} {x p : ℕ} → Has v roster (Image f H) e x p → Below-has e x p
    has-down {e} {x} h =
        let w = h.held in
        let k = end e w.0 in
        let q : f k ≡ x = sym (moved-end f e w.0) ∙ ap (end e) (sym w.2) ∙ h.is_end in
        let y = plain_down (record { by = w.0; held = w.1; side = e; is_end = refl }) (subst (Plain roster) (sym q) h.plain) in
        record {
          code = k;
          has = record {
            by = w.0;
            held = w.1;
            data_triple = sym (moved_data v f w.0) ∙ ap (is_data v) (sym w.2) ∙ h.data_triple;
            is_end = refl;
            plain = y.plain;
            property = ap (λ (z : Triple). z.property) (sym w.2) ∙ h.property;
          };
          image = q;
        }
