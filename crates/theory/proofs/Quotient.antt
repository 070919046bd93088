-- Weak equivalence under a finer quotient: if f sends each data node to one that is weakly equivalent to it, then two data nodes are
-- equivalent exactly if their images are in the image of the graph.
-- Assumes nothing.
use Prim.Native.Nat.{ℕ}
use mathlib.Core.Path.{◌≡◌, sym, subst, ◌∙◌}
use mathlib.Core.List.{List}
use Rattle.model.specs.declared.Vocabulary.{Vocabulary}
use Rattle.model.specs.Cliques.{Graph, Node}
use Rattle.model.specs.Classes.{DataNode}
use Rattle.model.specs.Summary.{Image}
use Rattle.theory.proofs.Covered.{Plain}
use Rattle.theory.specs.Tables.{HasData, Weak, by_side, by_none, itself, turned, chained}
use Rattle.theory.proofs.Weak.{has_data, data_has, weak_nodes, weak_data, has-node}
use Rattle.theory.proofs.Carried.{image-node, Own, Keeps, plain_down, data_node_up, has-up, data_up, has-down}

module _ (v : Vocabulary) (roster : List ℕ) (H : Graph) (f : ℕ → ℕ) (own : Own v roster H f) (finer : (n : ℕ) → DataNode v roster H n → Weak v roster H n (f n)) where
  keeps : Keeps v roster H f
  keeps n x = (weak_nodes v roster (finer n x)).1.plain

  -- data nodes with one image are equivalent
  one-image : {n m : ℕ} → DataNode v roster H n → DataNode v roster H m → f n ≡ f m → Weak v roster H n m
  one-image {n} {m} x y e = chained (finer n x) (turned (subst (Weak v roster H m) (sym e) (finer m y)))

  -- a data triple at the image of a data node comes from one at the node
  data_down : {n : ℕ} → DataNode v roster H n → HasData v (Image f H) (f n) → HasData v H n
  data_down {n} x h =
      let k = has-down v roster H f own keeps (data_has v roster (keeps n x) h) in
      (weak_data v roster (one-image (has-node v roster k.has) x k.image)).0 (has_data v roster k.has)

  pub weak_image : {n m : ℕ} → Weak v roster H n m → Weak v roster (Image f H) (f n) (f m)
  weak_image (by_side x y) = by_side (has-up v roster H f own keeps x) (has-up v roster H f own keeps y)
  weak_image (by_none x y p q) = by_none (data_node_up v roster H f own keeps x) (data_node_up v roster H f own keeps y) (λ h. p (data_down x h)) (λ h. q (data_down y h))
  weak_image (itself x) = itself (data_node_up v roster H f own keeps x)
  weak_image (turned w) = turned (weak_image w)
  weak_image (chained u w) = chained (weak_image u) (weak_image w)

  pub image_weak : {x y : ℕ} → Weak v roster (Image f H) x y → (n m : ℕ) → Node H n → Node H m → f n ≡ x → f m ≡ y → Weak v roster H n m
  image_weak (by_side h k) n m i j e g =
      let a = has-down v roster H f own keeps h in
      let b = has-down v roster H f own keeps k in
      let x = plain_down v roster H f own keeps i (subst (Plain roster) (sym e) h.plain) in
      let y = plain_down v roster H f own keeps j (subst (Plain roster) (sym g) k.plain) in
      chained (one-image x (has-node v roster a.has) (e ∙ sym a.image))
      (chained (by_side a.has b.has) (one-image (has-node v roster b.has) y (b.image ∙ sym g)))
  image_weak (by_none h k p q) n m i j e g =
      by_none (plain_down v roster H f own keeps i (subst (Plain roster) (sym e) h.plain)) (plain_down v roster H f own keeps j (subst (Plain roster) (sym g) k.plain))
      (λ d. p (subst (HasData v (Image f H)) e (data_up v roster H f own keeps d))) (λ d. q (subst (HasData v (Image f H)) g (data_up v roster H f own keeps d)))
  image_weak (itself h) n m i j e g =
      one-image (plain_down v roster H f own keeps i (subst (Plain roster) (sym e) h.plain)) (plain_down v roster H f own keeps j (subst (Plain roster) (sym g) h.plain)) (e ∙ sym g)
  image_weak (turned w) n m i j e g = turned (image_weak w m n j i g e)
  image_weak (chained u w) n m i j e g =
      let k = image-node f (weak_nodes v roster u).1.node in
      chained (image_weak u n k.0 i k.1 e k.2) (image_weak w k.0 m k.1 j k.2 g)
