-- A triple that changes no class: its ends are nodes, and its image is in the summary already. Then the map and the summary stay, and the line that
-- is its image weighs one more.
-- Assumes nothing.
use Prim.Native.Nat.{ℕ, ◌+◌, ◌<◌, ◌≤◌}
use mathlib.Core.Path.{◌≡◌, refl, sym, subst, ◌∙◌, ap}
use mathlib.Core.Logic.{◌⊎◌, inl, inr, ⊎_elim}
use mathlib.Core.Bool.{true, false, true≢false}
use mathlib.Core.List.{List, map, Memᴰ as Mem}
use lib.ListN.{length, get_or, set}
use Rattle.model.specs.declared.Triple.{Triple}
use Rattle.model.specs.declared.Vocabulary.{Vocabulary}
use Rattle.model.specs.Codes.{absent, kind}
use Rattle.model.specs.Triples.{is_data, holds, insert}
use Rattle.model.specs.Roster.{unmarked}
use Rattle.model.specs.Partition.{label}
use Rattle.model.specs.declared.Side.{Side}
use Rattle.model.specs.declared.Side.TheVariants.{Source as source, Target as target}
use Rattle.model.specs.Cliques.{Graph, end, Node, Has}
use Rattle.model.specs.Classes.{DataNode, map_of}
use Rattle.model.specs.Summary.{moved, Image, summary, weight, weights_by, weights}
use Rattle.theory.proofs.Order.{insert-keeps, insert-mem}
use Rattle.theory.specs.Tables.{Below, AllBelow, In, HasData, Weak, by_side, by_none, itself, turned, chained}
use Rattle.theory.proofs.Covered.{Marked, Plain, by-mark}
use Rattle.theory.proofs.Weak.{node-map, data_map, weak_nodes, weak_data, weak_map, has-node, Reps}
use Rattle.theory.proofs.Mapped.{map-reps, map-absent, length_map_of}
use Rattle.theory.proofs.Weights.{weights-more}
use Rattle.theory.proofs.Summaries.{condensed-rising, condensed-exact, condensed_unique, map_unique}

module _ (v : Vocabulary) (roster : List ℕ) (ts : List Triple) (t : Triple) (below : AllBelow (length roster) ts) (right : Below (length roster) t) (room : length roster ≤ absent)
    (subject : Node (In ts) t.subject) (object : Node (In ts) t.object) (known : Mem (moved (label (map_of v roster ts)) t) (summary v roster ts)) where
  abbrev G : Graph
  G = In ts

  abbrev H : Graph
  H = In (insert t ts)

  abbrev f : ℕ → ℕ
  f = label (map_of v roster ts)

  reps : Reps v roster G f
  reps = map-reps v roster ts below room

  -- a held triple with the same image
  abbrev image : Image f G (moved f t)
  image = (condensed-exact _ ts (moved f t)).0 known

  abbrev u : Triple
  u = image.0

  held : Mem u ts
  held = image.1

  property : t.property ≡ u.property
  property = ap (λ (x : Triple). x.property) image.2

  node : (e : Side) → Node G (end e t)
  node source = subject
  node target = object

  node_of : (e : Side) → Node G (end e u)
  node_of e = record { by = u; held = held; side = e; is_end = refl }

  agrees : (e : Side) → f (end e t) ≡ f (end e u)
  agrees source = ap (λ (x : Triple). x.subject) image.2
  agrees target = ap (λ (x : Triple). x.object) image.2

  plain_rep : (n : ℕ) → Node G n → Plain roster n → Plain roster (f n)
  plain_rep n x a = (weak_nodes v roster (reps.of_plain n (record { node = x; plain = a }))).1.plain

  -- both ends of a side are one marked node, or weakly equivalent
  alike : (e : Side) → (end e t ≡ end e u) ⊎ Weak v roster G (end e t) (end e u)
  alike e = go (by-mark roster (end e t)) (by-mark roster (end e u))
    where
      go : Marked roster (end e t) ⊎ Plain roster (end e t) → Marked roster (end e u) ⊎ Plain roster (end e u) → (end e t ≡ end e u) ⊎ Weak v roster G (end e t) (end e u)
      go (inl a) (inl b) = inl (sym (reps.of_marked (end e t) (node e) a) ∙ agrees e ∙ reps.of_marked (end e u) (node_of e) b)
      go (inl a) (inr b) =
          absurd (true≢false (sym (plain_rep (end e u) (node_of e) b) ∙ ap (unmarked roster) (sym (agrees e) ∙ reps.of_marked (end e t) (node e) a) ∙ a))
      go (inr a) (inl b) =
          absurd (true≢false (sym (plain_rep (end e t) (node e) a) ∙ ap (unmarked roster) (agrees e ∙ reps.of_marked (end e u) (node_of e) b) ∙ b))
      go (inr a) (inr b) =
          inr (chained (subst (Weak v roster G (end e t)) (agrees e) (reps.of_plain (end e t) (record { node = node e; plain = a })))
          (turned (reps.of_plain (end e u) (record { node = node_of e; plain = b }))))

  data_triple : is_data v t ≡ true → is_data v u ≡ true
  unfolding is_data
  data_triple h = ap (λ (p : ℕ). lib.Dec.leb 5 (kind v p)) (sym property) ∙ h

  kept : (x : Triple) → G x → H x
  kept x m = insert-keeps t x ts m

  -- ── from the larger table back ──
  node-back : {n : ℕ} → Node H n → Node G n
  node-back {n} x = ⊎_elim
      (λ (e : x.by ≡ t). subst (Node G) (ap (end x.side) (sym e) ∙ x.is_end) (node x.side))
      (λ m. record { by = x.by; held = m; side = x.side; is_end = x.is_end }) (insert-mem t x.by ts x.held)

  data_node_back : {n : ℕ} → DataNode v roster H n → DataNode v roster G n
  data_node_back x = record { node = node-back x.node; plain = x.plain }

  data_back : {n : ℕ} → HasData v H n → HasData v G n
  data_back {n} x = ⊎_elim
      (λ (e : x.by ≡ t). subst (HasData v G) (ap (end x.side) (sym e) ∙ x.is_end) (at x.side (subst (λ (z : Triple). is_data v z ≡ true) e x.data_triple)))
      (λ m. record { by = x.by; held = m; data_triple = x.data_triple; side = x.side; is_end = x.is_end }) (insert-mem t x.by ts x.held)
    where
      at : (e : Side) → is_data v t ≡ true → HasData v G (end e t)
      at e h =
          let k : HasData v G (end e u) = record { by = u; held = held; data_triple = data_triple h; side = e; is_end = refl } in
          ⊎_elim (λ q. subst (HasData v G) (sym q) k) (λ w. (weak_data v roster w).1 k) (alike e)

  -- a node at a side of a property has an equivalent there before
  record Before (e : Side) (n p : ℕ) : Type 0 where
    other : ℕ
    has : Has v roster G e other p
    same : Weak v roster G n other

  has-back : {e : Side} {n p : ℕ} → Has v roster H e n p → Before e n p
  has-back {e} {n} {p} x = ⊎_elim new old (insert-mem t x.by ts x.held)
    where
      old : Mem x.by ts → Before e n p
      old m =
          let h : Has v roster G e n p = record { by = x.by; held = m; data_triple = x.data_triple; is_end = x.is_end; plain = x.plain; property = x.property } in
          record { other = n; has = h; same = itself (has-node v roster h) }

      new : x.by ≡ t → Before e n p
      new q =
          let a : end e t ≡ n = ap (end e) (sym q) ∙ x.is_end in
          let d : is_data v u ≡ true = data_triple (subst (λ (z : Triple). is_data v z ≡ true) q x.data_triple) in
          let k : u.property ≡ p = sym property ∙ ap (λ (z : Triple). z.property) (sym q) ∙ x.property in
          ⊎_elim
          (λ o.
          let h : Has v roster G e n p = record { by = u; held = held; data_triple = d; is_end = sym o ∙ a; plain = x.plain; property = k } in
          record { other = n; has = h; same = itself (has-node v roster h) })
          (λ w.
          let y = (weak_nodes v roster w).1 in
          record { other = end e u; has = record { by = u; held = held; data_triple = d; is_end = refl; plain = y.plain; property = k }; same = subst (λ (z : ℕ). Weak v roster G z (end e u)) a w })
          (alike e)

  weak_back : {n m : ℕ} → Weak v roster H n m → Weak v roster G n m
  weak_back (by_side x y) = let a = has-back x in let b = has-back y in chained a.same (chained (by_side a.has b.has) (turned b.same))
  weak_back (by_none x y p q) = by_none (data_node_back x) (data_node_back y) (λ h. p (data_map v kept h)) (λ h. q (data_map v kept h))
  weak_back (itself x) = itself (data_node_back x)
  weak_back (turned w) = turned (weak_back w)
  weak_back (chained a b) = chained (weak_back a) (weak_back b)

  weak_on : {n m : ℕ} → Weak v roster G n m → Weak v roster H n m
  weak_on w = weak_map v roster kept (λ n x h. data_back h) w

  reps-on : Reps v roster H f
  reps-on =
      record {
        of_marked = λ n x a. reps.of_marked n (node-back x) a;
        of_plain = λ n x. weak_on (reps.of_plain n (data_node_back x));
        least = λ n m x w. reps.least n m (data_node_back x) (weak_back w);
      }

  below_all : AllBelow (length roster) (insert t ts)
  below_all x m = ⊎_elim (λ (e : x ≡ t). subst (Below (length roster)) (sym e) right) (λ k. below x k) (insert-mem t x ts m)

  -- ── the law ──
  pub quick_map : map_of v roster ts ≡ map_of v roster (insert t ts)
  quick_map =
      map_unique v roster (insert t ts) below_all room (map_of v roster ts) (length_map_of v roster ts) reps-on
      (λ c n. map-absent v roster ts below room c (λ x. n (node-map kept x)))

  images : (x : Triple) → Image f H x → Image f G x
  images x w = ⊎_elim (λ (e : w.0 ≡ t). (u, held, w.2 ∙ ap (moved f) e ∙ image.2)) (λ m. (w.0, m, w.2)) (insert-mem t w.0 ts w.1)

  pub quick_summary : summary v roster ts ≡ summary v roster (insert t ts)
  quick_summary =
      condensed_unique _ (insert t ts) (summary v roster ts) (condensed-rising _ ts)
      (λ x.
      let s = condensed-exact _ ts x in
      subst (λ (m : List ℕ). mathlib.Core.Logic.◌↔◌ (Mem x (summary v roster ts)) (Image (label m) H x)) quick_map
      (λ m. let w = s.0 m in (w.0, kept w.0 w.1, w.2), λ w. s.1 (images x w)))

  -- the image stands at place j
  pub quick_weights : (j : ℕ) (d : Triple) → holds t ts ≡ false → j < length (summary v roster ts) → get_or (summary v roster ts) j d ≡ moved f t
      → weights v roster (insert t ts) ≡ set (weights v roster ts) j (get_or (weights v roster ts) j 0 + 1)
  unfolding weights_by
  quick_weights j d new h e =
      sym (λ i. map (weight (label (quick_map i)) (insert t ts)) (quick_summary i))
      ∙ weights-more f t ts new (summary v roster ts) j d (condensed-rising _ ts) h e
