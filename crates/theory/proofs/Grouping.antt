-- A way to group data nodes: an equivalence of the data nodes of each graph, and a map computed from triples that gives the
-- representatives by it. What holds of weak and of strong summaries alike is shown once, of any such way.
-- Assumes nothing.
use Prim.Native.Nat.{ℕ, ◌≤◌}
use mathlib.Core.Path.{◌≡◌, refl, sym, subst, ◌∙◌, ap}
use mathlib.Core.Logic.{⊎_elim, ◌↔◌}
use mathlib.Core.List.{List, map, Memᴰ as Mem}
use native.Mathlib.Omega.{arith}
use native.Mathlib.Nat.{le_antisymm, le_trans}
use lib.ListN.{length, length-map, get_or-eq_default}
use Rattle.model.specs.declared.Triple.{Triple}
use Rattle.model.specs.declared.Vocabulary.{Vocabulary}
use Rattle.model.specs.Codes.{absent}
use Rattle.model.specs.Triples.{triple}
use Rattle.model.specs.Rules.{Derives, given}
use Rattle.model.specs.Saturation.{saturation}
use Rattle.model.specs.Partition.{label}
use Rattle.model.specs.declared.Side.TheVariants.{Source as source, Target as target}
use Rattle.model.specs.Cliques.{Graph, Node}
use Rattle.model.specs.Classes.{DataNode, RepresentsBy, map_of, strong_map_of}
use Rattle.model.specs.Summary.{moved, Image, condensed}
use Rattle.theory.proofs.Order.{rising_unique, rising-length}
use Rattle.theory.proofs.Lists.{mem-map}
use Rattle.theory.specs.Tables.{AllBelow, In, Weak, itself, chained, Right}
use Rattle.theory.proofs.Covered.{Marked, Plain, by-mark}
use Rattle.theory.proofs.Saturated.{saturation-exact, saturation-rising}
use Rattle.theory.proofs.Weak.{weak_nodes}
use Rattle.theory.proofs.Images.{Covers, node-down, node-up, weak_up, image-exact}
use Rattle.theory.proofs.Carried.{node-image, image-node, Own, plain_down, data_node_up}
use Rattle.theory.proofs.Quotient.{weak_image, image_weak}
use Rattle.theory.proofs.Strong.{Strong, strong-self, strong-through, strong-map, strong-up, strong_weak, strong-image, image-strong}
use Rattle.theory.proofs.Mapped.{node_or, data_or, map-reps, map-absent, length_map_of, strong-reps, strong-absent, length-strong-map}
use Rattle.theory.proofs.Summaries.{same-reps, Same, same_sym, same_trans, same_derives, same-image, same-node, image-agree, same_weak, condensed-rising, condensed-exact}
use Rattle.theory.proofs.Accepted.{type-below, room, below, covered, saturation-right, condensed-right}

module _ (v : Vocabulary) (roster : List ℕ) where
  pub record Grouping : Type 1 where
    pub E : Graph → ℕ → ℕ → Type 0
    pub nodes : {G : Graph} {n m : ℕ} → E G n m → DataNode v roster G n × DataNode v roster G m
    pub self : {G : Graph} {n : ℕ} → DataNode v roster G n → E G n n
    pub through : {G : Graph} {n k m : ℕ} → E G n k → E G k m → E G n m
    pub same : {G H : Graph} → Same G H → {n m : ℕ} → E G n m → E H n m
    -- what is equivalent stays so in what is derived
    pub up : {G : Graph} → Covers v roster G → {n m : ℕ} → E G n m → E (Derives v G) n m
    -- where f sends each data node to an equivalent one, nodes are equivalent exactly if their images are in the image of the graph
    pub image : {H : Graph} (f : ℕ → ℕ) → Own v roster H f → ((n : ℕ) → DataNode v roster H n → E H n (f n)) → {n m : ℕ} → E H n m → E (Image f H) (f n) (f m)
    pub under : {H : Graph} (f : ℕ → ℕ) → Own v roster H f → ((n : ℕ) → DataNode v roster H n → E H n (f n)) → {x y : ℕ} → E (Image f H) x y
        → (n m : ℕ) → Node H n → Node H m → f n ≡ x → f m ≡ y → E H n m
    pub map_of_lem : List Triple → List ℕ
    pub size : (ts : List Triple) → length (map_of_lem ts) ≡ length roster
    pub reps : (ts : List Triple) → AllBelow (length roster) ts → length roster ≤ absent → RepresentsBy v roster (E (In ts)) (In ts) (label (map_of_lem ts))
    pub absents : (ts : List Triple) → AllBelow (length roster) ts → length roster ≤ absent → (c : ℕ) → (Node (In ts) c → ⊥) → label (map_of_lem ts) c ≡ absent

  abbrev pub weakly : Grouping
  weakly =
      record {
        E = Weak v roster;
        nodes = weak_nodes v roster;
        self = itself;
        through = chained;
        same = same_weak v roster;
        up = λ {G} c w. weak_up v roster G c w;
        image = λ {H} f own finer w. weak_image v roster H f own finer w;
        under = λ {H} f own finer w. image_weak v roster H f own finer w;
        map_of_lem = map_of v roster;
        size = length_map_of v roster;
        reps = map-reps v roster;
        absents = map-absent v roster;
      }

  abbrev pub strongly : Grouping
  strongly =
      record {
        E = Strong v roster;
        nodes = λ s. (s.one, s.two);
        self = strong-self v roster;
        through = strong-through v roster;
        same = λ f s. strong-map v roster (λ t x. (f t).0 x)
            (λ e n p h. (
              p,
              record {
                by = h.by;
                held = (f h.by).1 h.held;
                data_triple = h.data_triple;
                is_end = h.is_end;
                plain = h.plain;
                property = h.property;
              },
            )) s;
        up = λ c s. strong-up v roster c s;
        image = λ {H} f own finer s. strong-image v roster H f own finer s;
        under = λ {H} f own finer s. image-strong v roster H f own finer s;
        map_of_lem = strong_map_of v roster;
        size = length-strong-map v roster;
        reps = strong-reps v roster;
        absents = strong-absent v roster;
      }

  module _ (K : Grouping) where
    -- absent is no code, so its entry is absent
    absent-entry : length roster ≤ absent → (ts : List Triple) → label (K.map_of_lem ts) absent ≡ absent
    absent-entry r ts = get_or-eq_default (K.map_of_lem ts) absent (subst (λ (z : ℕ). z ≤ absent) (sym (K.size ts)) r)

    -- ── a finer quotient first ──
    module _ (H : Graph) (f : ℕ → ℕ) (own : Own v roster H f) (finer : (n : ℕ) → DataNode v roster H n → K.E H n (f n)) (falls : (n : ℕ) → DataNode v roster H n → f n ≤ n)
        (g h : ℕ → ℕ) (R : RepresentsBy v roster (K.E H) H g) (S : RepresentsBy v roster (K.E (Image f H)) (Image f H) h) where
      keeps : (n : ℕ) → DataNode v roster H n → Plain roster (f n)
      keeps n x = (K.nodes (finer n x)).1.plain

      data_rep : (n : ℕ) → DataNode v roster H n → h (f n) ≡ g n
      data_rep n x =
          let d = data_node_up v roster H f own keeps x in
          let wh = S.of_plain (f n) d in
          let k = image-node f (K.nodes wh).1.node in
          let y = plain_down v roster H f own keeps k.1 (subst (Plain roster) (sym k.2) (K.nodes wh).1.plain) in
          let wk = K.under f own finer wh n k.0 x.node k.1 refl k.2 in
          let up : g n ≤ f k.0 = R.least n (f k.0) x (K.through wk (finer k.0 y)) in
          let wg = R.of_plain n x in
          let low : h (f n) ≤ f (g n) = S.least (f n) (f (g n)) d (K.image f own finer wg) in
          le_antisymm (le_trans low (falls (g n) (K.nodes wg).1)) (subst (λ (z : ℕ). g n ≤ z) k.2 up)

      marked_rep : (n : ℕ) → Node H n → Marked roster n → h (f n) ≡ g n
      marked_rep n x t =
          let e : f n ≡ n = own n x t in
          ap h e ∙ S.of_marked n (subst (Node (Image f H)) e (node-image f x)) t ∙ sym (R.of_marked n x t)

      -- the representatives are carried through both maps
      pub quotient_map : (n : ℕ) → Node H n → h (f n) ≡ g n
      quotient_map n x = ⊎_elim (marked_rep n x) (λ a. data_rep n (record { node = x; plain = a })) (by-mark roster n)

      -- and the two summaries hold the same triples
      pub quotient_image : (t : Triple) → Image h (Image f H) t ↔ Image g H t
      quotient_image t = (
        λ w. (w.1.0, w.1.1, w.2 ∙ ap (moved h) w.1.2 ∙ both w.1.0 w.1.1),
        λ w. (moved f w.0, (w.0, w.1, refl), w.2 ∙ sym (both w.0 w.1)),
      )
        where
          both : (u : Triple) → H u → moved h (moved f u) ≡ moved g u
          both u x =
              let s = quotient_map u.subject (record { by = u; held = x; side = source; is_end = refl }) in
              let o = quotient_map u.object (record { by = u; held = x; side = target; is_end = refl }) in
              λ i. triple (s i) u.property (o i)

    same-grouped : {G H : Graph} → Same G H → {r : ℕ → ℕ} → RepresentsBy v roster (K.E G) G r → RepresentsBy v roster (K.E H) H r
    same-grouped f R = same-reps v roster f (λ n m. (K.same f, K.same (same_sym f))) R

    abbrev pub sum : List Triple → List Triple
    sum ts = condensed (K.map_of_lem ts) ts

    module _ (ts : List Triple) (R : Right v roster ts) where
      abbrev f : ℕ → ℕ
      f = label (K.map_of_lem ts)

      F : RepresentsBy v roster (K.E (In ts)) (In ts) f
      F = K.reps ts (below v roster ts R) (room v roster ts R)

      kept : (c : ℕ) → Node (In ts) c → Node (In ts) (f c)
      kept c x =
          ⊎_elim (λ (t : Marked roster c). subst (Node (In ts)) (sym (F.of_marked c x t)) x)
          (λ (a : Plain roster c). (K.nodes (F.of_plain c (record { node = x; plain = a }))).1.node) (by-mark roster c)

      pub sum-right : Right v roster (sum ts)
      sum-right = condensed-right v roster ts R (K.map_of_lem ts) F.of_marked kept

      falls_in : (n : ℕ) → DataNode v roster (In ts) n → f n ≤ n
      falls_in n x = F.least n n x (K.self x)

      -- ── the shortcut ──
      abbrev long : List Triple
      long = saturation v (length roster) ts

      abbrev short : List Triple
      short = saturation v (length roster) (sum ts)

      abbrev g : ℕ → ℕ
      g = label (K.map_of_lem long)

      abbrev h : ℕ → ℕ
      h = label (K.map_of_lem short)

      long-is : Same (In long) (Derives v (In ts))
      long-is = saturation-exact v (length roster) (type-below R) ts (below v roster ts R)

      sum-sat : Same (In short) (Image f (Derives v (In ts)))
      sum-sat =
          same_trans (saturation-exact v (length roster) (type-below R) (sum ts) (below v roster (sum ts) sum-right))
          (same_trans (same_derives v (condensed-exact (K.map_of_lem ts) ts)) (image-exact v roster (In ts) (covered v roster ts R) f (λ n x t. F.of_marked n x t)))

      G : RepresentsBy v roster (K.E (Derives v (In ts))) (Derives v (In ts)) g
      G = let L = saturation-right v roster ts R in same-grouped long-is (K.reps long (below v roster long L) (room v roster long L))

      H : RepresentsBy v roster (K.E (Image f (Derives v (In ts)))) (Image f (Derives v (In ts))) h
      H = let S = saturation-right v roster (sum ts) sum-right in same-grouped sum-sat (K.reps short (below v roster short S) (room v roster short S))

      data_down : {n : ℕ} → DataNode v roster (Derives v (In ts)) n → DataNode v roster (In ts) n
      data_down x = record { node = node-down v roster (In ts) (covered v roster ts R) x.node; plain = x.plain }

      own : Own v roster (Derives v (In ts)) f
      own n x t = F.of_marked n (node-down v roster (In ts) (covered v roster ts R) x) t

      finer : (n : ℕ) → DataNode v roster (Derives v (In ts)) n → K.E (Derives v (In ts)) n (f n)
      finer n x = K.up (covered v roster ts R) (F.of_plain n (data_down x))

      falls : (n : ℕ) → DataNode v roster (Derives v (In ts)) n → f n ≤ n
      falls n x = falls_in n (data_down x)

      no-node-at : (c : ℕ) → (Node (In ts) c → ⊥) → h (f c) ≡ g c
      no-node-at c k =
          let L = saturation-right v roster ts R in
          let r = room v roster ts R in
          ap h (K.absents ts (below v roster ts R) r c k)
          ∙ absent-entry r short
          ∙ sym (K.absents long (below v roster long L) r c (λ x. k (node-down v roster (In ts) (covered v roster ts R) (same-node long-is x))))

      -- the representatives are carried through both maps
      pub shortcut-map : (c : ℕ) → h (f c) ≡ g c
      shortcut-map c =
          ⊎_elim (λ x. quotient_map (Derives v (In ts)) f own finer falls g h G H c (node-up v roster (In ts) (covered v roster ts R) x)) (no-node-at c) (node_or ts c)

      -- the two routes end with one summary
      pub shortcut-summary : sum long ≡ sum short
      shortcut-summary =
          rising_unique (sum long) (sum short) (condensed-rising (K.map_of_lem long) long) (condensed-rising (K.map_of_lem short) short)
          (same_trans (condensed-exact (K.map_of_lem long) long)
          (same_trans (same-image g long-is)
          (same_trans (same_sym (quotient_image (Derives v (In ts)) f own finer falls g h G H))
          (same_trans (same-image h (same_sym sum-sat)) (same_sym (condensed-exact (K.map_of_lem short) short))))))

      -- the saturation of the summary is no longer
      pub shortcut-shorter : length short ≤ length long
      shortcut-shorter =
          let rises = saturation-rising v (length roster) (type-below R) (sum ts) (below v roster (sum ts) sum-right) in
          omega (
            arith,
            rising-length short (map (moved f) long) rises
                (λ t m. let w = (sum-sat t).0 m in mem-map (moved f) long w.0 ((long-is w.0).1 w.1) w.2),
            length-map long (moved f),
          )

      -- ── at rest ──
      abbrev k : ℕ → ℕ
      k = label (K.map_of_lem (sum ts))

      sum_is : Same (In (sum ts)) (Image f (In ts))
      sum_is = condensed-exact (K.map_of_lem ts) ts

      again : RepresentsBy v roster (K.E (Image f (In ts))) (Image f (In ts)) k
      again = same-grouped sum_is (K.reps (sum ts) (below v roster (sum ts) sum-right) (room v roster ts R))

      -- the second map after the first is the first
      pub rest-carried : (c : ℕ) → k (f c) ≡ f c
      rest-carried c = ⊎_elim (quotient_map (In ts) f F.of_marked F.of_plain falls_in f k F again c) none-at (node_or ts c)
        where
          none-at : (Node (In ts) c → ⊥) → k (f c) ≡ f c
          none-at x =
              let r = room v roster ts R in
              let e = K.absents ts (below v roster ts R) r c x in
              ap k e ∙ absent-entry r (sum ts) ∙ sym e

      -- each node of the summary is its own representative: no saturation is needed for that
      pub rest-own : (c : ℕ) → Node (In (sum ts)) c → k c ≡ c
      rest-own c x = let n = image-node f (same-node sum_is x) in subst (λ (z : ℕ). k z ≡ z) n.2 (rest-carried n.0)

      -- and every other code is absent
      pub rest-absent : (c : ℕ) → (Node (In (sum ts)) c → ⊥) → k c ≡ absent
      rest-absent = K.absents (sum ts) (below v roster (sum ts) sum-right) (room v roster ts R)

      -- the triples are the same
      pub rest-again : sum (sum ts) ≡ sum ts
      rest-again =
          rising_unique (sum (sum ts)) (sum ts) (condensed-rising (K.map_of_lem (sum ts)) (sum ts)) (condensed-rising (K.map_of_lem ts) ts)
          (same_trans (condensed-exact (K.map_of_lem (sum ts)) (sum ts))
          (λ t. (
            λ w. let z = image-agree {G = In (sum ts)} k (λ c. c) rest-own t w in subst (λ (u : Triple). Mem u (sum ts)) (sym z.2) z.1,
            λ m. image-agree {G = In (sum ts)} (λ c. c) k (λ c x. sym (rest-own c x)) t (t, m, refl),
          )))

      -- the summary of a saturated table is saturated
      pub rest-saturated : ((t : Triple) → Derives v (In ts) t → Mem t ts) → short ≡ sum ts
      rest-saturated closed =
          rising_unique short (sum ts) (saturation-rising v (length roster) (type-below R) (sum ts) (below v roster (sum ts) sum-right)) (condensed-rising (K.map_of_lem ts) ts)
          (same_trans sum-sat (same_trans (same-image f (λ t. (closed t, λ x. given x))) (same_sym sum_is)))

  -- ── the weak summary of the strong summary ──
  module _ (ts : List Triple) (R : Right v roster ts) where
    abbrev s : ℕ → ℕ
    s = label (strong_map_of v roster ts)

    S : RepresentsBy v roster (Strong v roster (In ts)) (In ts) s
    S = strong-reps v roster ts (below v roster ts R) (room v roster ts R)

    abbrev w : ℕ → ℕ
    w = label (map_of v roster ts)

    abbrev u : ℕ → ℕ
    u = label (map_of v roster (sum strongly ts))

    W : RepresentsBy v roster (Weak v roster (In ts)) (In ts) w
    W = map-reps v roster ts (below v roster ts R) (room v roster ts R)

    U : RepresentsBy v roster (Weak v roster (Image s (In ts))) (Image s (In ts)) u
    U =
        let Q = sum-right strongly ts R in
        same-grouped weakly (condensed-exact (strong_map_of v roster ts) ts) (map-reps v roster (sum strongly ts) (below v roster (sum strongly ts) Q) (room v roster ts R))

    weak_finer : (n : ℕ) → DataNode v roster (In ts) n → Weak v roster (In ts) n (s n)
    weak_finer n x = strong_weak v roster (data_or v ts n) (S.of_plain n x)

    falls-strong : (n : ℕ) → DataNode v roster (In ts) n → s n ≤ n
    falls-strong n x = S.least n n x (strong-self v roster x)

    pub strong_then_weak : (c : ℕ) → u (s c) ≡ w c
    strong_then_weak c =
        ⊎_elim (λ x. quotient_map weakly (In ts) s S.of_marked weak_finer falls-strong w u W U c x)
        (λ x. ap u (strong-absent v roster ts (below v roster ts R) (room v roster ts R) c x)
        ∙ absent-entry weakly (room v roster ts R) (sum strongly ts)
        ∙ sym (map-absent v roster ts (below v roster ts R) (room v roster ts R) c x)) (node_or ts c)

    pub weak_of_strong : sum weakly (sum strongly ts) ≡ sum weakly ts
    weak_of_strong =
        rising_unique (sum weakly (sum strongly ts)) (sum weakly ts) (condensed-rising _ _) (condensed-rising _ _)
        (same_trans (condensed-exact (map_of v roster (sum strongly ts)) (sum strongly ts))
        (same_trans (same-image u (condensed-exact (strong_map_of v roster ts) ts))
        (same_trans (quotient_image weakly (In ts) s S.of_marked weak_finer falls-strong w u W U) (same_sym (condensed-exact (map_of v roster ts) ts)))))
