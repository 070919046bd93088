-- The nodes with both cliques in common, as groups; and once all threads are settled, the map is the strong map.
-- Assumes nothing.
use Prim.Native.Nat.{ℕ, ◌+◌, ◌<◌, ◌≤◌}
use mathlib.Core.Path.{◌≡◌, refl, sym, subst, ◌∙◌, ap}
use mathlib.Core.Logic.{◌⊎◌, inl, inr, ⊎_elim}
use mathlib.Core.Bool.{Bool, true, false, not, cond, ◌&&◌}
use mathlib.Core.List.{List, ◌++◌}
use native.Mathlib.Omega.{arith}
use native.Mathlib.Decide.{dec_lt}
use lib.Dec.{eqb, ltb}
use lib.ListN.{length, get_or, length-append, get_or-append, get_or-eq_default}
use lib.Seq.{get_or-drop, drop_at}
use borrow.Author.Tests.{eqb-true, eq-eqb, ne_eqb, not-true, ltb-true, lt-ltb}
use Rattle.model.specs.declared.Triple.{Triple}
use Rattle.model.specs.declared.Vocabulary.{Vocabulary}
use Rattle.model.specs.Codes.{absent, kind, reserved}
use Rattle.model.specs.Roster.{unmarked, is_node}
use Rattle.model.specs.Partition.{label}
use Rattle.model.specs.declared.Side.{Side}
use Rattle.model.specs.declared.Side.TheVariants.{Source as source, Target as target}
use Rattle.model.specs.Cliques.{Node, cliques}
use Rattle.model.specs.Classes.{DataNode, RepresentsBy, clique_of, strong_map_of}
use Rattle.theory.proofs.Tests.{bool_cases, and_true, and_both, or_true, or_left, or_right, not_true_false, not_both}
use Rattle.theory.proofs.Lists.{length-tabulate, tabulate-at}
use Rattle.theory.proofs.Covered.{Marked, Plain}
use Rattle.theory.specs.Tables.{In, Right}
use Rattle.theory.proofs.Weak.{data_kind}
use Rattle.theory.proofs.Strong.{Strong}
use Rattle.theory.proofs.Mapped.{node_test, test_node, node-below, Cliqued, cliqued_below, clique_or, cliques-strong, strong-cliques, strong-reps, strong-absent, length-strong-map}
use Rattle.theory.proofs.Summaries.{labels_unique}
use Rattle.theory.proofs.Accepted.{below, room, type-below, has-marked, word-no-node}
use Rattle.lists.proofs.Places.{same_default}
use Rattle.node_cliques.specs.Labels.{or_none, is_label, node_cliques}
use Rattle.thread_settling.specs.Threads.{Least, none, some, Groups, LabelsApart, Both, Threaded, Settled}
use Rattle.thread_settling.specs.Calls.{data_node, Labelled, Settling}
use Rattle.thread_settling.proofs.Threads.{settled-start, settled-end}

type-kind : (v : Vocabulary) → kind v v.instance ≡ 0
unfolding kind
type-kind v = rw (eq-eqb v.instance v.instance refl)

type-reserved : (v : Vocabulary) (s : ℕ) → s ≡ v.instance → reserved v s ≡ true
unfolding reserved
type-reserved v s e = lt-ltb (kind v s) 5 (omega (arith, ap (kind v) e, type-kind v))

pub size_of : (v : Vocabulary) (roster : List ℕ) (e : Side) (ts : List Triple) → length (node_cliques v roster e ts) ≡ length roster
unfolding node_cliques
size_of v roster e ts = length-tabulate _ 0 (length roster)

-- the labels that stand for cliques are apart from the one that stands for none
or_none_one : (v : Vocabulary) (roster : List ℕ) (x y : ℕ) → (x ≡ v.instance → ⊥) → (y ≡ v.instance → ⊥) → or_none v roster x ≡ or_none v roster y → x ≡ y
or_none_one v roster x y f g e = go (bool_cases (eqb x absent)) (bool_cases (eqb y absent))
  where
    at : (z : ℕ) → eqb z absent ≡ true → or_none v roster z ≡ v.instance
    at z h = rw h

    off : (z : ℕ) → eqb z absent ≡ false → or_none v roster z ≡ z
    off z h = rw h

    go : (eqb x absent ≡ true) ⊎ (eqb x absent ≡ false) → (eqb y absent ≡ true) ⊎ (eqb y absent ≡ false) → x ≡ y
    go (inl p) (inl q) = eqb-true _ _ p ∙ sym (eqb-true _ _ q)
    go (inl p) (inr q) = absurd (g (sym (off y q) ∙ sym e ∙ at x p))
    go (inr p) (inl q) = absurd (f (sym (off x p) ∙ e ∙ at y q))
    go (inr p) (inr q) = sym (off x p) ∙ e ∙ off y q

module _ (v : Vocabulary) (roster : List ℕ) (ts : List Triple) (R : Right v roster ts) where
  abbrev n : ℕ
  n = length roster

  abbrev clique_at : Side → ℕ → ℕ
  clique_at e c = clique_of v roster e (cliques v roster e ts) c ts

  abbrev label_at : Side → ℕ → ℕ
  label_at e c = or_none v roster (clique_at e c)

  abbrev pub groups : Groups
  groups =
      record {
        n = n;
        node = λ c. is_node ts c && unmarked roster c;
        label = λ s. ltb s n && is_label v roster s;
        A = label_at source;
        B = label_at target;
      }

  data_node_lem : (c : ℕ) → (is_node ts c && unmarked roster c) ≡ true → DataNode v roster (In ts) c
  data_node_lem c h = let w = and_true (is_node ts c) _ h in record { node = test_node ts c w.0; plain = w.1 }

  node_data : (c : ℕ) → DataNode v roster (In ts) c → (is_node ts c && unmarked roster c) ≡ true
  node_data c x = and_both (is_node ts c) _ (node_test ts c x.node) x.plain

  -- ── labels ──
  label_is : (s : ℕ) → s < n → is_label v roster s ≡ true → (ltb s n && is_label v roster s) ≡ true
  label_is s l h = and_both (ltb s n) _ (lt-ltb s n l) h

  type-label : is_label v roster v.instance ≡ true
  unfolding is_label
  type-label = or_right (not (unmarked roster v.instance)) _ (eq-eqb v.instance v.instance refl)

  marked-label : (s : ℕ) → Marked roster s → is_label v roster s ≡ true
  unfolding is_label
  marked-label s h = or_left (not (unmarked roster s)) _ (ap not h)

  clique-marked : (e : Side) (c : ℕ) → Cliqued v roster ts (below v roster ts R) (room v roster ts R) e c → Marked roster c
  clique-marked e c k = has-marked v roster ts R k.has

  clique-label : (e : Side) (c : ℕ) → Plain roster c → (ltb (label_at e c) n && is_label v roster (label_at e c)) ≡ true
  clique-label e c a = ⊎_elim none-label some-label (clique_or v roster ts (below v roster ts R) (room v roster ts R) e c a)
    where
      none-label : clique_at e c ≡ absent → (ltb (label_at e c) n && is_label v roster (label_at e c)) ≡ true
      none-label q =
          let z : label_at e c ≡ v.instance = rw (eq-eqb (clique_at e c) absent q) in
          subst (λ (s : ℕ). (ltb s n && is_label v roster s) ≡ true) (sym z) (label_is v.instance (type-below R) type-label)

      some-label : Cliqued v roster ts (below v roster ts R) (room v roster ts R) e (clique_at e c) → (ltb (label_at e c) n && is_label v roster (label_at e c)) ≡ true
      some-label k =
          let b = cliqued_below v roster ts (below v roster ts R) (room v roster ts R) e (clique_at e c) k in
          let r = room v roster ts R in
          let z : label_at e c ≡ clique_at e c = rw (ne_eqb (clique_at e c) absent (λ q. omega arith)) in
          subst (λ (s : ℕ). (ltb s n && is_label v roster s) ≡ true) (sym z) (label_is (clique_at e c) b (marked-label (clique_at e c) (clique-marked e (clique_at e c) k)))

  -- a label is marked, or the code of type, which is no node
  label-no-node : (s : ℕ) → is_label v roster s ≡ true → (is_node ts s && unmarked roster s) ≡ true → ⊥
  unfolding is_label
  label-no-node s h d =
      let x = data_node_lem s d in
      ⊎_elim (λ m. not_both x.plain (not-true _ m))
      (λ e. word-no-node v roster ts R s (type-reserved v s (eqb-true _ _ e)) x.node) (or_true (not (unmarked roster s)) _ h)

  pub sites : LabelsApart groups
  sites =
      record {
        small = room v roster ts R;
        below = λ m d. node-below n ts (below v roster ts R) m (data_node_lem m d).node;
        first = λ m d. clique-label source m (data_node_lem m d).plain;
        second = λ m d. clique-label target m (data_node_lem m d).plain;
        label_below = λ s h. ltb-true s n (and_true (ltb s n) _ h).0;
        apart = λ s h d. label-no-node s (and_true (ltb s n) _ h).1 d;
      }

  -- no clique is named by the code of type
  clique-no-type : (e : Side) (c : ℕ) → Plain roster c → clique_at e c ≡ v.instance → ⊥
  clique-no-type e c a q =
      ⊎_elim (λ z. omega (arith, q, z, type-below R, room v roster ts R))
      (λ k. let d = data_kind v k.has.by k.has.data_triple in omega (arith, type-kind v, ap (kind v) k.has.property, ap (kind v) q))
      (clique_or v roster ts (below v roster ts R) (room v roster ts R) e c a)

  same_clique : (e : Side) (c d : ℕ) → Plain roster c → Plain roster d → label_at e c ≡ label_at e d → clique_at e c ≡ clique_at e d
  same_clique e c d a b q = or_none_one v roster (clique_at e c) (clique_at e d) (clique-no-type e c a) (clique-no-type e d b) q

  -- ── before the first node is threaded ──
  module _ (map₀ : List ℕ) (size : length map₀ ≡ n) (own : (c : ℕ) → Node (In ts) c → get_or map₀ c 0 ≡ c)
      (silent : (c : ℕ) → c < n → (Node (In ts) c → ⊥) → get_or map₀ c 0 ≡ absent) where
    opened_test : (c : ℕ) → c < n → not (eqb (get_or map₀ c 0) absent) ≡ is_node ts c
    opened_test c l = ⊎_elim yes-node no_node (bool_cases (is_node ts c))
      where
        yes-node : is_node ts c ≡ true → not (eqb (get_or map₀ c 0) absent) ≡ is_node ts c
        yes-node h = ap not (ne_eqb (get_or map₀ c 0) absent (λ q. omega (arith, own c (test_node ts c h), room v roster ts R))) ∙ sym h

        no_node : is_node ts c ≡ false → not (eqb (get_or map₀ c 0) absent) ≡ is_node ts c
        no_node h = ap not (eq-eqb (get_or map₀ c 0) absent (silent c l (λ x. not_both (node_test ts c x) h))) ∙ sym h

    node-is : (c : ℕ) → c < n → (is_node ts c && unmarked roster c) ≡ data_node roster map₀ c
    unfolding data_node
    node-is c l = ap (λ (b : Bool). b && unmarked roster c) (sym (opened_test c l))

    entry_of : (e : Side) (c : ℕ) → c < n → get_or (node_cliques v roster e ts) c 0 ≡ cond (is_label v roster c) absent (label_at e c)
    unfolding node_cliques
    entry_of e c l = tabulate-at (λ x. cond (is_label v roster x) absent (label_at e x)) 0 0 n c l ∙ ap (λ (x : ℕ). cond (is_label v roster x) absent (label_at e x)) (omega arith)

    label-entry : (e : Side) (c : ℕ) → c < n → is_label v roster c ≡ true → get_or (node_cliques v roster e ts) c 0 ≡ absent
    label-entry e c l h = entry_of e c l ∙ ap (λ (b : Bool). cond b absent (label_at e c)) h

    node_entry_of : (e : Side) (c : ℕ) → (is_node ts c && unmarked roster c) ≡ true → get_or (node_cliques v roster e ts) c 0 ≡ label_at e c
    node_entry_of e c d =
        let no_label : is_label v roster c ≡ false = not_true_false (is_label v roster c) (λ h. label-no-node c h d) in
        entry_of e c (node-below n ts (below v roster ts R) c (data_node_lem c d).node) ∙ ap (λ (b : Bool). cond b absent (label_at e c)) no_label

    module _ (work : List ℕ) (is : work ≡ node_cliques v roster source ts ++ node_cliques v roster target ts) where
      front : (c : ℕ) → c < n → get_or work c 0 ≡ get_or (node_cliques v roster source ts) c 0
      front c l = ap (λ (w : List ℕ). get_or w c 0) is ∙ get_or-append (node_cliques v roster source ts) _ 0 c (omega (arith, size_of v roster source ts))

      behind : (c : ℕ) → get_or work (n + c) 0 ≡ get_or (node_cliques v roster target ts) c 0
      behind c =
          let w = node_cliques v roster source ts ++ node_cliques v roster target ts in
          ap (λ (w : List ℕ). get_or w (n + c) 0) is ∙ sym (get_or-drop n w c 0) ∙ ap (λ (k : List ℕ). get_or k c 0) (drop_at (node_cliques v roster source ts) _ n (size_of v roster source ts))

      label-low : (s : ℕ) → (ltb s n && is_label v roster s) ≡ true → s < n
      label-low s h = ltb-true s n (and_true (ltb s n) _ h).0

      node-low : (c : ℕ) → (is_node ts c && unmarked roster c) ≡ true → c < n
      node-low c d = node-below n ts (below v roster ts R) c (data_node_lem c d).node

      pub labelled : Labelled groups roster map₀ work
      labelled =
          record {
            sites = sites;
            roster_size = refl;
            map_size = size;
            work_size = ap {B = ℕ} (λ (w : List ℕ). length w) is ∙ length-append (node_cliques v roster source ts) _ ∙ (λ j. (size_of v roster source ts) j + (size_of v roster target ts) j);
            nodes = node-is;
            firsts = λ m d. front m (node-low m d) ∙ node_entry_of source m d;
            seconds = λ m d. behind m ∙ node_entry_of target m d;
            heads = λ s h. front s (label-low s h) ∙ label-entry source s (label-low s h) (and_true (ltb s n) _ h).1;
            stamps = λ s h. behind s ∙ label-entry target s (label-low s h) (and_true (ltb s n) _ h).1;
          }

      -- what threading leaves is ready to be settled
      pub threaded-settling : (map work' : List ℕ) → Threaded groups 0 map₀ map work work' → Settling v groups map₀ roster map work' 0
      threaded-settling map work' T =
          record {
            sites = sites;
            roster_size = refl;
            map_size = size;
            label_tests = λ s l. ap (λ (b : Bool). b && is_label v roster s) (lt-ltb s n l);
            state = settled-start groups sites map₀ map work work' T labelled.work_size labelled.seconds labelled.stamps;
          }

  -- ── all threads are settled ──
  module _ (map₀ map work : List ℕ) (size : length map₀ ≡ n) (own : (c : ℕ) → Node (In ts) c → get_or map₀ c 0 ≡ c)
      (silent : (c : ℕ) → c < n → (Node (In ts) c → ⊥) → get_or map₀ c 0 ≡ absent) (S : Settled groups n map₀ map work) where
    entry : (c : ℕ) → c < n → label map c ≡ get_or map c 0
    entry c l = same_default map c absent 0 (omega (arith, S.map_size, size))

    node-entry : (c : ℕ) → Node (In ts) c → label map c ≡ get_or map c 0
    node-entry c x = entry c (node-below n ts (below v roster ts R) c x)

    both_own : (c : ℕ) → DataNode v roster (In ts) c → Both groups (label_at source c) (label_at target c) c
    both_own c x = record { node = node_data c x; first = refl; second = refl }

    settled_at : (c : ℕ) → DataNode v roster (In ts) c → Least (Both groups (label_at source c) (label_at target c)) (get_or map c 0)
    settled_at c x = settled-end groups sites map₀ map work S c (node_data c x)

    joined : (c d : ℕ) → DataNode v roster (In ts) c → Both groups (label_at source c) (label_at target c) d → Strong v roster (In ts) c d
    joined c d x p =
        let y = data_node_lem d p.node in
        cliques-strong v roster ts (below v roster ts R) (room v roster ts R) c d x y (λ e. at e y.plain)
      where
        at : (e : Side) → Plain roster d → clique_at e c ≡ clique_at e d
        at source b = same_clique source c d x.plain b (sym p.first)
        at target b = same_clique target c d x.plain b (sym p.second)

    parted : (c d : ℕ) → Strong v roster (In ts) c d → Both groups (label_at source c) (label_at target c) d
    parted c d w =
        let q = strong-cliques v roster ts (below v roster ts R) (room v roster ts R) w in
        record { node = node_data d w.two; first = ap (or_none v roster) (sym (q source)); second = ap (or_none v roster) (sym (q target)) }

    reps : RepresentsBy v roster (Strong v roster (In ts)) (In ts) (label map)
    reps =
        record {
          of_marked = λ c x m. node-entry c x ∙ S.rest c (λ d. not_both (data_node_lem c d).plain m) ∙ own c x;
          of_plain = λ c x. subst (Strong v roster (In ts) c) (sym (node-entry c x.node)) (data_rep c x (settled_at c x));
          least = λ c d x w. subst (λ (z : ℕ). z ≤ d) (sym (node-entry c x.node)) (least_rep c d w (settled_at c x));
        }
      where
        data_rep : (c : ℕ) (x : DataNode v roster (In ts) c) → Least (Both groups (label_at source c) (label_at target c)) (get_or map c 0) → Strong v roster (In ts) c (get_or map c 0)
        data_rep c x (none e f) = absurd (f c (both_own c x))
        data_rep c x (some p f) = joined c (get_or map c 0) x p

        least_rep : (c d : ℕ) → Strong v roster (In ts) c d → Least (Both groups (label_at source c) (label_at target c)) (get_or map c 0) → get_or map c 0 ≤ d
        least_rep c d w (none e f) = absurd (f d (parted c d w))
        least_rep c d w (some p f) = f d (parted c d w)

    no_node : (c : ℕ) → (Node (In ts) c → ⊥) → Dec (c < n) → label map c ≡ absent
    no_node c f (yes l) = entry c l ∙ S.rest c (λ d. f (data_node_lem c d).node) ∙ silent c l f
    no_node c f (no l) = get_or-eq_default map absent (omega (arith, S.map_size, size))

    pub map-end : map ≡ strong_map_of v roster ts
    map-end =
        let b = below v roster ts R in
        let r = room v roster ts R in
        labels_unique v roster ts map (strong_map_of v roster ts) (S.map_size ∙ size ∙ sym (length-strong-map v roster ts)) reps (strong-reps v roster ts b r)
        (λ c f. no_node c f (dec_lt c n)) (strong-absent v roster ts b r)
