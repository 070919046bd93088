-- The labels of the data nodes, code by code, and the list at the end.
-- Assumes nothing.
use Prim.Native.Nat.{ℕ, ◌+◌, ◌/◌, ◌<◌, ◌≤◌}
use mathlib.Core.Path.{◌≡◌, refl, sym, ◌∙◌, ap, subst}
use mathlib.Core.Logic.{◌⊎◌, inl, inr, ⊎_elim}
use mathlib.Core.Bool.{Bool, true, false, cond}
use mathlib.Core.List.{List}
use native.Mathlib.Omega.{arith}
use native.Mathlib.Decide.{ℕ_discrete}
use lib.ListN.{length, get_or, set, length-set}
use lib.Seq.{ext_get_or, get_or-set_same, get_or-set_other}
use borrow.Author.Tests.{eq-eqb, ne_eqb}
use Rattle.model.specs.declared.Triple.{Triple}
use Rattle.model.specs.declared.Vocabulary.{Vocabulary}
use Rattle.model.specs.Codes.{absent}
use Rattle.model.specs.Triples.{triples}
use Rattle.model.specs.Roster.{unmarked}
use Rattle.model.specs.declared.Side.{Side}
use Rattle.model.specs.Cliques.{Has, cliques}
use Rattle.model.specs.Classes.{clique_of}
use Rattle.theory.proofs.Tests.{not_both, bool_cases}
use Rattle.theory.proofs.Lists.{length-tabulate, tabulate-at}
use Rattle.theory.specs.Tables.{In, Right}
use Rattle.theory.proofs.Mapped.{has-label, has_named, none-label}
use Rattle.theory.proofs.Accepted.{room, below}
use Rattle.union_find.specs.Roots.{Forest, root}
use Rattle.union_find.specs.Calls.{Active, RootFound}
use Rattle.union_find.proofs.Laws.{root-le}
use Rattle.property_groups.specs.Grouping.{Grouping, Grouped}
use Rattle.property_groups.proofs.Entries.{forest-same, roots-same}
use Rattle.property_groups.proofs.Ends.{root-label, all-triples}
use Rattle.node_cliques.specs.Labels.{or_none, is_label, node_cliques}
use Rattle.node_cliques.specs.Labelling.{EntriesFilled, FirstProperties, label_of, NodesLabelled, Labelling}
use Rattle.node_cliques.proofs.Fills.{other-plain}

-- ── one code ──
label-absent : (none : ℕ) (l : List ℕ) (c : ℕ) → get_or l c 0 ≡ absent → none ≡ label_of none l c
unfolding label_of
label-absent none l c q = rw (eq-eqb (get_or l c 0) absent q)

label-present : (none : ℕ) (l : List ℕ) (c : ℕ) → (get_or l c 0 ≡ absent → ⊥) → root l (get_or l c 0) ≡ label_of none l c
unfolding label_of
label-present none l c q = rw (ne_eqb (get_or l c 0) absent q)

module _ (A : ℕ → Bool) (roster : List ℕ) (none : ℕ) (l₀ l : List ℕ) (i : ℕ) (L : Labelling A roster none l₀ l i) (h : i < length roster) where
  S : NodesLabelled A roster none l₀ l i
  S = L.state

  pub node-inside : i < length l
  node-inside = omega (arith, S.size, L.start.size)

  -- a marked code
  pub label-marked : unmarked roster i ≡ false → Labelling A roster none l₀ l (i + 1)
  label-marked m =
      record {
        start = L.start;
        state = record {
          size = S.size;
          forest = S.forest;
          roots = S.roots;
          done = λ c b u. let n : c ≡ i → ⊥ = λ q. not_both (subst (λ (z : ℕ). unmarked roster z ≡ true) q u) m in S.done c (omega arith) u;
          rest = λ c b u. S.rest c (omega arith) u;
        };
      }

  module _ (u : unmarked roster i ≡ true) where
    outside : (x : ℕ) → A x ≡ true → x ≡ i → ⊥
    outside x a q = not_both u (subst (λ (z : ℕ). unmarked roster z ≡ false) q (L.start.marked x a))

    entry : get_or l i 0 ≡ get_or l₀ i 0
    entry = S.rest i (omega arith) u

    -- an unmarked code whose entry becomes its label, in a list with the same roots
    module _ (l₁ : List ℕ) (size : length l₁ ≡ length l) (forest : Forest A l₁) (roots : (x : ℕ) → A x ≡ true → root l₁ x ≡ root l x)
        (others : (c : ℕ) → A c ≡ false → get_or l₁ c 0 ≡ get_or l c 0) (x : ℕ) (is : x ≡ label_of none l₀ i) where
      plain-same : (c : ℕ) → unmarked roster c ≡ true → get_or l₁ c 0 ≡ get_or l c 0
      plain-same c p = ⊎_elim (λ a. absurd (not_both p (L.start.marked c a))) (λ a. others c a) (bool_cases (A c))

      same-on : (y : ℕ) → A y ≡ true → get_or (set l₁ i x) y 0 ≡ get_or l₁ y 0
      same-on y a = get_or-set_other l₁ i y x 0 (outside y a)

      label-set : Labelling A roster none l₀ (set l₁ i x) (i + 1)
      label-set =
          record {
            start = L.start;
            state = record {
              size = length-set l₁ i x ∙ size ∙ S.size;
              forest = forest-same A l₁ (set l₁ i x) forest same-on (length-set l₁ i x);
              roots = λ y a. roots-same A l₁ (set l₁ i x) forest same-on y a ∙ roots y a ∙ S.roots y a;
              done = λ c b p. at c b p (ℕ_discrete c i);
              rest = λ c b p. get_or-set_other l₁ i c x 0 (omega arith) ∙ plain-same c p ∙ S.rest c (omega arith) p;
            };
          }
        where
          at : (c : ℕ) → c < i + 1 → unmarked roster c ≡ true → Dec (c ≡ i) → get_or (set l₁ i x) c 0 ≡ label_of none l₀ c
          at c b p (yes q) =
              ap (λ (z : ℕ). get_or (set l₁ i x) z 0) q ∙ get_or-set_same l₁ i x 0 (omega (arith, node-inside)) ∙ is ∙ ap (label_of none l₀) (sym q)
          at c b p (no q) = get_or-set_other l₁ i c x 0 q ∙ plain-same c p ∙ S.done c (omega arith) p

    -- no property
    pub label-none : get_or l i 0 ≡ absent → Labelling A roster none l₀ (set l i none) (i + 1)
    label-none e = label-set l refl S.forest (λ x a. refl) (λ c a. refl) none (label-absent none l₀ i (sym entry ∙ e))

    -- the property of the code, and its root
    module _ (f : get_or l i 0 ≡ absent → ⊥) (p : ℕ) (q : p ≡ get_or l i 0) where
      property : A p ≡ true
      property =
          ⊎_elim (λ e. absurd (f (entry ∙ e))) (λ a. ap A (q ∙ entry) ∙ a) (L.start.held i (omega (arith, L.start.size)) u)

      pub find_ready : Active l p
      find_ready = record { A = A; forest = S.forest; active = property }

      module _ (l₁ : List ℕ) (r : ℕ) (F : RootFound l l₁ p r) where
        pub root-small : r < absent
        root-small = omega (arith, F.result, root-le l p, S.forest.inside p property, S.forest.size)

        pub label-root : (x : ℕ) → x ≡ r → Labelling A roster none l₀ (set l₁ i x) (i + 1)
        label-root x e =
            let K = F.keeps A S.forest property in
            label-set l₁ K.len K.forest K.roots K.others x
            (e ∙ F.result ∙ S.roots p property ∙ ap (root l₀) (q ∙ entry) ∙ label-present none l₀ i (λ z. f (entry ∙ z)))

pub labelling-end : (A : ℕ → Bool) (roster : List ℕ) (none : ℕ) (l₀ l : List ℕ) (i : ℕ) → Labelling A roster none l₀ l i → i ≤ length roster → length roster ≤ i
    → NodesLabelled A roster none l₀ l (length roster)
labelling-end A roster none l₀ l i L a b = let e : i ≡ length roster = omega arith in subst (λ (z : ℕ). NodesLabelled A roster none l₀ l z) e L.state

-- ── the whole list ──
module _ (v : Vocabulary) (table roster : List ℕ) (e : Side) (R : Right v roster (triples table)) (l : List ℕ) (g : Grouped v table roster e (length table / 3) l) where
  abbrev ts : List Triple
  ts = triples table

  abbrev C : List ℕ
  C = cliques v roster e ts

  G : Grouping v roster e g.active (In ts) (In ts) l
  G = all-triples v table roster e l g

  properties : FirstProperties g.active roster l
  properties =
      record {
        size = G.size;
        forest = G.forest;
        marked = G.marked;
        held = λ c h u. ⊎_elim (λ z. inl z) (λ x. inr (G.first c (get_or l c 0) x).1) (G.held c h u);
      }

  module _ (l₁ : List ℕ) (N : (A : ℕ → Bool) → FirstProperties A roster l → NodesLabelled A roster v.instance l l₁ (length roster)) where
    M : NodesLabelled g.active roster v.instance l l₁ (length roster)
    M = N g.active properties

    -- the entry of an unmarked code is its clique, or the code of type
    final : (c : ℕ) → c < length roster → unmarked roster c ≡ true → get_or l₁ c 0 ≡ or_none v roster (clique_of v roster e C c ts)
    final c b u = M.done c b u ∙ go (G.held c (omega (arith, G.size)) u)
      where
        at_none : (x : ℕ) → x ≡ absent → or_none v roster x ≡ v.instance
        at_none x q = rw (eq-eqb x absent q)

        at_some : (x : ℕ) → (x ≡ absent → ⊥) → or_none v roster x ≡ x
        at_some x q = rw (ne_eqb x absent q)

        -- a node with a property has an entry
        none_here : get_or l c 0 ≡ absent → (p : ℕ) → Has v roster (In ts) e c p → ⊥
        none_here z p x = omega (arith, z, G.forest.inside (get_or l c 0) (G.first c p x).1, G.forest.size)

        go : (get_or l c 0 ≡ absent) ⊎ Has v roster (In ts) e c (get_or l c 0) → label_of v.instance l c ≡ or_none v roster (clique_of v roster e C c ts)
        go (inl z) =
            let k : clique_of v roster e C c ts ≡ absent = none-label v roster ts (below v roster ts R) (room v roster ts R) e c u (none_here z) in
            sym (label-absent v.instance l c z) ∙ sym (at_none (clique_of v roster e C c ts) k)
        go (inr x) =
            let p = get_or l c 0 in
            let a = (G.first c p x).0 in
            let k = has_named v roster ts (below v roster ts R) (room v roster ts R) e x in
            sym (label-present v.instance l c (λ z. none_here z p x)) ∙ root-label v roster e ts R g.active l G p a
            ∙ sym (has-label v roster ts (below v roster ts R) (room v roster ts R) e x) ∙ sym (at_some (clique_of v roster e C c ts) k)

    -- the list with the labels' entries absent
    module _ (l' : List ℕ) (f : EntriesFilled (is_label v roster) absent l₁ l' (length l₁)) where
      abbrev value : ℕ → ℕ
      value c = cond (is_label v roster c) absent (or_none v roster (clique_of v roster e C c ts))

      at_code : (c : ℕ) → c < length roster → get_or l' c 0 ≡ value c
      at_code c b = go (bool_cases (is_label v roster c))
        where
          go : (is_label v roster c ≡ true) ⊎ (is_label v roster c ≡ false) → get_or l' c 0 ≡ value c
          go (inl k) = rw k (f.passed c (omega (arith, M.size, G.size)) k)
          go (inr k) = rw k (f.rest c k ∙ final c b (other-plain roster c v k))

      pub labelled-end : l' ≡ node_cliques v roster e ts
      unfolding node_cliques
      labelled-end =
          let n : length l' ≡ length roster = f.size ∙ M.size ∙ G.size in
          ext_get_or 0 l' _ (n ∙ sym (length-tabulate value 0 (length roster)))
          (λ c b. let z : c ≡ 0 + c = omega arith in at_code c (omega (arith, n)) ∙ ap value z ∙ sym (tabulate-at value 0 0 (length roster) c (omega (arith, n))))
