-- The list after all triples, its nodes cleared and its forest flattened, is the clique list.
-- Assumes nothing.
use Prim.Native.Nat.{ℕ, ◌/◌, ◌<◌, ◌≤◌}
use mathlib.Core.Path.{◌≡◌, sym, ◌∙◌, subst}
use mathlib.Core.Logic.{⊎_elim}
use mathlib.Core.Bool.{Bool, true, false}
use mathlib.Core.List.{List}
use native.Mathlib.Omega.{arith}
use native.Mathlib.Decide.{dec_lt}
use native.Mathlib.Nat.{le_antisymm}
use lib.Seq.{ext_get_or}
use lib.ListN.{length, get_or, get_or-eq_default}
use Rattle.model.specs.declared.Triple.{Triple}
use Rattle.model.specs.declared.Vocabulary.{Vocabulary}
use Rattle.model.specs.Codes.{absent}
use Rattle.model.specs.Triples.{triples}
use Rattle.model.specs.Partition.{label}
use Rattle.model.specs.declared.Side.{Side}
use Rattle.model.specs.Cliques.{Clique, shared, linked, cliques}
use Rattle.theory.proofs.Tests.{bool_cases, not_both}
use Rattle.theory.proofs.Covered.{by-mark}
use Rattle.theory.specs.Tables.{In, Right}
use Rattle.theory.proofs.Weak.{clique_sym}
use Rattle.theory.proofs.Mapped.{Cliqued, clique-labels, clique-agrees, clique_cliqued, length-cliques}
use Rattle.theory.proofs.Accepted.{room, below}
use Rattle.lists.proofs.Places.{triples-table}
use Rattle.union_find.specs.Roots.{Forest, root}
use Rattle.union_find.specs.Calls.{Apart, Flattened}
use Rattle.union_find.proofs.Laws.{root-le}
use Rattle.property_groups.specs.Grouping.{Grouping, Grouped, NodesCleared}
use Rattle.lists.proofs.Places.{same_default}
use Rattle.property_groups.proofs.Entries.{forest-same, roots-same}

-- ── the roots ──
module _ (v : Vocabulary) (roster : List ℕ) (e : Side) (ts : List Triple) (R : Right v roster ts) (A : ℕ → Bool) (l : List ℕ) (b : Grouping v roster e A (In ts) (In ts) l) where
  roots-agree : {x y : ℕ} → Clique v roster (In ts) e x y → root l x ≡ root l y
  roots-agree {x} {y} (shared s) = sym (b.first s.node x s.one).2 ∙ (b.first s.node y s.two).2
  roots-agree (linked k m) = roots-agree k ∙ roots-agree m

  -- the root of a property is the smallest property of its clique
  pub root-label : (p : ℕ) → A p ≡ true → root l p ≡ label (cliques v roster e ts) p
  root-label p a =
      let bl = below v roster ts R in
      let rm = room v roster ts R in
      let C = clique-labels v roster ts bl rm e in
      let k = clique_cliqued v roster ts bl rm e (clique_sym v roster (b.sound p a)) in
      let j = clique_cliqued v roster ts bl rm e (b.sound p a) in
      let n = label (cliques v roster e ts) p in
      let low : root l p ≤ n = subst (λ (z : ℕ). z ≤ n) (sym (roots-agree (C.related p k))) (root-le l n) in
      let high : n ≤ root l p = subst (λ (z : ℕ). z ≤ root l p) (sym (clique-agrees v roster ts bl rm e (b.sound p a))) (C.low (root l p) j) in
      le_antisymm low high

module _ (v : Vocabulary) where
  module _ (roster : List ℕ) (e : Side) (ts : List Triple) (R : Right v roster ts) (A : ℕ → Bool) (l l₁ l₂ : List ℕ) (b : Grouping v roster e A (In ts) (In ts) l)
      (c : NodesCleared roster l l₁ (length l)) (f : Flattened l₁ l₂) where
    abbrev Active : ℕ → Type 0
    Active = Cliqued v roster ts (below v roster ts R) (room v roster ts R) e

    -- ── the nodes are cleared ──
    same-on : (y : ℕ) → A y ≡ true → get_or l₁ y 0 ≡ get_or l y 0
    same-on y a = c.rest y (b.marked y a)

    forest : Forest A l₁
    forest = forest-same A l l₁ b.forest same-on c.size

    empty : (x : ℕ) → x < length l₁ → A x ≡ false → get_or l₁ x 0 ≡ absent
    empty x h a = ⊎_elim (λ m. c.rest x m ∙ b.none x (omega (arith, c.size)) m a) (λ u. c.nodes x (omega (arith, c.size)) u) (by-mark roster x)

    apart : Apart A l₁
    apart = record { forest = forest; rest = λ x h a. omega (arith, empty x h a, forest.size) }

    -- ── the labels ──
    seen : (x : ℕ) → Active x → A x ≡ true
    seen x k = (b.first k.node x k.has).0

    final : (x : ℕ) → A x ≡ true → label l₂ x ≡ root l x
    final x a =
        let h : x < length l₂ = omega (arith, f.len, forest.inside x a) in
        same_default l₂ x absent 0 h ∙ f.roots A apart x a ∙ roots-same A l l₁ b.forest same-on x a

    silent : (x : ℕ) → A x ≡ false → Dec (x < length l₂) → label l₂ x ≡ absent
    silent x a (yes h) = same_default l₂ x absent 0 h ∙ f.others A apart x a ∙ empty x (omega (arith, f.len)) a
    silent x a (no n) = get_or-eq_default l₂ absent (omega arith)

    all-labels : l₂ ≡ cliques v roster e ts
    all-labels =
        let n : length l₂ ≡ length (cliques v roster e ts) = f.len ∙ c.size ∙ b.size ∙ sym (length-cliques v roster e ts) in
        ext_get_or absent l₂ (cliques v roster e ts) n
        (λ x h. ⊎_elim (λ (a : A x ≡ true). final x a ∙ root-label v roster e ts R A l b x a)
        (λ (a : A x ≡ false).
        silent x a (dec_lt x (length l₂))
        ∙ sym ((clique-labels v roster ts (below v roster ts R) (room v roster ts R) e).silent x (λ (k : Active x). not_both (seen x k) a))) (bool_cases (A x)))

  -- what is grouped after all triples, of the table's triples
  pub all-triples : (table roster : List ℕ) (e : Side) (l : List ℕ) (g : Grouped v table roster e (length table / 3) l) → Grouping v roster e g.active (In (triples table)) (In (triples table)) l
  all-triples table roster e l g = subst (λ (ts : List Triple). Grouping v roster e g.active (In ts) (In ts) l) (sym (triples-table table)) g.state

  pub grouped-end : (table roster : List ℕ) (e : Side) (l l₁ l₂ : List ℕ) → Right v roster (triples table) → Grouped v table roster e (length table / 3) l
      → NodesCleared roster l l₁ (length l) → Flattened l₁ l₂ → l₂ ≡ cliques v roster e (triples table)
  grouped-end table roster e l l₁ l₂ R g c f =
      all-labels roster e (triples table) R g.active l l₁ l₂ (all-triples table roster e l g) c f
