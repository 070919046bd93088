-- Entries of a list: lists that agree on a forest, and the loops that make entries absent.
-- Assumes nothing.
use Prim.Native.Nat.{ℕ, ◌+◌, ◌<◌}
use mathlib.Core.Path.{◌≡◌, refl, sym, ◌∙◌, ap}
use mathlib.Core.Bool.{Bool, true, false}
use mathlib.Core.List.{List}
use native.Mathlib.Omega.{arith}
use lib.ListN.{length, get_or, set, length-set}
use lib.Seq.{get_or-set_other}
use borrow.Author.Tests.{eq-eqb, ne_eqb}
use Rattle.model.specs.Codes.{absent}
use Rattle.model.specs.Roster.{unmarked}
use Rattle.theory.proofs.Tests.{not_both}
use Rattle.union_find.specs.Roots.{Forest, root}
use Rattle.union_find.proofs.Laws.{by_parents, root_top, root-up, set_at}
use Rattle.property_groups.specs.Grouping.{NodesCleared}

-- ── a list with the same entries on a forest ──
module _ (A : ℕ → Bool) (l l' : List ℕ) (f : Forest A l) (same : (y : ℕ) → A y ≡ true → get_or l' y 0 ≡ get_or l y 0) where
  pub forest-same : length l' ≡ length l → Forest A l'
  forest-same len = record {
    size = omega (arith, f.size);
    inside = λ x a. omega (arith, f.inside x a);
    falls = λ x a. omega (arith, same x a, f.falls x a);
    links = λ x a. ap A (same x a) ∙ f.links x a;
  }

  pub roots-same : (y : ℕ) → A y ≡ true → root l' y ≡ root l y
  roots-same = by_parents l (λ y. A y ≡ true → root l' y ≡ root l y)
      (λ y h a. root_top l' y (omega (arith, same y a)) ∙ sym (root_top l y h))
      (λ y h k a. root-up l' y (omega (arith, same y a)) ∙ ap (root l') (same y a) ∙ k (f.links y a) ∙ sym (root-up l y h))

-- ── the entries of unmarked codes absent ──
module _ (roster : List ℕ) where
  plain : (i : ℕ) → get_or roster i 0 ≡ 0 → unmarked roster i ≡ true
  unfolding unmarked
  plain i h = eq-eqb (get_or roster i 0) 0 h

  other : (i : ℕ) → (get_or roster i 0 ≡ 0 → ⊥) → unmarked roster i ≡ false
  unfolding unmarked
  other i h = ne_eqb (get_or roster i 0) 0 h

  module _ (l₀ l : List ℕ) (i : ℕ) (d : NodesCleared roster l₀ l i) where
    pub cleared-node : i < length l → get_or roster i 0 ≡ 0 → (l' : List ℕ) → l' ≡ set l i absent → NodesCleared roster l₀ l' (i + 1)
    cleared-node h u l' e = rw e (record {
      size = length-set l i absent ∙ d.size;
      nodes = λ x. set_at l i absent h (λ x z. x < i + 1 → unmarked roster x ≡ true → z ≡ absent) x (λ b v. refl) (λ n b v. d.nodes x (omega arith) v);
      rest = λ x m. get_or-set_other l i x absent 0 (λ q. not_both (plain i u) (ap (unmarked roster) (sym q) ∙ m)) ∙ d.rest x m;
    })

    pub cleared-marked : (get_or roster i 0 ≡ 0 → ⊥) → (l' : List ℕ) → l' ≡ l → NodesCleared roster l₀ l' (i + 1)
    cleared-marked u l' e = rw e (record {
      size = d.size;
      nodes = λ x b v. let n : x ≡ i → ⊥ = λ q. not_both v (ap (unmarked roster) q ∙ other i u) in d.nodes x (omega arith) v;
      rest = d.rest;
    })
