-- The flattened classes are the map of the table.
-- Assumes nothing.
use Prim.Native.Nat.{ℕ, ◌<◌}
use mathlib.Core.Path.{◌≡◌, refl, sym, ◌∙◌, subst}
use mathlib.Core.Logic.{⊎_elim}
use mathlib.Core.Bool.{false}
use mathlib.Core.List.{List}
use native.Mathlib.Omega.{arith}
use native.Mathlib.Decide.{dec_lt}
use lib.ListN.{length, get_or-eq_default}
use Rattle.model.specs.declared.Triple.{Triple}
use Rattle.model.specs.declared.Vocabulary.{Vocabulary}
use Rattle.model.specs.Codes.{absent}
use Rattle.model.specs.Roster.{is_node}
use Rattle.model.specs.Partition.{label}
use Rattle.model.specs.Cliques.{Node}
use Rattle.model.specs.Classes.{map_of}
use Rattle.theory.proofs.Tests.{not_both, not_true_false}
use Rattle.theory.specs.Tables.{In, Weak, by_side, by_none, itself, turned, chained, Right}
use Rattle.theory.proofs.Weak.{weak_nodes, Reps}
use Rattle.theory.proofs.Mapped.{node_test, test_node}
use Rattle.theory.proofs.Summaries.{map_unique}
use Rattle.theory.proofs.Accepted.{room, below}
use Rattle.union_find.specs.Roots.{root}
use Rattle.union_find.specs.Calls.{Apart, Flattened}
use Rattle.union_find.proofs.Laws.{root-le}
use Rattle.lists.proofs.Places.{same_default}
use Rattle.node_links.specs.Linking.{Alike}
use Rattle.node_links.specs.Calls.{Complete}

module _ (v : Vocabulary) where
  module _ (roster : List ℕ) (ts : List Triple) (R : Right v roster ts) (l l₁ : List ℕ) (c : Complete v roster ts l) (f : Flattened l l₁) where
    -- weakly equivalent nodes have one root
    one-root : (n m : ℕ) → Weak v roster (In ts) n m → root l n ≡ root l m
    one-root n m (by_side {e} {p = p} x y) = c.sides e n m p x y
    one-root n m (by_none x y g h) = c.bares n m (record { node = x; none = g }) (record { node = y; none = h })
    one-root n m (itself x) = refl
    one-root n m (turned w) = sym (one-root m n w)
    one-root n m (chained {k} u w) = one-root n k u ∙ one-root k m w

    apart : Apart (is_node ts) l
    apart = record { forest = c.sound.forest; rest = λ x h a. omega (arith, c.sound.none x h a, c.sound.forest.size) }

    final : (x : ℕ) → Node (In ts) x → label l₁ x ≡ root l x
    final x n =
        let a = node_test ts x n in
        let h : x < length l₁ = omega (arith, f.len, c.sound.forest.inside x a) in
        same_default l₁ x absent 0 h ∙ f.roots (is_node ts) apart x a

    alike : (x : ℕ) → Node (In ts) x → Alike v roster ts x (label l₁ x)
    alike x n = subst (Alike v roster ts x) (sym (final x n)) (c.sound.sound x (node_test ts x n))

    silent : (x : ℕ) → is_node ts x ≡ false → Dec (x < length l₁) → label l₁ x ≡ absent
    silent x a (yes h) = same_default l₁ x absent 0 h ∙ f.others (is_node ts) apart x a ∙ c.sound.none x (omega (arith, f.len)) a
    silent x a (no n) = get_or-eq_default l₁ absent (omega arith)

    reps : Reps v roster (In ts) (label l₁)
    reps = record {
      of_marked = λ n x m. ⊎_elim (λ e. sym e) (λ w. absurd (not_both (weak_nodes v roster w).0.plain m)) (alike n x);
      of_plain = λ n x. ⊎_elim (λ e. subst (Weak v roster (In ts) n) e (itself x)) (λ w. w) (alike n x.node);
      least = λ n m x w. omega (arith, final n x.node, one-root n m w, root-le l m);
    }

    pub map-end : l₁ ≡ map_of v roster ts
    map-end =
        map_unique v roster ts (below v roster ts R) (room v roster ts R) l₁ (f.len ∙ c.sound.size) reps
        (λ x k. silent x (not_true_false (is_node ts x) (λ a. k (test_node ts x a))) (dec_lt x (length l₁)))
