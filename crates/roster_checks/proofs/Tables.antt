-- Loops over the triples of a table.
-- Assumes nothing.
use Prim.Native.Nat.{ℕ, ◌<◌, ◌≤◌, ◌/◌}
use mathlib.Core.Path.{◌≡◌, sym, ◌∙◌, ap, subst}
use mathlib.Core.Bool.{Bool, true, false, not}
use mathlib.Core.List.{List, Memᴰ as Mem}
use native.Mathlib.Omega.{arith}
use lib.ListN.{length}
use Rattle.model.specs.declared.Triple.{Triple}
use Rattle.model.specs.declared.Vocabulary.{Vocabulary}
use Rattle.model.specs.Triples.{triples}
use Rattle.model.specs.Roster.{covers_triple, covers}
use Rattle.theory.proofs.Lists.{all-at, at_all, mem-tabulate, tabulate-mem}
use Rattle.theory.specs.Tables.{Below, AllBelow}
use Rattle.theory.proofs.Tests.{not_true_false}
use Rattle.lists.specs.Flat.{at}
use Rattle.lists.proofs.Places.{triples-table}

-- the triple at a place of a table is one of its triples
pub at_in : (l : List ℕ) (i : ℕ) → i < length l / 3 → Mem (at l i) (triples l)
at_in l i h = subst (Mem (at l i)) (sym (triples-table l)) (mem-tabulate (at l) 0 (length l / 3) i (omega arith) (omega arith))

pub below_at : (n : ℕ) (l : List ℕ) (i : ℕ) (t : Triple) → AllBelow n (triples l) → i < length l / 3 → t ≡ at l i → Below n t
below_at n l i t b h e = subst (Below n) (sym e) (b (at l i) (at_in l i h))

pub below-size : (n m : ℕ) (t : Triple) → n ≡ m → Below n t → Below m t
below-size n m t e b = subst (λ (k : ℕ). Below k t) e b

module _ (v : Vocabulary) where
  module _ (roster l : List ℕ) where
    pub uncovered_at : (i : ℕ) → i < length l / 3 → covers_triple v roster (at l i) ≡ false → true ≡ not (covers v roster (triples l))
    unfolding covers
    uncovered_at i h e =
        ap not (sym (not_true_false (covers v roster (triples l)) (λ k. mathlib.Core.Bool.true≢false (sym (all-at (covers_triple v roster) (triples l) k (at l i) (at_in l i h)) ∙ e))))

    pub covered-all : (i : ℕ) → length l / 3 ≤ i → ((k : ℕ) → k < i → covers_triple v roster (at l k) ≡ true) → false ≡ not (covers v roster (triples l))
    unfolding covers
    covered-all i h e =
        ap not (sym (at_all (covers_triple v roster) (triples l)
        (λ t m. let w = tabulate-mem (at l) 0 (length l / 3) (subst (Mem t) (triples-table l) m) in ap (covers_triple v roster) w.3 ∙ e w.0 (omega (arith, w.2)))))
