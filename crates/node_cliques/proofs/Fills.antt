-- The tests of a code.
-- Assumes nothing.
use Prim.Native.Nat.{ℕ}
use mathlib.Core.Path.{◌≡◌}
use mathlib.Core.Bool.{true, false}
use mathlib.Core.List.{List}
use lib.ListN.{get_or}
use borrow.Author.Tests.{eq-eqb, ne_eqb, not-false}
use Rattle.model.specs.declared.Vocabulary.{Vocabulary}
use Rattle.model.specs.Roster.{unmarked}
use Rattle.theory.proofs.Tests.{neither_left}
use Rattle.node_cliques.specs.Labels.{is_label}

module _ (roster : List ℕ) (i : ℕ) where
  pub is_plain : get_or roster i 0 ≡ 0 → unmarked roster i ≡ true
  unfolding unmarked
  is_plain h = eq-eqb (get_or roster i 0) 0 h

  pub is-marked : (get_or roster i 0 ≡ 0 → ⊥) → unmarked roster i ≡ false
  unfolding unmarked
  is-marked h = ne_eqb (get_or roster i 0) 0 h

  module _ (v : Vocabulary) where
    pub other-plain : is_label v roster i ≡ false → unmarked roster i ≡ true
    unfolding is_label
    other-plain h = not-false _ (neither_left _ _ h)
