-- The shared checks, branch by branch.
-- Assumes nothing.
use Prim.Native.Nat.{ℕ, ◌*◌, ◌/◌, ◌%◌}
use native.Mathlib.Omega.{arith}
use mathlib.Core.Path.{◌≡◌, sym, ap, ◌∙◌}
use mathlib.Core.Bool.{Bool, true, false, not}
use mathlib.Core.Logic.{◌⊎◌, inl, inr}
use mathlib.Core.List.{List}
use lib.Dec.{eqb}
use lib.ListN.{length}
use borrow.Author.Tests.{eqb-true, eqb-false, eq-eqb, ne_eqb}
use Rattle.model.specs.declared.Vocabulary.{Vocabulary}
use Rattle.model.specs.Lists.{any, tabulate}
use Rattle.model.specs.Triples.{triples}
use Rattle.model.specs.Roster.{wrong_triple, wrong_codes}
use Rattle.model.specs.Outcomes.{wrong_work}
use Rattle.theory.proofs.Tests.{bool_cases}
use Rattle.lists.specs.Flat.{at}
use Rattle.lists.proofs.Places.{triples-table}

-- ── the work list ──
module _ (n work : ℕ) where
  pub work_odd : (work % 2 ≡ 0 → ⊥) → true ≡ wrong_work n work
  unfolding wrong_work
  work_odd h = sym (ap not (ne_eqb work (2 * n) (λ q. h (omega arith))))

  pub work-half : work % 2 ≡ 0 → (r : Bool) → r ≡ not (eqb (work / 2) n) → r ≡ wrong_work n work
  unfolding wrong_work
  work-half h r q = q ∙ ap not (halves (bool_cases (eqb (work / 2) n)))
    where
      halves : (eqb (work / 2) n ≡ true) ⊎ (eqb (work / 2) n ≡ false) → eqb (work / 2) n ≡ eqb work (2 * n)
      halves (inl e) = e ∙ sym (eq-eqb work (2 * n) (omega (arith, eqb-true (work / 2) n e)))
      halves (inr e) = e ∙ sym (ne_eqb work (2 * n) (λ z. eqb-false (work / 2) n e (omega arith)))

module _ (v : Vocabulary) where
  -- ── a table ──
  pub codes-by : (table : List ℕ) (n : ℕ) {b : Bool} → b ≡ any (wrong_triple v n) (tabulate (at table) 0 (length table / 3)) → b ≡ wrong_codes v n (triples table)
  unfolding wrong_codes
  codes-by table n e = e ∙ sym (ap (any (wrong_triple v n)) (triples-table table))
