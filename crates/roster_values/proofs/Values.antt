-- The values of a roster: a part of them, and one part after the other.
-- Assumes nothing.
use Prim.Native.Nat.{ℕ, ◌+◌, ◌-◌, ◌<◌, ◌≤◌}
use mathlib.Core.Path.{◌≡◌, refl, sym, ◌∙◌, ap}
use mathlib.Core.Bool.{true, false, ◌||◌}
use mathlib.Core.List.{List}
use native.Mathlib.Omega.{arith}
use native.Mathlib.Nat.{zero-add}
use lib.Dec.{ltb}
use lib.ListN.{length}
use borrow.Author.Tests.{lt-ltb, ltb-true}
use Rattle.model.specs.Roster.{mark}
use Rattle.theory.proofs.Lists.{tabulate-list}
use Rattle.theory.proofs.Runs.{run_none, run-parts, run_holds, run-fails, run-found}
use Rattle.roster_values.specs.Bytes.{over_three, values}

module _ (l : List ℕ) where
  values-all : values l 0 (length l) ≡ l
  values-all = tabulate-list 0 (mark l) l (λ k h. refl)

  pub over-at : (i n k : ℕ) → i ≤ k → k < i + n → 3 < mark l k → true ≡ over_three (values l i n)
  unfolding over_three
  over-at i n k x y o = sym (run_holds (ltb 3) (mark l) i n k x y (lt-ltb _ _ o))

  pub over-nowhere : (i n : ℕ) → ((k : ℕ) → i ≤ k → k < i + n → ltb 3 (mark l k) ≡ false) → false ≡ over_three (values l i n)
  unfolding over_three
  over-nowhere i n h = sym (run-fails (ltb 3) (mark l) i n h)

  pub right-start : over_three (values l 0 0) ≡ false
  unfolding over_three
  right-start = run_none (ltb 3) (mark l) 0

  module _ (i : ℕ) where
    pub over-part : (n : ℕ) → i + n ≤ length l → over_three (values l i n) ≡ true → true ≡ over_three l
    unfolding over_three
    over-part n h o =
        let f = run-found (ltb 3) (mark l) i n o in
        over-at 0 (length l) f.0 (omega arith) (omega (arith, f.2)) (ltb-true 3 (mark l f.0) f.3) ∙ ap over_three values-all

    module _ (right : over_three (values l 0 i) ≡ false) where
      -- one part after the other
      behind : (n j : ℕ) → j ≡ i + n → over_three (values l 0 j) ≡ over_three (values l i n)
      unfolding over_three
      behind n j e =
          ap (λ (x : ℕ). over_three (values l 0 x)) e ∙ run-parts (ltb 3) (mark l) 0 i n
          ∙ (λ k. right k || over_three (values l (zero-add i k) n))

      pub right-step : (n j : ℕ) → j ≡ i + n → over_three (values l i n) ≡ false → over_three (values l 0 j) ≡ false
      right-step n j e q = behind n j e ∙ q

      pub over-rest : (j : ℕ) → i ≡ j → i ≤ length l → over_three (values l j (length l - j)) ≡ over_three l
      over-rest j e h =
          ap (λ (x : ℕ). over_three (values l x (length l - x))) (sym e)
          ∙ sym (behind (length l - i) (length l) (omega arith)) ∙ ap over_three values-all
