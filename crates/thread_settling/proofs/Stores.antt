-- What single tests and stores give, over plain lists.
-- Assumes nothing.
use Prim.Native.Nat.{ℕ}
use mathlib.Core.Path.{◌≡◌, ◌∙◌, ap}
use mathlib.Core.Logic.{◌⊎◌, inl, inr, ⊎_elim}
use mathlib.Core.Bool.{Bool, true, false, not, ◌&&◌}
use mathlib.Core.List.{List}
use lib.Dec.{eqb}
use lib.ListN.{get_or}
use borrow.Author.Tests.{eqb-true, eq-eqb}
use Rattle.model.specs.Codes.{absent}
use Rattle.theory.proofs.Tests.{bool_cases, and_true, not_both}
use Rattle.thread_settling.specs.Calls.{stamped}

-- ── is it a stamp of the thread ──
module _ (work : List ℕ) (s a : ℕ) where
  pub stamp-is-node : stamped work s a ≡ true → (s ≡ absent → ⊥) × (get_or work s 0 ≡ a)
  unfolding stamped
  stamp-is-node h =
      let z = and_true (not (eqb s absent)) _ h in
      (λ e. not_both z.0 (ap not (eq-eqb s absent e)), eqb-true _ _ z.1)

  pub stamp-is-other : stamped work s a ≡ false → (s ≡ absent) ⊎ (get_or work s 0 ≡ a → ⊥)
  unfolding stamped
  stamp-is-other h =
      ⊎_elim (λ y. inl (eqb-true _ _ y)) (λ y. inr (λ e. not_both (ap (λ (b : Bool). not b && eqb (get_or work s 0) a) y ∙ eq-eqb _ _ e) h)) (bool_cases (eqb s absent))
