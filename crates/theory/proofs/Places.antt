-- The place of a triple in a rising list.
-- Assumes nothing.
use Prim.Native.Nat.{ℕ, zero, suc, ◌<◌, ◌≤◌}
use mathlib.Core.Path.{◌≡◌, refl, sym, ◌∙◌, ap}
use mathlib.Core.Bool.{true, false, true≢false}
use mathlib.Core.List.{List, [], ◌∷◌}
use mathlib.Core.Logic.{⊎_elim}
use native.Mathlib.Omega.{arith}
use lib.ListN.{length, get_or}
use Rattle.model.specs.declared.Triple.{Triple}
use Rattle.model.specs.Lists.{how_many}
use Rattle.model.specs.Triples.{before, same, place, insert}
use Rattle.model.specs.Order.{Lt, Rising}
use Rattle.theory.specs.Theorems.{PlaceRight}
use Rattle.theory.proofs.Tests.{cond_cases, bool_cases, not_true_false}
use Rattle.theory.proofs.Lists.{many-le, many-none, mem_get_d}
use Rattle.theory.proofs.Order.{lt_trans, lt_irrefl, lt-before, lt-total, before-lt, before-other, same-eq, holds-mem, insert-same}

module _ (t : Triple) where
  place-more : (x : Triple) (xs : List Triple) → before x t ≡ true → place t (x ∷ xs) ≡ suc (place t xs)
  unfolding place how_many
  place-more x xs e = rw e (omega arith)

  -- a triple behind one that does not come before t does not either
  behind : (x y : Triple) → Lt x y → before x t ≡ false → before y t ≡ false
  behind x y l e = not_true_false (before y t) (λ h. true≢false (sym (lt-before x t (lt_trans l (before-lt y t h))) ∙ e))

  place_none : (x : Triple) (xs : List Triple) → Rising (x ∷ xs) → before x t ≡ false → place t (x ∷ xs) ≡ 0
  unfolding place how_many
  place_none x xs r e =
      let none = many-none (λ u. before u t) xs (λ y m. behind x y (r.0 y m) e) in
      rw e (omega (arith, none))

  place-nil : place t [] ≡ 0
  unfolding place how_many
  place-nil = refl

  pub in_front : (ts : List Triple) → Rising ts → (k : ℕ) → k < place t ts → (d : Triple) → before (get_or ts k d) t ≡ true
  in_front [] r k h d = absurd (omega (arith, place-nil))
  in_front (x ∷ xs) r zero h d = ⊎_elim (λ e. e) (λ e. absurd (omega (arith, place_none x xs r e))) (bool_cases (before x t))
  in_front (x ∷ xs) r (suc k) h d =
      ⊎_elim (λ e. in_front xs r.1 k (omega (arith, place-more x xs e)) d) (λ e. absurd (omega (arith, place_none x xs r e))) (bool_cases (before x t))

  pub in_back : (ts : List Triple) → Rising ts → (k : ℕ) → place t ts ≤ k → k < length ts → (d : Triple) → before (get_or ts k d) t ≡ false
  in_back [] r k h l d = absurd (omega arith)
  in_back (x ∷ xs) r zero h l d = not_true_false (before x t) (λ e. absurd (omega (arith, place-more x xs e)))
  in_back (x ∷ xs) r (suc k) h l d =
      ⊎_elim (λ e. in_back xs r.1 k (omega (arith, place-more x xs e)) (omega arith) d)
      (λ e. behind x (get_or xs k d) (r.0 _ (mem_get_d xs d k (omega arith))) e) (bool_cases (before x t))

  -- where t stands once it has joined
  pub at_place : (ts : List Triple) → Rising ts → (d : Triple) → get_or (insert t ts) (place t ts) d ≡ t
  unfolding insert
  at_place [] r d = ap (λ (k : ℕ). get_or (t ∷ []) k d) place-nil
  at_place (x ∷ xs) r d =
      cond_cases (λ (l : List Triple). get_or l (place t (x ∷ xs)) d ≡ t) (before t x)
      (λ a. ap (λ (k : ℕ). get_or (t ∷ x ∷ xs) k d) (place_none x xs r (after x a)))
      (λ a. cond_cases (λ (l : List Triple). get_or l (place t (x ∷ xs)) d ≡ t) (same t x)
      (λ s. ap (λ (k : ℕ). get_or (x ∷ xs) k d) (place_none x xs r (itself x s)) ∙ sym (same-eq t x s))
      (λ s. ap (λ (k : ℕ). get_or (x ∷ insert t xs) k d) (place-more x xs (lt-before x t (lt-total t x a s))) ∙ at_place xs r.1 d))
    where
      after : (x : Triple) → before t x ≡ true → before x t ≡ false
      after x a = not_true_false (before x t) (λ b. lt_irrefl (lt_trans (before-lt t x a) (before-lt x t b)))

      itself : (x : Triple) → same t x ≡ true → before x t ≡ false
      itself x s = not_true_false (before x t) (λ b. true≢false (sym s ∙ before-other x t b))

  pub place-right : (ts : List Triple) → Rising ts → PlaceRight t ts
  unfolding place
  place-right ts r =
      record {
        within = many-le (λ u. before u t) ts;
        front = in_front ts r;
        back = in_back ts r;
        joined = at_place ts r;
        held = λ h d. ap (λ (l : List Triple). get_or l (place t ts) d) (sym (insert-same t ts r (holds-mem t ts h))) ∙ at_place ts r d;
      }
