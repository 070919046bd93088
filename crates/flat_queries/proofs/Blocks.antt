-- Lists of equal length stored one behind the other.
-- Assumes nothing.
use Prim.Native.Nat.{ℕ, zero, suc, ◌+◌, ◌*◌, ◌≤◌, ◌<◌}
use mathlib.Core.Path.{◌≡◌, sym, ◌∙◌, ap}
use mathlib.Core.List.{List, [], ◌∷◌, ◌++◌, append_assoc, append-nil}
use native.Mathlib.Nat.{mul-suc}
use native.Mathlib.Numerals.{add-one}
use native.Mathlib.Omega.{arith}
use lib.ListN.{length, get_or, set, take, drop, length-append, drop_of_length-le}
use lib.Seq.{sets, sets-eq, take_at, drop-append-add, get_or-drop, get_or-take}
use Rattle.model.specs.Lists.{collect, tabulate}

module _ {B : Type 0} where
  pub sets_append : (l : List B) (at : ℕ) (xs ys : List B) → sets l at (xs ++ ys) ≡ sets (sets l at xs) (at + length xs) ys
  sets_append l at [] ys = let e : at ≡ at + 0 = omega arith in ap (λ (k : ℕ). sets l k ys) e
  sets_append l at (x ∷ xs) ys =
      let e : suc at + length xs ≡ at + suc (length xs) = omega arith in
      sets_append (set l at x) (suc at) xs ys ∙ ap (λ (k : ℕ). sets (sets (set l at x) (suc at) xs) k ys) e

  -- a list of the same length is stored whole
  pub sets_whole : (l vs : List B) → length l ≡ length vs → sets l 0 vs ≡ vs
  sets_whole l vs e =
      let h : length l ≤ 0 + length vs = omega arith in
      sets-eq vs l 0 (omega arith)
      ∙ ap (λ (r : List B). vs ++ r) (drop_of_length-le l h)
      ∙ append-nil vs

  module _ {A : Type 0} (f : A → List B) (g : ℕ → A) where
    -- f (g 0), f (g 1), .. of n values
    abbrev pub blocks : ℕ → List B
    blocks n = collect f (tabulate g 0 n)

    more-from : (i n : ℕ) → collect f (tabulate g i (suc n)) ≡ collect f (tabulate g i n) ++ f (g (i + n))
    unfolding collect tabulate
    more-from i zero = append-nil (f (g i)) ∙ let e : i ≡ i + 0 = omega arith in ap (λ (k : ℕ). f (g k)) e
    more-from i (suc n) =
        let e : suc i + n ≡ i + suc n = omega arith in
        ap (λ (r : List B). f (g i) ++ r) (more-from (suc i) n ∙ ap (λ (k : ℕ). collect f (tabulate g (suc i) n) ++ f (g k)) e)
        ∙ sym (append_assoc (f (g i)) (collect f (tabulate g (suc i) n)) (f (g (i + suc n))))

    module _ (size : ℕ) (sized : (x : A) → length (f x) ≡ size) where
      length_from : (i n : ℕ) → length (collect f (tabulate g i n)) ≡ size * n
      unfolding collect tabulate
      length_from i zero = omega arith
      length_from i (suc n) =
          length-append (f (g i)) (collect f (tabulate g (suc i) n))
          ∙ omega (arith, sized (g i), length_from (suc i) n, mul-suc size n)

      pub length-blocks : (n : ℕ) → length (blocks n) ≡ size * n
      length-blocks n = length_from 0 n

      -- one block more, where the last one ended
      pub blocks_step : (l a b : List B) (at n next : ℕ) → next ≡ at + size * n → a ≡ sets l at (blocks n) → b ≡ sets a next (f (g n))
          → b ≡ sets l at (blocks (n + 1))
      blocks_step l a b at n next h p q =
          let e : next ≡ at + length (blocks n) = omega (arith, length-blocks n) in
          let z : 0 + n ≡ n = omega arith in
          q
          ∙ (λ i. sets (p i) (e i) (f (g n)))
          ∙ sym (sets_append l at (blocks n) (f (g n)))
          ∙ ap (sets l at) (ap (λ (k : ℕ). blocks n ++ f (g k)) (sym z) ∙ sym (more-from 0 n) ∙ ap blocks (sym (add-one n)))

      -- a block taken out again
      take-from : (i n k : ℕ) → k < n → take size (drop (size * k) (collect f (tabulate g i n))) ≡ f (g (i + k))
      unfolding collect tabulate
      take-from i zero k h = absurd (omega arith)
      take-from i (suc n) zero h =
          let z : size * 0 ≡ 0 = omega arith in
          let e : i ≡ i + 0 = omega arith in
          ap (λ (x : ℕ). take size (drop x (f (g i) ++ collect f (tabulate g (suc i) n)))) z
          ∙ take_at (f (g i)) (collect f (tabulate g (suc i) n)) size (sized (g i))
          ∙ ap (λ (x : ℕ). f (g x)) e
      take-from i (suc n) (suc k) h =
          let z : size * suc k ≡ length (f (g i)) + size * k = omega (arith, mul-suc size k, sized (g i)) in
          let e : suc i + k ≡ i + suc k = omega arith in
          ap (λ (x : ℕ). take size (drop x (f (g i) ++ collect f (tabulate g (suc i) n)))) z
          ∙ ap (take size) (drop-append-add (f (g i)) (collect f (tabulate g (suc i) n)) (size * k))
          ∙ take-from (suc i) n k (omega arith)
          ∙ ap (λ (x : ℕ). f (g x)) e

      pub blocks-take : (n k : ℕ) → k < n → take size (drop (size * k) (blocks n)) ≡ f (g k)
      blocks-take n k h = let e : 0 + k ≡ k = omega arith in take-from 0 n k h ∙ ap (λ (x : ℕ). f (g x)) e

      pub blocks_at : (n k j : ℕ) (d : B) → k < n → j < size → get_or (blocks n) (size * k + j) d ≡ get_or (f (g k)) j d
      blocks_at n k j d h m =
          sym (get_or-drop (size * k) (blocks n) j d)
          ∙ sym (get_or-take size (drop (size * k) (blocks n)) j d m)
          ∙ ap (λ (l : List B). get_or l j d) (blocks-take n k h)
