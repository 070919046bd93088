-- Lists cut at the first element that passes a test, and the elements that pass.
-- Assumes nothing.
use Prim.Native.Nat.{ℕ, zero, suc, ◌+◌, ◌-◌, ◌<◌}
use native.Mathlib.Omega.{arith}
use native.Mathlib.Nat.{eq-or-lt_of_le}
use mathlib.Core.Path.{◌≡◌, refl, sym, ◌∙◌, ap}
use mathlib.Core.Logic.{⊎_elim}
use mathlib.Core.Bool.{Bool, true, false, cond}
use mathlib.Core.List.Memᴰ.{head as here}
use mathlib.Core.List.Memᴰ.{tail as there}
use mathlib.Core.List.{List, [], ◌∷◌, ◌++◌, Memᴰ as Mem}
use Rattle.model.specs.Lists.{collect, when, filter, take_until, drop_until, tabulate, First}

module _ {A : Type 0} (f : A → Bool) where
  -- ── by the first element ──
  module _ (x : A) (xs : List A) where
    pub take_stops : f x ≡ true → take_until f (x ∷ xs) ≡ []
    unfolding take_until
    take_stops e = ap (λ (b : Bool). cond b [] (x ∷ take_until f xs)) e

    pub take-goes-on : f x ≡ false → take_until f (x ∷ xs) ≡ x ∷ take_until f xs
    unfolding take_until
    take-goes-on e = ap (λ (b : Bool). cond b [] (x ∷ take_until f xs)) e

    pub drop_stops : f x ≡ true → drop_until f (x ∷ xs) ≡ x ∷ xs
    unfolding drop_until
    drop_stops e = ap (λ (b : Bool). cond b (x ∷ xs) (drop_until f xs)) e

    pub drop-goes-on : f x ≡ false → drop_until f (x ∷ xs) ≡ drop_until f xs
    unfolding drop_until
    drop-goes-on e = ap (λ (b : Bool). cond b (x ∷ xs) (drop_until f xs)) e

    pub filter_takes : f x ≡ true → filter f (x ∷ xs) ≡ x ∷ filter f xs
    unfolding filter collect
    filter_takes e = ap (λ (b : Bool). when b x ++ filter f xs) e

    pub filter-leaves : f x ≡ false → filter f (x ∷ xs) ≡ filter f xs
    unfolding filter collect
    filter-leaves e = ap (λ (b : Bool). when b x ++ filter f xs) e

  -- the two parts make the list
  pub cut_whole : (xs : List A) → take_until f xs ++ drop_until f xs ≡ xs
  unfolding take_until drop_until
  cut_whole [] = refl
  cut_whole (x ∷ xs) = at (f x) (cut_whole xs)
    where
      at : (b : Bool) → take_until f xs ++ drop_until f xs ≡ xs → cond b [] (x ∷ take_until f xs) ++ cond b (x ∷ xs) (drop_until f xs) ≡ x ∷ xs
      at true e = refl
      at false e = ap (λ (ys : List A). x ∷ ys) e

  -- ── where no element passes ──
  pub take_all : (xs : List A) → ((x : A) → Mem x xs → f x ≡ false) → take_until f xs ≡ xs
  unfolding take_until
  take_all [] h = refl
  take_all (x ∷ xs) h = take-goes-on x xs (h x (here refl)) ∙ ap (λ (ys : List A). x ∷ ys) (take_all xs (λ y m. h y (there m)))

  pub drop_all : (xs : List A) → ((x : A) → Mem x xs → f x ≡ false) → drop_until f xs ≡ []
  unfolding drop_until
  drop_all [] h = refl
  drop_all (x ∷ xs) h = drop-goes-on x xs (h x (here refl)) ∙ drop_all xs (λ y m. h y (there m))

  pub filter_none : (xs : List A) → ((x : A) → Mem x xs → f x ≡ false) → filter f xs ≡ []
  unfolding filter collect
  filter_none [] h = refl
  filter_none (x ∷ xs) h = filter-leaves x xs (h x (here refl)) ∙ filter_none xs (λ y m. h y (there m))

  -- ── the values of a function at a run of numbers ──
  module _ (g : ℕ → A) where
    next-first : (a n r : ℕ) → First (λ i. f (g i)) a (a + suc n) r → a < r → First (λ i. f (g i)) (suc a) (suc a + n) r
    next-first a n r h l = record { low = l; high = omega (arith, h.high); others = λ i x y. h.others i (omega arith) y; holds = λ y. h.holds (omega arith) }

    first-now : (a n r : ℕ) → First (λ i. f (g i)) a (a + suc n) r → a ≡ r → f (g a) ≡ true
    first-now a n r h e = ap (λ (i : ℕ). f (g i)) e ∙ h.holds (omega arith)

    first_not_yet : (a n r : ℕ) → First (λ i. f (g i)) a (a + suc n) r → a < r → f (g a) ≡ false
    first_not_yet a n r h l = h.others a (omega arith) l

    pub take-first : (a n r : ℕ) → First (λ i. f (g i)) a (a + n) r → take_until f (tabulate g a n) ≡ tabulate g a (r - a)
    unfolding take_until tabulate
    take-first a zero r h = let e : r - a ≡ 0 = omega (arith, h.low, h.high) in ap (tabulate g a) (sym e)
    take-first a (suc n) r h =
        ⊎_elim now (λ l. later l (take-first (suc a) n r (next-first a n r h l))) (eq-or-lt_of_le {n = a} {m = r} h.low)
      where
        now : a ≡ r → take_until f (tabulate g a (suc n)) ≡ tabulate g a (r - a)
        now e = let z : r - a ≡ 0 = omega arith in take_stops (g a) (tabulate g (suc a) n) (first-now a n r h e) ∙ ap (tabulate g a) (sym z)

        later : a < r → take_until f (tabulate g (suc a) n) ≡ tabulate g (suc a) (r - suc a) → take_until f (tabulate g a (suc n)) ≡ tabulate g a (r - a)
        later l e =
            let z : suc (r - suc a) ≡ r - a = omega arith in
            take-goes-on (g a) (tabulate g (suc a) n) (first_not_yet a n r h l) ∙ ap (λ (ys : List A). g a ∷ ys) e ∙ ap (tabulate g a) z

    pub drop-first : (a n r : ℕ) → First (λ i. f (g i)) a (a + n) r → drop_until f (tabulate g a n) ≡ tabulate g r (a + n - r)
    unfolding drop_until tabulate
    drop-first a zero r h = let e : a + 0 - r ≡ 0 = omega (arith, h.low) in ap (tabulate g r) (sym e)
    drop-first a (suc n) r h =
        ⊎_elim now (λ l. later l (drop-first (suc a) n r (next-first a n r h l))) (eq-or-lt_of_le {n = a} {m = r} h.low)
      where
        now : a ≡ r → drop_until f (tabulate g a (suc n)) ≡ tabulate g r (a + suc n - r)
        now e =
            let z : suc n ≡ a + suc n - r = omega arith in
            drop_stops (g a) (tabulate g (suc a) n) (first-now a n r h e) ∙ (λ i. tabulate g (e i) (z i))

        later : a < r → drop_until f (tabulate g (suc a) n) ≡ tabulate g r (suc a + n - r) → drop_until f (tabulate g a (suc n)) ≡ tabulate g r (a + suc n - r)
        later l e =
            let z : suc a + n - r ≡ a + suc n - r = omega arith in
            drop-goes-on (g a) (tabulate g (suc a) n) (first_not_yet a n r h l) ∙ e ∙ ap (tabulate g r) z
