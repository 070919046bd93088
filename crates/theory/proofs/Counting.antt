-- Sums, and elements counted in two ways.
-- Assumes nothing.
use Prim.Native.Nat.{ℕ, zero, suc, ◌+◌, ◌-◌, ◌*◌, ◌≤◌, ◌<◌}
use mathlib.Core.Path.{◌≡◌, refl, sym, ◌∙◌, ap}
use mathlib.Core.Logic.{⊎_elim}
use mathlib.Core.Bool.{Bool, true, false, cond, not}
use mathlib.Core.List.Memᴰ.{head as here}
use mathlib.Core.List.Memᴰ.{tail as there}
use mathlib.Core.List.{List, [], ◌∷◌, ◌++◌, map, Memᴰ as Mem}
use native.Mathlib.Omega.{arith}
use native.Mathlib.Nat.{zero-mul, suc-mul}
use lib.Dec.{eqb}
use lib.ListN.{length, length-append, length-map}
use borrow.Author.Tests.{eqb-true, eqb-false, ne_eqb}
use Rattle.model.specs.Lists.{how_many, collect, when, filter, tabulate, total, zeros, padded}
use Rattle.theory.proofs.Tests.{bool_cases}
use Rattle.theory.proofs.Lists.{many-none, tabulate-mem}

-- ── sums ──
total-append : (xs ys : List ℕ) → total (xs ++ ys) ≡ total xs + total ys
unfolding total
total-append [] ys = omega arith
total-append (x ∷ xs) ys = omega (arith, total-append xs ys)

total-zeros : (n : ℕ) → total (zeros n) ≡ 0
unfolding total zeros
total-zeros zero = refl
total-zeros (suc n) = omega (arith, total-zeros n)

-- the zeros behind add nothing
pub total-padded : (n : ℕ) (xs : List ℕ) → total (padded n xs) ≡ total xs
unfolding padded
total-padded n xs = total-append xs _ ∙ omega (arith, total-zeros (n - length xs))

module _ {A : Type 0} where
  total-add : (g h : A → ℕ) (us : List A) → total (map (λ u. g u + h u) us) ≡ total (map g us) + total (map h us)
  unfolding total
  total-add g h [] = refl
  total-add g h (u ∷ us) = omega (arith, total-add g h us)

  total-none : (us : List A) → total (map (λ (u : A). 0) us) ≡ 0
  unfolding total
  total-none [] = refl
  total-none (u ∷ us) = omega (arith, total-none us)

  pub total-many : (f : A → Bool) (us : List A) → total (map (λ u. cond (f u) 1 0) us) ≡ how_many f us
  unfolding total how_many
  total-many f [] = refl
  total-many f (u ∷ us) = ap (λ (n : ℕ). cond (f u) 1 0 + n) (total-many f us)

  pub total-le : (g h : A → ℕ) (us : List A) → ((u : A) → g u ≤ h u) → total (map g us) ≤ total (map h us)
  unfolding total
  total-le g h [] f = omega arith
  total-le g h (u ∷ us) f = omega (arith, f u, total-le g h us f)

  pub map_same : (g h : A → ℕ) (us : List A) → ((u : A) → Mem u us → g u ≡ h u) → map g us ≡ map h us
  map_same g h [] e = refl
  map_same g h (u ∷ us) e = λ i. e u (here refl) i ∷ map_same g h us (λ x m. e x (there m)) i

  pub many-same : (f g : A → Bool) (xs : List A) → ((x : A) → f x ≡ g x) → how_many f xs ≡ how_many g xs
  unfolding how_many
  many-same f g [] e = refl
  many-same f g (x ∷ xs) e = λ i. cond (e x i) 1 0 + many-same f g xs e i

  -- a list is as long as its two parts together
  pub many-parts : (f : A → Bool) (xs : List A) → length xs ≡ how_many f xs + how_many (λ x. not (f x)) xs
  unfolding how_many
  many-parts f [] = refl
  many-parts f (x ∷ xs) = at (f x) (many-parts f xs)
    where
      at : (b : Bool) → length xs ≡ how_many f xs + how_many (λ x. not (f x)) xs → suc (length xs) ≡ cond b 1 0 + how_many f xs + (cond (not b) 1 0 + how_many (λ x. not (f x)) xs)
      at true e = omega arith
      at false e = omega arith

  -- ── the elements that pass ──
  pub filter-length : (f : A → Bool) (xs : List A) → length (filter f xs) ≡ how_many f xs
  unfolding filter collect how_many
  filter-length f [] = refl
  filter-length f (x ∷ xs) = length-append (when (f x) x) (filter f xs) ∙ at (f x) (filter-length f xs)
    where
      at : (b : Bool) → length (filter f xs) ≡ how_many f xs → length (when b x) + length (filter f xs) ≡ cond b 1 0 + how_many f xs
      at true e = omega arith
      at false e = omega arith

module _ {A B : Type 0} where
  -- pairs that pass a test, counted by their first or by their second
  pub many-turned : (r : A → B → Bool) (us : List A) (ts : List B) → total (map (λ u. how_many (r u) ts) us) ≡ total (map (λ t. how_many (λ u. r u t) us) ts)
  unfolding how_many total
  many-turned r us [] = total-none us
  many-turned r us (t ∷ ts) =
      total-add (λ u. cond (r u t) 1 0) (λ u. how_many (r u) ts) us
      ∙ omega (arith, total-many (λ u. r u t) us, many-turned r us ts)

  -- so many cells has a grid
  pub grid_length : {C : Type 0} (f : A → B → C) (xs : List A) (ys : List B) → length (collect (λ x. map (f x) ys) xs) ≡ length xs * length ys
  unfolding collect
  grid_length f [] ys = sym (zero-mul (length ys))
  grid_length f (x ∷ xs) ys =
      length-append (map (f x) ys) (collect (λ x. map (f x) ys) xs) ∙ omega (arith, length-map ys (f x), grid_length f xs ys, suc-mul (length xs) (length ys))

-- a number stands once among those from i on
pub one_number : (c i n : ℕ) → i ≤ c → c < i + n → how_many (λ p. eqb p c) (tabulate (λ p. p) i n) ≡ 1
unfolding how_many tabulate
one_number c i zero a b = absurd (omega arith)
one_number c i (suc n) a b =
    ⊎_elim
    (λ (e : eqb i c ≡ true).
    let same = eqb-true i c e in
    let rest = many-none (λ p. eqb p c) (tabulate (λ p. p) (suc i) n) (λ p m. let w = tabulate-mem (λ p. p) (suc i) n m in ne_eqb p c (λ q. omega (arith, w.1, w.3))) in
    rw e (omega (arith, rest)))
    (λ (e : eqb i c ≡ false).
    let other = eqb-false i c e in
    rw e (omega (arith, one_number c (suc i) n (omega arith) (omega arith))))
    (bool_cases (eqb i c))
