-- A test over the values of a function at a run of numbers, how many pass it, and the loop that makes it; the loop that looks for the first.
-- Assumes nothing.
use Prim.Native.Nat.{ℕ, zero, suc, ◌+◌, ◌<◌, ◌≤◌}
use native.Mathlib.Omega.{arith}
use native.Mathlib.Nat.{zero-add, add-zero, suc-add, add-suc, eq-or-lt_of_le}
use mathlib.Core.Path.{◌≡◌, refl, sym, ap, ◌∙◌}
use mathlib.Core.Bool.{Bool, true, false, cond, ◌||◌, or_assoc, or-false}
use mathlib.Core.Logic.{⊎_elim}
use Rattle.model.specs.Lists.{any, how_many, tabulate, First}
use Rattle.theory.proofs.Lists.{any_found, any-holds, any_none, none_any, many-none, many-all, length-tabulate, mem-tabulate, tabulate-mem}

module _ {A : Type 0} (f : A → Bool) (g : ℕ → A) where
  pub run_none : (a : ℕ) → any f (tabulate g a 0) ≡ false
  unfolding any tabulate
  run_none a = refl

  pub run-one : (a : ℕ) → any f (tabulate g a 1) ≡ f (g a)
  unfolding any tabulate
  run-one a = or-false (f (g a))

  -- a run is its two parts
  pub run-parts : (a m n : ℕ) → any f (tabulate g a (m + n)) ≡ (any f (tabulate g a m) || any f (tabulate g (a + m) n))
  unfolding any tabulate
  run-parts a zero n = rw (zero-add n, add-zero a)
  run-parts a (suc m) n =
      rw (suc-add m n, run-parts (suc a) m n, suc-add a m, add-suc a m)
      (sym (or_assoc (f (g a)) (any f (tabulate g (suc a) m)) (any f (tabulate g (suc (a + m)) n))))

  -- one value more, at the end
  pub run_more : (i : ℕ) → any f (tabulate g 0 i) ≡ false → f (g i) ≡ false → any f (tabulate g 0 (i + 1)) ≡ false
  run_more i e h = rw (run-parts 0 i 1, e, zero-add i, run-one i) h

  -- the test holds at one number of the run
  pub run_holds : (a n i : ℕ) → a ≤ i → i < a + n → f (g i) ≡ true → any f (tabulate g a n) ≡ true
  run_holds a n i l m e = any-holds f (tabulate g a n) (g i) (mem-tabulate g a n i l m) e

  -- it fails at each
  pub run-fails : (a n : ℕ) → ((i : ℕ) → a ≤ i → i < a + n → f (g i) ≡ false) → any f (tabulate g a n) ≡ false
  run-fails a n h = none_any f (tabulate g a n) (λ x m. let w = tabulate-mem g a n m in ap f w.3 ∙ h w.0 w.1 w.2)

  -- and back: a number where it holds, and that it fails at each
  pub run-found : (a n : ℕ) → any f (tabulate g a n) ≡ true → (i : ℕ) × (a ≤ i) × (i < a + n) × (f (g i) ≡ true)
  run-found a n e =
      let x = any_found f (tabulate g a n) e in
      let w = tabulate-mem g a n x.1 in
      (w.0, w.1, w.2, ap f (sym w.3) ∙ x.2)

  pub run-each : (a n : ℕ) → any f (tabulate g a n) ≡ false → (i : ℕ) → a ≤ i → i < a + n → f (g i) ≡ false
  run-each a n e i l m = any_none f (tabulate g a n) e (g i) (mem-tabulate g a n i l m)

  -- ── how many values of a run pass the test ──
  pub many-one : (a : ℕ) → how_many f (tabulate g a 1) ≡ cond (f (g a)) 1 0
  unfolding how_many tabulate
  many-one a = add-zero (cond (f (g a)) 1 0)

  pub many-parts : (a m n : ℕ) → how_many f (tabulate g a (m + n)) ≡ how_many f (tabulate g a m) + how_many f (tabulate g (a + m) n)
  unfolding how_many tabulate
  many-parts a zero n = rw (zero-add n, add-zero a) (sym (zero-add (how_many f (tabulate g a n))))
  many-parts a (suc m) n = rw (suc-add m n, many-parts (suc a) m n, suc-add a m, add-suc a m) (omega arith)

  pub run-many-all : (a n : ℕ) → ((i : ℕ) → a ≤ i → i < a + n → f (g i) ≡ true) → how_many f (tabulate g a n) ≡ n
  run-many-all a n h =
      many-all f (tabulate g a n) (λ x m. let w = tabulate-mem g a n m in ap f w.3 ∙ h w.0 w.1 w.2) ∙ length-tabulate g a n

  pub run-many-none : (a n : ℕ) → ((i : ℕ) → a ≤ i → i < a + n → f (g i) ≡ false) → how_many f (tabulate g a n) ≡ 0
  run-many-none a n h = many-none f (tabulate g a n) (λ x m. let w = tabulate-mem g a n m in ap f w.3 ∙ h w.0 w.1 w.2)

  -- ── a loop that looks for a number where the test holds ──
  -- none of the first i of n is one
  pub record NoneYet (n i : ℕ) : Type 0 where
    pub within : i ≤ n
    pub none : any f (tabulate g 0 i) ≡ false

  pub none-start : (n : ℕ) → NoneYet n 0
  none-start n = record { within = omega arith; none = run_none 0 }

  pub none-step : (n i : ℕ) → NoneYet n i → i < n → f (g i) ≡ false → NoneYet n (i + 1)
  none-step n i h l e = record { within = omega arith; none = run_more i h.none e }

  pub one_found : (n i : ℕ) → i < n → f (g i) ≡ true → true ≡ any f (tabulate g 0 n)
  one_found n i l e = sym (run_holds 0 n i (omega arith) (omega arith) e)

  pub none_found : (n i : ℕ) → NoneYet n i → n ≤ i → false ≡ any f (tabulate g 0 n)
  none_found n i h l = let e : n ≡ i = omega (arith, h.within) in sym (ap (λ (m : ℕ). any f (tabulate g 0 m)) e ∙ h.none)

-- ── a loop that looks for the first number where a test holds ──
module _ (test : ℕ → Bool) (a b : ℕ) where
  -- none from a to before i is one
  pub record NoneFrom (i : ℕ) : Type 0 where
    pub low : a ≤ i
    pub high : i ≤ b
    pub others : (j : ℕ) → a ≤ j → j < i → test j ≡ false

  pub first-start : a ≤ b → NoneFrom a
  first-start l = record { low = omega arith; high = l; others = λ j x y. let o : ⊥ = omega arith in absurd o }

  module _ (i : ℕ) (h : NoneFrom i) where
    pub first_step : i < b → test i ≡ false → NoneFrom (i + 1)
    first_step l e = record {
      low = omega (arith, h.low);
      high = omega arith;
      others = λ j x y. ⊎_elim {C = test j ≡ false} (λ (z : j ≡ i). ap test z ∙ e) (λ z. h.others j x z) (eq-or-lt_of_le {n = j} {m = i} (omega arith));
    }

    pub first_found : test i ≡ true → First test a b i
    first_found e = record { low = h.low; high = h.high; others = h.others; holds = λ z. e }

    pub first-end : b ≤ i → First test a b b
    first-end l = record {
      low = omega (arith, h.low, h.high);
      high = omega arith;
      others = λ j x y. h.others j x (omega arith);
      holds = λ z. absurd (omega arith);
    }
