-- Places as members, and lists without repeats.
-- Assumes nothing.
use Prim.Native.Nat.{ℕ, zero, suc, ◌+◌, ◌*◌, ◌<◌, ◌≤◌}
use mathlib.Core.Path.{◌≡◌, refl, sym, ◌∙◌, ap, subst}
use mathlib.Core.Bool.{true}
use mathlib.Core.List.{List, ◌∷◌, Memᴰ as Mem}
use native.Mathlib.Omega.{arith}
use lib.ListN.{length, get_or}
use Rattle.model.specs.declared.Triple.{Triple}
use Rattle.model.specs.Lists.{tabulate}
use Rattle.model.specs.Triples.{triple, holds, sorted}
use Rattle.model.specs.Order.{Lt}
use Rattle.theory.proofs.Tests.{not_true_false}
use Rattle.theory.proofs.Lists.{tabulate-mem, mem-tabulate}
use Rattle.theory.proofs.Order.{lt_irrefl, holds-mem, sorted-mem, insert-new}
use Rattle.lists.specs.Flat.{at, RisingPart}

-- t stands at a place below n
pub record Stands (f : ℕ → Triple) (a b : ℕ) (t : Triple) : Type 0 where
  pub place : ℕ
  pub low : a ≤ place
  pub high : place < b
  pub is : t ≡ f place

pub stands : (f : ℕ → Triple) (a n : ℕ) (t : Triple) → Mem t (tabulate f a n) → Stands f a (a + n) t
stands f a n t m = let w = tabulate-mem f a n m in record { place = w.0; low = w.1; high = w.2; is = w.3 }

pub member : (f : ℕ → Triple) (a n : ℕ) (t : Triple) → Stands f a (a + n) t → Mem t (tabulate f a n)
member f a n t s = subst (λ (z : Triple). Mem z (tabulate f a n)) (sym s.is) (mem-tabulate f a n s.place s.low s.high)

-- two places with one triple are one place
abbrev pub Injective : (ℕ → Triple) → ℕ → ℕ → Type 0
Injective f a b = (i j : ℕ) → a ≤ i → i < j → j < b → f i ≡ f j → ⊥

pub rising_injective : (f : ℕ → Triple) (a b : ℕ) → RisingPart f a b → Injective f a b
rising_injective f a b r i j x y z e = lt_irrefl (subst (Lt (f i)) (sym e) (r i j x y z))

-- as many as there are places, where no two hold one triple
pub sorted-count : (f : ℕ → Triple) (a n : ℕ) → Injective f a (a + n) → length (sorted (tabulate f a n)) ≡ n
unfolding sorted tabulate
sorted-count f a zero h = refl
sorted-count f a (suc n) h =
    insert-new (f a) (sorted (tabulate f (suc a) n)) (not_true_false (holds (f a) (sorted (tabulate f (suc a) n))) fresh)
    ∙ ap suc (sorted-count f (suc a) n (λ i j x y z. h i j (omega arith) y (omega arith)))
  where
    fresh : holds (f a) (sorted (tabulate f (suc a) n)) ≡ true → ⊥
    fresh k =
        let w = tabulate-mem f (suc a) n (sorted-mem (f a) _ (holds-mem (f a) _ k)) in
        h a w.0 (omega arith) (omega (arith, w.1)) (omega (arith, w.2)) w.3

-- one more that is not among them
pub sorted_more : (t : Triple) (xs : List Triple) → (Mem t xs → ⊥) → length (sorted (t ∷ xs)) ≡ suc (length (sorted xs))
unfolding sorted
sorted_more t xs h = insert-new t (sorted xs) (not_true_false (holds t (sorted xs)) (λ k. h (sorted-mem t xs (holds-mem t (sorted xs) k))))

-- equal numbers make an equal triple
pub at_agree : (l l' : List ℕ) (i : ℕ) → get_or l' (3 * i) 0 ≡ get_or l (3 * i) 0 → get_or l' (3 * i + 1) 0 ≡ get_or l (3 * i + 1) 0 → get_or l' (3 * i + 2) 0 ≡ get_or l (3 * i + 2) 0 → at l' i ≡ at l i
unfolding at
at_agree l l' i a b d = λ k. triple (a k) (b k) (d k)
