-- Flat lists of triples and lent lists, and their lengths.
-- Assumes nothing.
use Prim.Native.Nat.{ℕ, zero, suc, ◌≤◌, ◌<◌, ◌*◌, ◌-◌, ◌%◌}
use mathlib.Core.Path.{◌≡◌, refl, sym, ◌∙◌, ap}
use mathlib.Core.Logic.{⊎_elim}
use mathlib.Core.List.Memᴰ.{cases_cons as mem-cases}
use mathlib.Core.List.Memᴰ.{not-nil as no-mem}
use mathlib.Core.List.{List, [], ◌∷◌, ◌++◌, Memᴰ as Mem}
use native.Mathlib.Omega.{arith}
use lib.Dec.{ltb}
use lib.ListN.{length, get_or, set, length-set, length-replicate, length-append, get_or-append}
use lib.Seq.{ext_get_or, set-append_left}
use borrow.Author.Tests.{ltb-true, ltb-false}
use Rattle.model.specs.declared.Triple.{Triple}
use Rattle.model.specs.Lists.{zeros, padded}
use Rattle.model.specs.Triples.{triple, triples, flat, listed}
use Rattle.theory.proofs.Tests.{bool_cases}

pub triples-flat : (ts : List Triple) → triples (flat ts) ≡ ts
unfolding triples flat
triples-flat [] = refl
triples-flat (t ∷ ts) = ap (λ (l : List Triple). t ∷ l) (triples-flat ts)

pub flat-triples : (table : List ℕ) → length table % 3 ≡ 0 → flat (triples table) ≡ table
unfolding triples flat
flat-triples [] e = refl
flat-triples (s ∷ []) e = absurd (omega arith)
flat-triples (s ∷ p ∷ []) e = absurd (omega arith)
flat-triples (s ∷ p ∷ o ∷ xs) e = ap (λ (l : List ℕ). s ∷ p ∷ o ∷ l) (flat-triples xs (omega arith))

pub length-flat : (ts : List Triple) → length (flat ts) ≡ 3 * length ts
unfolding flat
length-flat [] = refl
length-flat (t ∷ ts) = omega (arith, length-flat ts)

pub flat_append : (xs ys : List Triple) → flat (xs ++ ys) ≡ flat xs ++ flat ys
unfolding flat
flat_append [] ys = refl
flat_append (t ∷ xs) ys = ap (λ (l : List ℕ). t.subject ∷ t.property ∷ t.object ∷ l) (flat_append xs ys)

-- a list of numbers is its whole triples and what is left over
pub flat-rest : (l : List ℕ) → (w : List ℕ) × (flat (triples l) ++ w ≡ l)
unfolding triples flat
flat-rest [] = ([], refl)
flat-rest (s ∷ []) = (s ∷ [], refl)
flat-rest (s ∷ p ∷ []) = (s ∷ p ∷ [], refl)
flat-rest (s ∷ p ∷ o ∷ l) = let r = flat-rest l in (r.0, ap (λ (m : List ℕ). s ∷ p ∷ o ∷ m) r.1)

-- triples in front of other numbers
pub triples-append : (ts : List Triple) (l : List ℕ) → triples (flat ts ++ l) ≡ ts ++ triples l
unfolding triples flat
triples-append [] l = refl
triples-append (t ∷ ts) l = ap (λ (us : List Triple). t ∷ us) (triples-append ts l)

-- zeros are triples of zeros
pub zeros-subject : (n : ℕ) (t : Triple) → Mem t (triples (zeros n)) → t.subject ≡ 0
unfolding triples zeros
zeros-subject zero t m = absurd (no-mem m)
zeros-subject (suc zero) t m = absurd (no-mem m)
zeros-subject (suc (suc zero)) t m = absurd (no-mem m)
zeros-subject (suc (suc (suc n))) t m = ⊎_elim (λ (e : t ≡ triple 0 0 0). ap (λ (u : Triple). u.subject) e) (zeros-subject n t) (mem-cases m)

pub length-triples : (l : List ℕ) → 3 * length (triples l) ≤ length l
unfolding triples
length-triples [] = omega arith
length-triples (s ∷ []) = omega arith
length-triples (s ∷ p ∷ []) = omega arith
length-triples (s ∷ p ∷ o ∷ l) = omega (arith, length-triples l)

pub length-padded : (n : ℕ) (xs : List ℕ) → length xs ≤ n → length (padded n xs) ≡ n
unfolding padded zeros
length-padded n xs h = length-append xs _ ∙ omega (arith, length-replicate {A = ℕ} (n - length xs) 0)

-- ── a lent list by its places ──
pub padded-at : (n : ℕ) (xs : List ℕ) (j : ℕ) → j < length xs → get_or (padded n xs) j 0 ≡ get_or xs j 0
unfolding padded
padded-at n xs j h = get_or-append xs _ 0 j h

zeros-at : (n j : ℕ) → get_or (zeros n) j 0 ≡ 0
unfolding zeros
zeros-at zero j = refl
zeros-at (suc n) zero = refl
zeros-at (suc n) (suc j) = zeros-at n j

behind-at : (xs : List ℕ) (n j : ℕ) → length xs ≤ j → get_or (xs ++ zeros n) j 0 ≡ 0
behind-at [] n j h = zeros-at n j
behind-at (x ∷ xs) n zero h = absurd (omega arith)
behind-at (x ∷ xs) n (suc j) h = behind-at xs n j (omega arith)

pub padded-past : (n : ℕ) (xs : List ℕ) (j : ℕ) → length xs ≤ j → get_or (padded n xs) j 0 ≡ 0
unfolding padded
padded-past n xs j h = behind-at xs (n - length xs) j h

pub padded-set : (n : ℕ) (xs : List ℕ) (j x : ℕ) → j < length xs → set (padded n xs) j x ≡ padded n (set xs j x)
unfolding padded
padded-set n xs j x h = set-append_left xs _ j x h ∙ ap (λ (k : ℕ). set xs j x ++ zeros (n - k)) (sym (length-set xs j x))

-- numbers in front and zeros behind make the list
pub padded-by : (w xs : List ℕ) (n : ℕ) → length w ≡ n → length xs ≤ n → ((j : ℕ) → j < length xs → get_or w j 0 ≡ get_or xs j 0)
    → ((j : ℕ) → length xs ≤ j → j < n → get_or w j 0 ≡ 0) → w ≡ padded n xs
padded-by w xs n s h front behind =
    ext_get_or 0 w (padded n xs) (s ∙ sym (length-padded n xs h))
    (λ j q.
    ⊎_elim
    (λ e. let l = ltb-true j (length xs) e in front j l ∙ sym (padded-at n xs j l))
    (λ e. let l = ltb-false j (length xs) e in behind j l (omega arith) ∙ sym (padded-past n xs j l))
    (bool_cases (ltb j (length xs))))

pub length-listed : (n : ℕ) (ts : List Triple) → 3 * length ts ≤ n → length (listed n ts) ≡ n
unfolding listed
length-listed n ts h = length-padded n (flat ts) (omega (arith, length-flat ts))
