-- Laws of triples by their place in a flat list.
-- Assumes nothing.
use Prim.Native.Nat.{ℕ, zero, suc, ◌+◌, ◌*◌, ◌/◌, ◌<◌, ◌≤◌}
use mathlib.Core.Path.{◌≡◌, refl, sym, ◌∙◌, ap, subst}
use mathlib.Core.Logic.{◌⊎◌, ⊎_elim}
use mathlib.Core.List.{List, [], ◌∷◌}
use native.Mathlib.Omega.{arith}
use lib.ListN.{length, get_or, set, take, length-set}
use lib.Seq.{get_or-set_same, get_or-set_other, lt-length-set, length-take-le}
use Rattle.model.specs.declared.Triple.{Triple}
use Rattle.model.specs.Lists.{tabulate}
use Rattle.model.specs.Triples.{triple, triples, flat}
use Rattle.model.specs.Order.{Lt, Rising}
use Rattle.theory.proofs.Lists.{length-tabulate, tabulate-mem, mem-tabulate}
use Rattle.theory.proofs.Flat.{flat-triples}
use Rattle.lists.specs.Flat.{at, put_at, swapped, RisingPart}
use Rattle.lists.proofs.Compare.{Cmp, lt, eq, gt, cmp}

-- ── storing a triple ──
module _ (l : List ℕ) (k : ℕ) (t : Triple) (h : 3 * k + 2 < length l) where
  put-off : (w : ℕ) → (w ≡ 3 * k → ⊥) → (w ≡ 3 * k + 1 → ⊥) → (w ≡ 3 * k + 2 → ⊥) → get_or (put_at l k t) w 0 ≡ get_or l w 0
  unfolding put_at
  put-off w x y z =
      get_or-set_other (set (set l (3 * k) t.subject) (3 * k + 1) t.property) (3 * k + 2) w t.object 0 z
      ∙ get_or-set_other (set l (3 * k) t.subject) (3 * k + 1) w t.property 0 y
      ∙ get_or-set_other l (3 * k) w t.subject 0 x

  put-subject : get_or (put_at l k t) (3 * k) 0 ≡ t.subject
  unfolding put_at
  put-subject =
      get_or-set_other (set (set l (3 * k) t.subject) (3 * k + 1) t.property) (3 * k + 2) (3 * k) t.object 0 (omega arith)
      ∙ get_or-set_other (set l (3 * k) t.subject) (3 * k + 1) (3 * k) t.property 0 (omega arith)
      ∙ get_or-set_same l (3 * k) t.subject 0 (omega arith)

  put-property : get_or (put_at l k t) (3 * k + 1) 0 ≡ t.property
  unfolding put_at
  put-property =
      get_or-set_other (set (set l (3 * k) t.subject) (3 * k + 1) t.property) (3 * k + 2) (3 * k + 1) t.object 0 (omega arith)
      ∙ get_or-set_same (set l (3 * k) t.subject) (3 * k + 1) t.property 0 (lt-length-set l (3 * k) t.subject (omega arith))

  put-object : get_or (put_at l k t) (3 * k + 2) 0 ≡ t.object
  unfolding put_at
  put-object =
      get_or-set_same (set (set l (3 * k) t.subject) (3 * k + 1) t.property) (3 * k + 2) t.object 0
      (lt-length-set (set l (3 * k) t.subject) (3 * k + 1) t.property (lt-length-set l (3 * k) t.subject h))

  -- the stored triple stands at its place
  pub put_same : at (put_at l k t) k ≡ t
  unfolding at
  put_same = λ i. triple (put-subject i) (put-property i) (put-object i)

  -- the others stay
  pub put_other : (j : ℕ) → (j ≡ k → ⊥) → at (put_at l k t) j ≡ at l j
  unfolding at
  put_other j n =
      let a = put-off (3 * j) (λ e. n (omega arith)) (omega arith) (omega arith) in
      let b = put-off (3 * j + 1) (omega arith) (λ e. n (omega arith)) (omega arith) in
      let d = put-off (3 * j + 2) (omega arith) (omega arith) (λ e. n (omega arith)) in
      λ i. triple (a i) (b i) (d i)

  -- and so do the numbers outside
  pub put_rest : (w : ℕ) → (w < 3 * k) ⊎ (3 * k + 3 ≤ w) → get_or (put_at l k t) w 0 ≡ get_or l w 0
  put_rest w g = put-off w (⊎_elim (λ x. omega arith) (λ x. omega arith) g) (⊎_elim (λ x. omega arith) (λ x. omega arith) g) (⊎_elim (λ x. omega arith) (λ x. omega arith) g)

pub put-length : (l : List ℕ) (k : ℕ) (t : Triple) → length (put_at l k t) ≡ length l
unfolding put_at
put-length l k t = simp length-set

-- ── the triples of a flat list, by their places ──
tabulate-shift : (f g : ℕ → Triple) → ((i : ℕ) → f (suc i) ≡ g i) → (k n : ℕ) → tabulate f (suc k) n ≡ tabulate g k n
unfolding tabulate
tabulate-shift f g e k zero = refl
tabulate-shift f g e k (suc n) = rw (e k, tabulate-shift f g e (suc k) n)

at-cons : (s p o : ℕ) (r : List ℕ) (i : ℕ) → at (s ∷ p ∷ o ∷ r) (suc i) ≡ at r i
unfolding at
at-cons s p o r i =
    let a : 3 * suc i ≡ suc (suc (suc (3 * i))) = omega arith in
    let b : 3 * suc i + 1 ≡ suc (suc (suc (3 * i + 1))) = omega arith in
    let d : 3 * suc i + 2 ≡ suc (suc (suc (3 * i + 2))) = omega arith in
    rw (b, d, a)

at_first : (s p o : ℕ) (r : List ℕ) → at (s ∷ p ∷ o ∷ r) 0 ≡ triple s p o
unfolding at
at_first s p o r = refl

-- the first n triples of a flat list are those at 0, .., n - 1
pub triples-places : (l : List ℕ) (n : ℕ) → 3 * n ≤ length l → triples (take (3 * n) l) ≡ tabulate (at l) 0 n
unfolding triples tabulate
triples-places l zero h = refl
triples-places [] (suc n) h = absurd (omega arith)
triples-places (s ∷ []) (suc n) h = absurd (omega arith)
triples-places (s ∷ p ∷ []) (suc n) h = absurd (omega arith)
triples-places (s ∷ p ∷ o ∷ r) (suc n) h =
    let a : 3 * suc n ≡ suc (suc (suc (3 * n))) = omega arith in
    rw (a, triples-places r n (omega arith), tabulate-shift (at (s ∷ p ∷ o ∷ r)) (at r) (at-cons s p o r) 0 n)
    (ap (λ (t : Triple). t ∷ tabulate (at r) 0 n) (sym (at_first s p o r)))

pub flat-places : (l : List ℕ) (n : ℕ) → 3 * n ≤ length l → flat (tabulate (at l) 0 n) ≡ take (3 * n) l
flat-places l n h = rw (← triples-places l n h) (flat-triples (take (3 * n) l) (let e = length-take-le (3 * n) l h in omega arith))

-- lists of values that agree place by place
pub tabulate-agree : {A : Type 0} (f g : ℕ → A) (k n : ℕ) → ((i : ℕ) → k ≤ i → i < k + n → f i ≡ g i) → tabulate f k n ≡ tabulate g k n
unfolding tabulate
tabulate-agree f g k zero e = refl
tabulate-agree f g k (suc n) e = rw (e k (omega arith) (omega arith), tabulate-agree f g (suc k) n (λ i a b. e i (omega arith) (omega arith)))

-- ── rising places ──
pub places-rising : (f : ℕ → Triple) (k n : ℕ) → RisingPart f k (k + n) → Rising (tabulate f k n)
unfolding tabulate
places-rising f k zero h = tt
places-rising f k (suc n) h = (
  λ y m. let w = tabulate-mem f (suc k) n m in subst (Lt (f k)) (sym w.3) (h k w.0 (omega arith) (omega (arith, w.1)) (omega (arith, w.2))),
  places-rising f (suc k) n (λ i j a b d. h i j (omega arith) b (omega arith)),
)

pub rising-places : (f : ℕ → Triple) (k n : ℕ) → Rising (tabulate f k n) → RisingPart f k (k + n)
unfolding tabulate
rising-places f k zero r i j a b d = absurd (omega arith)
rising-places f k (suc n) r i j a b d = go (λ h. rising-places f (suc k) n r.1 i j h b (omega arith)) (cmp k i)
  where
    go : (k < i → Lt (f i) (f j)) → Cmp k i → Lt (f i) (f j)
    go later (lt h) = later h
    go later (eq h) = subst (λ (z : ℕ). Lt (f z) (f j)) h (r.0 (f j) (mem-tabulate f (suc k) n j (omega arith) (omega arith)))
    go later (gt h) = absurd (omega arith)

-- ── exchanging two triples ──
pub swap_is : (l m n : List ℕ) (i j : ℕ) (a b : Triple) → a ≡ at l i → b ≡ at l j → m ≡ put_at l i b → n ≡ put_at m j a → n ≡ swapped l i j
swap_is l m n i j a b p q r s = s ∙ (λ k. put_at ((r ∙ ap (put_at l i) q) k) j (p k))

-- ── the whole triples of a table ──
pub triples_all : (l : List ℕ) (n : ℕ) → 3 * n ≤ length l → length l < 3 * n + 3 → triples l ≡ tabulate (at l) 0 n
unfolding triples tabulate
triples_all [] zero h k = refl
triples_all [] (suc n) h k = absurd (omega arith)
triples_all (s ∷ []) zero h k = refl
triples_all (s ∷ []) (suc n) h k = absurd (omega arith)
triples_all (s ∷ p ∷ []) zero h k = refl
triples_all (s ∷ p ∷ []) (suc n) h k = absurd (omega arith)
triples_all (s ∷ p ∷ o ∷ r) zero h k = absurd (omega arith)
triples_all (s ∷ p ∷ o ∷ r) (suc n) h k =
    rw (triples_all r n (omega arith) (omega arith), tabulate-shift (at (s ∷ p ∷ o ∷ r)) (at r) (at-cons s p o r) 0 n)
    (ap (λ (t : Triple). t ∷ tabulate (at r) 0 n) (sym (at_first s p o r)))

pub triples-table : (l : List ℕ) → triples l ≡ tabulate (at l) 0 (length l / 3)
triples-table l = triples_all l (length l / 3) (omega arith) (omega arith)

pub whole-triples : (l : List ℕ) → length (triples l) ≡ length l / 3
whole-triples l = ap (λ (ts : List Triple). length ts) (triples-table l) ∙ length-tabulate (at l) 0 (length l / 3)

-- within a list the default is not read
pub same_default : (l : List ℕ) (i d e : ℕ) → i < length l → get_or l i d ≡ get_or l i e
same_default [] i d e h = absurd (omega arith)
same_default (x ∷ l) zero d e h = refl
same_default (x ∷ l) (suc i) d e h = same_default l i d e (omega arith)
