-- Members of lists: of all results, of those that pass a test, of mapped and tabulated lists, what tests over all elements say of them, and how
-- many pass.
-- Assumes nothing.
use Prim.Native.Nat.{ℕ, zero, suc, ◌≤◌, ◌<◌, ◌+◌}
use mathlib.Core.Path.{◌≡◌, refl, sym, subst, ◌∙◌, ap}
use mathlib.Core.Logic.{◌⊎◌, inl, inr, ⊎_elim}
use mathlib.Core.Bool.{Bool, true, false, cond, ◌||◌, true≢false}
use mathlib.Core.List.Memᴰ.{head as here}
use mathlib.Core.List.Memᴰ.{not-nil as no-mem}
use mathlib.Core.List.Memᴰ.{tail as there}
use mathlib.Core.List.{List, [], ◌∷◌, map, Memᴰ as Mem}
use mathlib.Core.List.Memᴰ.{append_cases}
use mathlib.Core.List.Memᴰ.{append_left}
use mathlib.Core.List.Memᴰ.{cases_cons as mem-cases}
use mathlib.Core.List.Memᴰ.{append_right}
use native.Mathlib.Omega.{arith}
use lib.Dec.{eqb}
use lib.ListN.{length, get_or}
use lib.Seq.{ext_get_or}
use native.Mathlib.Nat.{zero-add}
use borrow.Author.Tests.{eqb-true, eq-eqb}
use Rattle.model.specs.Lists.{any, all, how_many, collect, when, filter, among, tabulate}
use Rattle.theory.proofs.Tests.{or_true, or_left, or_right, and_true, and_both, cond_cases, bool_cases}

at_most_one : (b : Bool) → cond b 1 0 ≤ 1
at_most_one true = omega arith
at_most_one false = omega arith

module _ {A : Type 0} where
  -- ── tests ──
  pub any_found : (f : A → Bool) (xs : List A) → any f xs ≡ true → (x : A) × Mem x xs × (f x ≡ true)
  unfolding any
  any_found f [] h = absurd (true≢false (sym h))
  any_found f (x ∷ xs) h =
      ⊎_elim (λ e. (x, here refl, e)) (λ e. let y = any_found f xs e in (y.0, there y.1, y.2)) (or_true (f x) _ h)

  pub any-holds : (f : A → Bool) (xs : List A) (x : A) → Mem x xs → f x ≡ true → any f xs ≡ true
  unfolding any
  any-holds f [] x m h = absurd (no-mem m)
  any-holds f (y ∷ xs) x m h =
      ⊎_elim (λ (e : x ≡ y). or_left (f y) _ (ap f (sym e) ∙ h)) (λ k. or_right (f y) _ (any-holds f xs x k h)) (mem-cases m)

  pub any_none : (f : A → Bool) (xs : List A) → any f xs ≡ false → (x : A) → Mem x xs → f x ≡ false
  any_none f xs h x m = ⊎_elim (λ e. absurd (true≢false (sym (any-holds f xs x m e) ∙ h))) (λ e. e) (bool_cases (f x))

  pub none_any : (f : A → Bool) (xs : List A) → ((x : A) → Mem x xs → f x ≡ false) → any f xs ≡ false
  none_any f xs h =
      ⊎_elim (λ e. let y = any_found f xs e in absurd (true≢false (sym y.2 ∙ h y.0 y.1))) (λ e. e) (bool_cases (any f xs))

  pub all-at : (f : A → Bool) (xs : List A) → all f xs ≡ true → (x : A) → Mem x xs → f x ≡ true
  unfolding all
  all-at f [] h x m = absurd (no-mem m)
  all-at f (y ∷ xs) h x m =
      let z = and_true (f y) _ h in
      ⊎_elim (λ (e : x ≡ y). ap f e ∙ z.0) (λ k. all-at f xs z.1 x k) (mem-cases m)

  pub at_all : (f : A → Bool) (xs : List A) → ((x : A) → Mem x xs → f x ≡ true) → all f xs ≡ true
  unfolding all
  at_all f [] h = refl
  at_all f (x ∷ xs) h = and_both (f x) _ (h x (here refl)) (at_all f xs (λ y m. h y (there m)))

  -- ── how many pass ──
  pub many-le : (f : A → Bool) (xs : List A) → how_many f xs ≤ length xs
  unfolding how_many
  many-le f [] = omega arith
  many-le f (x ∷ xs) = omega (arith, at_most_one (f x), many-le f xs)

  pub many-none : (f : A → Bool) (xs : List A) → ((x : A) → Mem x xs → f x ≡ false) → how_many f xs ≡ 0
  unfolding how_many
  many-none f [] h = refl
  many-none f (x ∷ xs) h = rw (h x (here refl)) (omega (arith, many-none f xs (λ y m. h y (there m))))

  pub many-all : (f : A → Bool) (xs : List A) → ((x : A) → Mem x xs → f x ≡ true) → how_many f xs ≡ length xs
  unfolding how_many
  many-all f [] h = refl
  many-all f (x ∷ xs) h = rw (h x (here refl)) (omega (arith, many-all f xs (λ y m. h y (there m))))

  pub many-some : (f : A → Bool) (us : List A) (u : A) → Mem u us → f u ≡ true → 1 ≤ how_many f us
  unfolding how_many
  many-some f [] u m e = absurd (no-mem m)
  many-some f (x ∷ us) u m e =
      ⊎_elim (λ (q : u ≡ x). let h : f x ≡ true = ap f (sym q) ∙ e in rw h (omega arith)) (λ k. omega (arith, many-some f us u k e)) (mem-cases m)

  pub many_more : (f g : A → Bool) (xs : List A) → ((x : A) → f x ≡ true → g x ≡ true) → how_many f xs ≤ how_many g xs
  unfolding how_many
  many_more f g [] h = omega arith
  many_more f g (x ∷ xs) h =
      ⊎_elim (λ (e : f x ≡ true). rw (e, h x e) (omega (arith, many_more f g xs h))) (λ (e : f x ≡ false). rw e (omega (arith, many_more f g xs h))) (bool_cases (f x))

  -- ── one or none ──
  pub when-mem : {b : Bool} {x y : A} → Mem y (when b x) → (b ≡ true) × (y ≡ x)
  when-mem {b} {x} {y} =
      cond_cases (λ (l : List A). Mem y l → (b ≡ true) × (y ≡ x)) b (λ e m. (e, one (mem-cases m))) (λ e m. absurd (no-mem m))
    where
      one : (y ≡ x) ⊎ Mem y [] → y ≡ x
      one (inl e) = e
      one (inr m) = absurd (no-mem m)

  pub mem-when : {b : Bool} {x : A} → b ≡ true → Mem x (when b x)
  mem-when {b} {x} e = subst (λ (z : Bool). Mem x (when z x)) (sym e) (here refl)

-- ── all results ──
module _ {A B : Type 0} where
  pub collect-mem : (f : A → List B) (xs : List A) {y : B} → Mem y (collect f xs) → (x : A) × Mem x xs × Mem y (f x)
  unfolding collect
  collect-mem f [] m = absurd (no-mem m)
  collect-mem f (x ∷ xs) m =
      ⊎_elim (λ k. (x, here refl, k)) (λ k. let z = collect-mem f xs k in (z.0, there z.1, z.2)) (append_cases (f x) m)

  pub mem-collect : (f : A → List B) (xs : List A) {y : B} (x : A) → Mem x xs → Mem y (f x) → Mem y (collect f xs)
  unfolding collect
  mem-collect f [] x m k = absurd (no-mem m)
  mem-collect f (z ∷ xs) {y} x m k =
      ⊎_elim (λ (e : x ≡ z). append_left _ (subst (λ (w : A). Mem y (f w)) e k)) (λ l. append_right (f z) (mem-collect f xs x l k)) (mem-cases m)

  pub map-mem : (f : A → B) (xs : List A) {y : B} → Mem y (map f xs) → (x : A) × Mem x xs × (y ≡ f x)
  map-mem f [] m = absurd (no-mem m)
  map-mem f (x ∷ xs) m = ⊎_elim (λ e. (x, here refl, e)) (λ k. let z = map-mem f xs k in (z.0, there z.1, z.2)) (mem-cases m)

  pub mem-map : (f : A → B) (xs : List A) {y : B} (x : A) → Mem x xs → y ≡ f x → Mem y (map f xs)
  mem-map f [] x m e = absurd (no-mem m)
  mem-map f (z ∷ xs) x m e = ⊎_elim (λ (q : x ≡ z). here (e ∙ ap f q)) (λ k. there (mem-map f xs x k e)) (mem-cases m)

  -- a test over mapped elements
  pub any-map : (f : B → Bool) (g : A → B) (h : A → Bool) (xs : List A) → ((x : A) → f (g x) ≡ h x) → any f (map g xs) ≡ any h xs
  unfolding any
  any-map f g h [] e = refl
  any-map f g h (x ∷ xs) e = λ i. e x i || any-map f g h xs e i

-- ── the elements that pass ──
module _ {A : Type 0} (f : A → Bool) where
  pub filter-mem : (xs : List A) (x : A) → Mem x (filter f xs) → Mem x xs × (f x ≡ true)
  unfolding filter
  filter-mem xs x m =
      let z = collect-mem (λ x. when (f x) x) xs m in
      let y = when-mem z.2 in
      (subst (λ (x : A). Mem x xs) (sym y.1) z.1, ap f y.1 ∙ y.0)

  pub mem-filter : (xs : List A) (x : A) → Mem x xs → f x ≡ true → Mem x (filter f xs)
  unfolding filter
  mem-filter xs x m e = mem-collect (λ x. when (f x) x) xs x m (mem-when e)

-- ── the element at a place ──
pub mem_get_d : {A : Type 0} (xs : List A) (d : A) (k : ℕ) → k < length xs → Mem (get_or xs k d) xs
mem_get_d [] d k h = absurd (omega arith)
mem_get_d (x ∷ xs) d zero h = here refl
mem_get_d (x ∷ xs) d (suc k) h = there (mem_get_d xs d k (omega arith))

pub mem-place : {A : Type 0} (xs : List A) (d : A) {x : A} → Mem x xs → (k : ℕ) × (k < length xs) × (x ≡ get_or xs k d)
mem-place [] d m = absurd (no-mem m)
mem-place (y ∷ xs) d m = ⊎_elim (λ e. (0, omega arith, e)) (λ n. let w = mem-place xs d n in (suc w.0, omega (arith, w.1), w.2)) (mem-cases m)

-- ── the values of a function at i, i + 1, .. ──
module _ {A : Type 0} (f : ℕ → A) where
  pub length-tabulate : (i n : ℕ) → length (tabulate f i n) ≡ n
  unfolding tabulate
  length-tabulate i zero = refl
  length-tabulate i (suc n) = ap suc (length-tabulate (suc i) n)

  pub tabulate-at : (d : A) (i n x : ℕ) → x < n → get_or (tabulate f i n) x d ≡ f (i + x)
  unfolding tabulate
  tabulate-at d i zero x h = absurd (omega arith)
  tabulate-at d i (suc n) zero h = ap f (omega arith)
  tabulate-at d i (suc n) (suc x) h = tabulate-at d (suc i) n x (omega arith) ∙ ap f (omega arith)

  pub tabulate-out : (d : A) (i n x : ℕ) → n ≤ x → get_or (tabulate f i n) x d ≡ d
  unfolding tabulate
  tabulate-out d i zero x h = refl
  tabulate-out d i (suc n) zero h = absurd (omega arith)
  tabulate-out d i (suc n) (suc x) h = tabulate-out d (suc i) n x (omega arith)

  pub tabulate-mem : (i n : ℕ) {y : A} → Mem y (tabulate f i n) → (x : ℕ) × (i ≤ x) × (x < i + n) × (y ≡ f x)
  unfolding tabulate
  tabulate-mem i zero m = absurd (no-mem m)
  tabulate-mem i (suc n) m =
      ⊎_elim (λ e. (i, omega arith, omega arith, e)) (λ k. let z = tabulate-mem (suc i) n k in (z.0, omega (arith, z.1), omega (arith, z.2), z.3)) (mem-cases m)

  pub mem-tabulate : (i n x : ℕ) → i ≤ x → x < i + n → Mem (f x) (tabulate f i n)
  unfolding tabulate
  mem-tabulate i zero x h k = absurd (omega arith)
  mem-tabulate i (suc n) x h k =
      ⊎_elim (λ (e : eqb x i ≡ true). here (ap f (eqb-true _ _ e)))
      (λ (e : eqb x i ≡ false). there (mem-tabulate (suc i) n x (omega (arith, borrow.Author.Tests.eqb-false x i e)) (omega arith))) (bool_cases (eqb x i))

-- a list is its elements, place by place
pub tabulate-list : {A : Type 0} (d : A) (f : ℕ → A) (xs : List A) → ((k : ℕ) → k < length xs → f k ≡ get_or xs k d) → tabulate f 0 (length xs) ≡ xs
tabulate-list d f xs h =
    let n = length-tabulate f 0 (length xs) in
    ext_get_or d (tabulate f 0 (length xs)) xs n
    (λ k x. let y : k < length xs = omega arith in tabulate-at f d 0 (length xs) k y ∙ ap f (zero-add k) ∙ h k y)

pub among-mem : (c : ℕ) (xs : List ℕ) → among c xs ≡ true → Mem c xs
unfolding among
among-mem c xs h = let y = any_found (λ x. eqb c x) xs h in subst (λ (z : ℕ). Mem z xs) (sym (eqb-true _ _ y.2)) y.1

pub mem-among : (c : ℕ) (xs : List ℕ) → Mem c xs → among c xs ≡ true
unfolding among
mem-among c xs m = any-holds (λ x. eqb c x) xs c m (eq-eqb c c refl)
