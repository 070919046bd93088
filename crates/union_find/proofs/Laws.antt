-- Laws of roots, and of one entry replaced.
-- Assumes nothing.
use Prim.Native.Nat.{ℕ, zero, suc, ◌<◌, ◌≤◌}
use mathlib.Core.Bool.{Bool, true, false, cond}
use mathlib.Core.Path.{◌≡◌, refl, sym, ◌∙◌, ap}
use mathlib.Core.Logic.{⊎_elim}
use mathlib.Core.List.{List}
use native.Mathlib.Omega.{arith}
use native.Mathlib.Decide.{dec_lt, ℕ_discrete}
use lib.Dec.{ltb, eqb}
use lib.ListN.{length, get_or, set, length-set}
use lib.Seq.{get_or-set_same, get_or-set_other}
use borrow.Author.Tests.{ltb-true, lt-ltb, le-ltb, eq-eqb, ne_eqb}
use Rattle.theory.proofs.Tests.{bool_cases, not_both}
use Rattle.union_find.specs.Roots.{climb, root, Forest, Kept}

-- ── roots ──
climb-enough : (k m : ℕ) (l : List ℕ) (x : ℕ) → x ≤ k → x ≤ m → climb k l x ≡ climb m l x
unfolding climb
climb-enough zero zero l x a b = refl
climb-enough zero (suc m) l x a b = simp (le-ltb (get_or l x 0) x (omega arith))
climb-enough (suc k) zero l x a b = simp (le-ltb (get_or l x 0) x (omega arith))
climb-enough (suc k) (suc m) l x a b = ⊎_elim
    (λ (e : ltb (get_or l x 0) x ≡ true). let h : get_or l x 0 < x = ltb-true _ _ e in rw e (climb-enough k m l (get_or l x 0) (omega arith) (omega arith)))
    (λ (e : ltb (get_or l x 0) x ≡ false). rw e)
    (bool_cases (ltb (get_or l x 0) x))

pub root_top : (l : List ℕ) (x : ℕ) → x ≤ get_or l x 0 → root l x ≡ x
unfolding root climb
root_top l zero h = refl
root_top l (suc x) h = simp (le-ltb (get_or l (suc x) 0) (suc x) h)

pub root-up : (l : List ℕ) (x : ℕ) → get_or l x 0 < x → root l x ≡ root l (get_or l x 0)
unfolding root climb
root-up l zero h = absurd (omega arith)
root-up l (suc x) h =
    rw (lt-ltb (get_or l (suc x) 0) (suc x) h) (climb-enough x (get_or l (suc x) 0) l (get_or l (suc x) 0) (omega arith) (omega arith))

module _ (l : List ℕ) where
  -- what holds of the codes whose parent is not smaller, and of a code if it holds of its smaller parent, holds of all
  pub by_parents : (P : ℕ → Type 0) → ((x : ℕ) → x ≤ get_or l x 0 → P x) → ((x : ℕ) → get_or l x 0 < x → P (get_or l x 0) → P x) → (x : ℕ) → P x
  by_parents P top up x = go (suc x) x (omega arith)
    where
      at : (x : ℕ) → ((y : ℕ) → y < x → P y) → Dec (get_or l x 0 < x) → P x
      at x below (yes h) = up x h (below (get_or l x 0) h)
      at x below (no n) = top x (omega arith)

      go : (k x : ℕ) → x < k → P x
      go zero x h = absurd (omega arith)
      go (suc k) x h = at x (λ y m. go k y (omega arith)) (dec_lt (get_or l x 0) x)

  pub root-le : (x : ℕ) → root l x ≤ x
  root-le = by_parents (λ x. root l x ≤ x) (λ x h. omega (arith, root_top l x h)) (λ x h k. omega (arith, root-up l x h))

  pub root_is_top : (x : ℕ) → root l x ≤ get_or l (root l x) 0
  root_is_top = by_parents (λ x. root l x ≤ get_or l (root l x) 0) (λ x h. rw (root_top l x h) h) (λ x h k. rw (root-up l x h) k)

  pub root-root : (x : ℕ) → root l (root l x) ≡ root l x
  root-root x = root_top l (root l x) (root_is_top x)

  pub root-active : (A : ℕ → Bool) → Forest A l → (x : ℕ) → A x ≡ true → A (root l x) ≡ true
  root-active A f = by_parents (λ x. A x ≡ true → A (root l x) ≡ true)
      (λ x h a. rw (root_top l x h) a)
      (λ x h k a. rw (root-up l x h) (k (f.links x a)))

-- ── one entry replaced ──
module _ (l : List ℕ) (x v : ℕ) (w : x < length l) where
  pub set_at : (P : ℕ → ℕ → Type 0) (y : ℕ) → P x v → ((y ≡ x → ⊥) → P y (get_or l y 0)) → P y (get_or (set l x v) y 0)
  set_at P y p q = go (ℕ_discrete y x)
    where
      go : Dec (y ≡ x) → P y (get_or (set l x v) y 0)
      go (yes e) = rw (e, get_or-set_same l x v 0 w) p
      go (no n) = rw (get_or-set_other l x y v 0 n) (q n)

  -- a smaller code of the same class as the parent: every root stays
  pub shortcut : v < x → root l v ≡ root l x → (y : ℕ) → root (set l x v) y ≡ root l y
  shortcut d e = by_parents (set l x v) (λ y. root (set l x v) y ≡ root l y)
      (λ y h. root_top (set l x v) y h ∙ set_at (λ y z. y ≤ z → y ≡ root l y) y (λ b. absurd (omega arith)) (λ n b. sym (root_top l y b)) h)
      (λ y h k. root-up (set l x v) y h ∙ k ∙ set_at (λ y z. z < y → root l z ≡ root l y) y (λ b. e) (λ n b. sym (root-up l y b)) h)

  -- a smaller code as the parent of a root: the root's class goes to that code's root
  pub linked : v < x → x ≤ get_or l x 0 → (y : ℕ) → root (set l x v) y ≡ cond (eqb (root l y) x) (root l v) (root l y)
  linked d t = by_parents (set l x v) (λ y. root (set l x v) y ≡ to y)
      (λ y h. root_top (set l x v) y h ∙ set_at (λ y z. y ≤ z → y ≡ to y) y (λ b. absurd (omega arith)) (λ n b. rw (root_top l y b, ne_eqb y x n)) h)
      (λ y h k. root-up (set l x v) y h ∙ k ∙ set_at (λ y z. z < y → to z ≡ to y) y (λ b. both) (λ n b. rw (root-up l y b)) h)
    where
      to : ℕ → ℕ
      to y = cond (eqb (root l y) x) (root l v) (root l y)

      both : to v ≡ to x
      both =
          let n : root l v ≡ x → ⊥ = omega (arith, root-le l v) in
          rw (ne_eqb (root l v) x n, root_top l x t, eq-eqb x x refl)

-- A' is A but for x
module _ (A A' : ℕ → Bool) (l : List ℕ) (f : Forest A l) (x v : ℕ) (same : (y : ℕ) → (y ≡ x → ⊥) → A' y ≡ A y) where
  pub forest-set : x < length l → v ≤ x → A' x ≡ true → A' v ≡ true → Forest A' (set l x v)
  forest-set w d ax av = record {
    size = simp length-set f.size;
    inside = λ y h. simp length-set (in_range y h (ℕ_discrete y x));
    falls = λ y. set_at l x v w (λ y z. A' y ≡ true → z ≤ y) y (λ h. d) (λ n h. f.falls y (sym (same y n) ∙ h));
    links = λ y. set_at l x v w (λ y z. A' y ≡ true → A' z ≡ true) y (λ h. av) (λ n h. more _ (f.links y (sym (same y n) ∙ h)) (ℕ_discrete _ x));
  }
    where
      in_range : (y : ℕ) → A' y ≡ true → Dec (y ≡ x) → y < length l
      in_range y h (yes e) = rw e w
      in_range y h (no n) = f.inside y (sym (same y n) ∙ h)

      more : (z : ℕ) → A z ≡ true → Dec (z ≡ x) → A' z ≡ true
      more z h (yes e) = rw e ax
      more z h (no n) = same z n ∙ h

-- ── lists with the same entries outside A ──
module _ (A : ℕ → Bool) where
  pub kept-start : (l : List ℕ) → Forest A l → Kept A l l (root l)
  kept-start l f = record { forest = f; len = refl; others = λ x h. refl; roots = λ x h. refl }

  pub kept_then : (l₀ l₁ l₂ : List ℕ) → Kept A l₀ l₁ (root l₀) → Kept A l₁ l₂ (root l₁) → Kept A l₀ l₂ (root l₀)
  kept_then l₀ l₁ l₂ p q = record {
    forest = q.forest;
    len = q.len ∙ p.len;
    others = λ x h. q.others x h ∙ p.others x h;
    roots = λ x h. q.roots x h ∙ p.roots x h;
  }

  pub kept_ext : {l l' : List ℕ} {f : ℕ → ℕ} (g : ℕ → ℕ) → Kept A l l' f → ((x : ℕ) → f x ≡ g x) → Kept A l l' g
  kept_ext g k e = record { forest = k.forest; len = k.len; others = k.others; roots = λ x h. k.roots x h ∙ e x }

  pub kept_set : (l₀ l : List ℕ) (f g : ℕ → ℕ) → Kept A l₀ l f → (x v : ℕ) → A x ≡ true → A v ≡ true → v < x
      → ((y : ℕ) → root l y ≡ f y → root (set l x v) y ≡ g y) → Kept A l₀ (set l x v) g
  kept_set l₀ l f g k x v ax av d e = record {
    forest = forest-set A A l k.forest x v (λ y n. refl) (k.forest.inside x ax) (omega arith) ax av;
    len = length-set l x v ∙ k.len;
    others = λ y h. get_or-set_other l x y v 0 (λ q. not_both (ap A q ∙ ax) h) ∙ k.others y h;
    roots = λ y h. e y (k.roots y h);
  }
