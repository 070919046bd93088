-- What the representatives that a function gives to the codes of A have to do with the smallest equivalence.
-- Assumes nothing.
use Prim.Native.Nat.{ℕ, ◌<◌, ◌≤◌, min, max}
use mathlib.Core.Bool.{Bool, true, false}
use mathlib.Core.Path.{◌≡◌, refl, sym, ◌∙◌, ap}
use mathlib.Core.List.{List}
use native.Mathlib.Omega.{arith}
use native.Mathlib.Decide.{ℕ_discrete}
use lib.ListN.{length, get_or, set}
use lib.Seq.{get_or-set_same, get_or-set_other}
use borrow.Author.Tests.{eq-eqb, ne_eqb}
use Rattle.theory.proofs.Tests.{not_both}
use Rattle.union_find.specs.Roots.{root, merge, Forest}
use Rattle.lists.proofs.Compare.{Cmp, lt, eq, gt, cmp}
use Rattle.union_find.proofs.Laws.{by_parents, root_top, root-up, forest-set}

-- the smallest equivalence that contains R
pub data Closure (R : ℕ → ℕ → Type 0) : ℕ → ℕ → Type 0 where
  step : {a b : ℕ} → R a b → Closure R a b
  same : {a : ℕ} → Closure R a a
  flip : {a b : ℕ} → Closure R a b → Closure R b a
  join : {a b c : ℕ} → Closure R a b → Closure R b c → Closure R a c

-- f gives each code of A the smallest code of its class
pub record Classes (A : ℕ → Bool) (R : ℕ → ℕ → Type 0) (f : ℕ → ℕ) : Type 0 where
  pub sound : (x : ℕ) → A x ≡ true → Closure R x (f x)
  pub small : (x : ℕ) → A x ≡ true → f x ≤ x
  pub joined : (a b : ℕ) → R a b → f a ≡ f b

pub wider : {R S : ℕ → ℕ → Type 0} → ((a b : ℕ) → R a b → S a b) → {x y : ℕ} → Closure R x y → Closure S x y
wider h (step {a} {b} r) = step (h a b r)
wider h same = same
wider h (flip k) = flip (wider h k)
wider h (join k m) = join (wider h k) (wider h m)

-- ── one pair more ──
pub data Also (R : ℕ → ℕ → Type 0) (a b : ℕ) : ℕ → ℕ → Type 0 where
  old : {x y : ℕ} → R x y → Also R a b x y
  new : {x y : ℕ} → x ≡ a → y ≡ b → Also R a b x y

module _ (A : ℕ → Bool) (R : ℕ → ℕ → Type 0) (f : ℕ → ℕ) (c : Classes A R f) (a b : ℕ) (aa : A a ≡ true) (ab : A b ≡ true) where
  up : {x y : ℕ} → Closure R x y → Closure (Also R a b) x y
  up k = wider (λ x y r. old r) k

  across : Closure (Also R a b) (f a) (f b)
  across = join (flip (up (c.sound a aa))) (join (step (new refl refl)) (up (c.sound b ab)))

  high-low : Closure (Also R a b) (max (f a) (f b)) (min (f a) (f b))
  high-low = go (cmp (f a) (f b))
    where
      go : Cmp (f a) (f b) → Closure (Also R a b) (max (f a) (f b)) (min (f a) (f b))
      go (lt h) =
          let p : max (f a) (f b) ≡ f b = omega arith in
          let q : min (f a) (f b) ≡ f a = omega arith in
          rw (p, q) (flip across)
      go (eq h) =
          let p : max (f a) (f b) ≡ f b = omega arith in
          let q : min (f a) (f b) ≡ f a = omega arith in
          rw (p, q) (flip across)
      go (gt h) =
          let p : max (f a) (f b) ≡ f a = omega arith in
          let q : min (f a) (f b) ≡ f b = omega arith in
          rw (p, q) across

  -- a code's new representative: the smaller of the two, or the old one
  data Case (y : ℕ) : Type 0 where
    high : f y ≡ max (f a) (f b) → merge f a b y ≡ min (f a) (f b) → Case y
    other : (f y ≡ max (f a) (f b) → ⊥) → merge f a b y ≡ f y → Case y

  case : (y : ℕ) → Case y
  unfolding merge
  case y = go (ℕ_discrete (f y) (max (f a) (f b)))
    where
      go : Dec (f y ≡ max (f a) (f b)) → Case y
      go (yes e) = high e (rw (eq-eqb (f y) (max (f a) (f b)) e))
      go (no n) = other n (rw (ne_eqb (f y) (max (f a) (f b)) n))

  pub merged : Classes A (Also R a b) (merge f a b)
  unfolding merge
  merged = record { sound = λ x h. snd x h (case x); small = λ x h. sml x h (case x); joined = λ x y r. jnd x y r }
    where
      snd : (x : ℕ) → A x ≡ true → Case x → Closure (Also R a b) x (merge f a b x)
      snd x h (high e g) = rw g (join (rw e at (up (c.sound x h))) high-low)
      snd x h (other n g) = rw g (up (c.sound x h))

      sml : (x : ℕ) → A x ≡ true → Case x → merge f a b x ≤ x
      sml x h (high e g) = omega (arith, c.small x h)
      sml x h (other n g) = omega (arith, c.small x h)

      one : Case a → Case b → merge f a b a ≡ merge f a b b
      one (high e g) (high e' g') = cc
      one (high e g) (other n' g') = omega arith
      one (other n g) (high e' g') = omega arith
      one (other n g) (other n' g') = omega arith

      jnd : (x y : ℕ) → Also R a b x y → merge f a b x ≡ merge f a b y
      jnd x y (old r) = rw (c.joined x y r)
      jnd x y (new p q) = rw (p, q) (one (case a) (case b))

-- ── one code more ──
-- A' is A with the code x
pub record Added (A A' : ℕ → Bool) (x : ℕ) : Type 0 where
  pub before : A x ≡ false
  pub after : A' x ≡ true
  pub rest : (y : ℕ) → (y ≡ x → ⊥) → A' y ≡ A y

module _ (A A' : ℕ → Bool) (x : ℕ) (n : Added A A' x) where
  old-code : (y : ℕ) → A y ≡ true → y ≡ x → ⊥
  old-code y h e = not_both h (ap A e ∙ n.before)

  -- its entry is the code itself
  module _ (l l' : List ℕ) (f : Forest A l) (w : x < length l) (e : l' ≡ set l x x) where
    pub forest-add : Forest A' l'
    forest-add = rw e (forest-set A A' l f x x n.rest w (omega arith) n.after n.after)

    pub root-add : root l' x ≡ x
    root-add = rw e (root_top (set l x x) x (omega (arith, get_or-set_same l x x 0 w)))

    pub roots-add : (y : ℕ) → A y ≡ true → root l' y ≡ root l y
    roots-add = by_parents l (λ y. A y ≡ true → root l' y ≡ root l y)
        (λ y h a. root_top l' y (omega (arith, kept y a)) ∙ sym (root_top l y h))
        (λ y h k a. root-up l' y (omega (arith, kept y a)) ∙ ap (root l') (kept y a) ∙ k (f.links y a) ∙ sym (root-up l y h))
      where
        kept : (y : ℕ) → A y ≡ true → get_or l' y 0 ≡ get_or l y 0
        kept y a = rw e (get_or-set_other l x y x 0 (old-code y a))
