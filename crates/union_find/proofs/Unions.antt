-- What a union does to the roots, and to a relation that holds between each code and its root.
-- Assumes nothing.
use Prim.Native.Nat.{ℕ}
use mathlib.Core.Bool.{Bool, true}
use mathlib.Core.Path.{◌≡◌, refl, sym, ◌∙◌, ap, subst}
use mathlib.Core.List.{List}
use Rattle.union_find.specs.Roots.{root, merge, Kept}
use Rattle.union_find.proofs.Laws.{root-le, root-root}
use Rattle.union_find.proofs.Classes.{Closure, step, same, flip, join, Classes, Also, old, new, merged}

-- ── a relation that is turned and chained moves along a closure ──
module _ (C : ℕ → ℕ → Type 0) (turn : (x y : ℕ) → C x y → C y x) (through : (x y z : ℕ) → C x y → C y z → C x z) where
  abbrev Moves : ℕ → ℕ → Type 0
  Moves x y = ((z : ℕ) → C z x → C z y) × ((z : ℕ) → C z y → C z x)

  moves : {R : ℕ → ℕ → Type 0} → ((x y : ℕ) → R x y → C x y) → {x y : ℕ} → Closure R x y → Moves x y
  moves h (step {a} {b} r) = (λ z k. through z a b k (h a b r), λ z k. through z b a k (turn a b (h a b r)))
  moves h same = (λ z k. k, λ z k. k)
  moves h (flip k) = ((moves h k).1, (moves h k).0)
  moves h (join k m) = (λ z c. (moves h m).0 z ((moves h k).0 z c), λ z c. (moves h k).1 z ((moves h m).1 z c))

-- ── l' is l with the classes of a and b made one ──
module _ (A : ℕ → Bool) (l l' : List ℕ) (a b : ℕ) (aa : A a ≡ true) (ab : A b ≡ true) (k : Kept A l l' (merge (root l) a b)) where
  -- a code and its root
  abbrev Up : ℕ → ℕ → Type 0
  Up x y = (A x ≡ true) × (y ≡ root l x)

  roots : Classes A Up (root l)
  roots = record {
    sound = λ x h. step (h, refl);
    small = λ x h. root-le l x;
    joined = λ x y r. sym (ap (root l) r.1 ∙ root-root l x);
  }

  joined : Classes A (Also Up a b) (merge (root l) a b)
  joined = merged A Up (root l) roots a b aa ab

  pub united_one : root l' a ≡ root l' b
  united_one = k.roots a aa ∙ joined.joined a b (new refl refl) ∙ sym (k.roots b ab)

  pub united_same : (x y : ℕ) → A x ≡ true → A y ≡ true → root l x ≡ root l y → root l' x ≡ root l' y
  united_same x y h m r =
      k.roots x h ∙ joined.joined x (root l x) (old (h, refl)) ∙ ap (merge (root l) a b) r
      ∙ sym (joined.joined y (root l y) (old (m, refl))) ∙ sym (k.roots y m)

  pub united_in : (C : ℕ → ℕ → Type 0) → ((x y : ℕ) → C x y → C y x) → ((x y z : ℕ) → C x y → C y z → C x z)
      → C a b → ((x : ℕ) → A x ≡ true → C x (root l x)) → (x : ℕ) → A x ≡ true → C x (root l' x)
  united_in C turn through h s x ax =
      subst (C x) (sym (k.roots x ax))
      ((moves C turn through related (joined.sound x ax)).0 x (through x (root l x) x (s x ax) (turn x (root l x) (s x ax))))
    where
      related : (y z : ℕ) → Also Up a b y z → C y z
      related y z (old r) = subst (C y) (sym r.1) (s y r.0)
      related y z (new p q) = rw (p, q) h
