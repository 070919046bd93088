-- The steps of find, union and flatten over plain lists. Each holds for any test A with a forest.
-- Assumes nothing.
use Prim.Native.Nat.{ℕ, ◌+◌, ◌<◌, ◌≤◌, min, max}
use mathlib.Core.Bool.{Bool, true, false, cond}
use mathlib.Core.Path.{◌≡◌, refl, sym, ◌∙◌, ap}
use mathlib.Core.List.{List}
use native.Mathlib.Omega.{arith}
use lib.Dec.{eqb}
use lib.ListN.{length, get_or, set, length-set}
use lib.Seq.{get_or-set_other}
use borrow.Author.Tests.{eqb-true}
use Rattle.model.specs.Codes.{absent}
use Rattle.theory.proofs.Tests.{cond_cases}
use Rattle.union_find.specs.Roots.{root, merge, Forest, Kept}
use Rattle.union_find.specs.Calls.{Active, RootFound, Apart, Flattened}
use Rattle.lists.proofs.Compare.{Cmp, lt, eq, gt, cmp}
use Rattle.union_find.proofs.Laws.{root_top, root-up, root_is_top, root-root, root-active, set_at, shortcut, linked, kept-start, kept_then, kept_ext, kept_set}

-- ── find ──
-- the walk from `from` is at x, whose parent is p
pub record Walk (A : ℕ → Bool) (l₀ : List ℕ) (from : ℕ) (l : List ℕ) (x p : ℕ) : Type 0 where
  pub kept : Kept A l₀ l (root l₀)
  pub active : A x ≡ true
  pub parent : p ≡ get_or l x 0
  pub goal : root l x ≡ root l₀ from

-- the same for every A
abbrev pub Walks : List ℕ → ℕ → List ℕ → ℕ → ℕ → Type 0
Walks l₀ from l x p = (A : ℕ → Bool) → Forest A l₀ → A from ≡ true → Walk A l₀ from l x p

pub walk_start : (l : List ℕ) (from p : ℕ) → p ≡ get_or l from 0 → Walks l from l from p
walk_start l from p e A f a = record { kept = kept-start A l f; active = a; parent = e; goal = refl }

module _ (A : ℕ → Bool) (l₀ : List ℕ) (from : ℕ) (l : List ℕ) (x p : ℕ) (w : Walk A l₀ from l x p) where
  parent-active : A p ≡ true
  parent-active = ap A w.parent ∙ w.kept.forest.links x w.active

  up-active : A (get_or l p 0) ≡ true
  up-active = w.kept.forest.links p parent-active

  pub walk-bounds : (length l ≤ absent) × (x < length l) × (p < length l) × (get_or l p 0 < length l)
  walk-bounds =
      let f = w.kept.forest in
      (f.size, f.inside x w.active, f.inside p parent-active, f.inside _ up-active)

  pub up-less : p < x → get_or l p 0 < x
  up-less h = omega (arith, w.kept.forest.falls p parent-active)

  up_root : p < x → root l (get_or l p 0) ≡ root l x
  up_root h = at (cmp (get_or l p 0) p) ∙ sym (root-up l x (rw (← w.parent) h) ∙ rw (← w.parent))
    where
      at : Cmp (get_or l p 0) p → root l (get_or l p 0) ≡ root l p
      at (lt k) = sym (root-up l p k)
      at (eq k) = ap (root l) k
      at (gt k) = absurd (omega (arith, w.kept.forest.falls p parent-active))

  step-at : p < x → (x' p' : ℕ) → x' ≡ get_or l p 0 → p' ≡ get_or (set l x (get_or l p 0)) x' 0 → Walk A l₀ from (set l x (get_or l p 0)) x' p'
  step-at h x' p' ex ep =
      let g = get_or l p 0 in
      let cut = shortcut l x g (w.kept.forest.inside x w.active) (up-less h) (up_root h) in
      record {
        kept = kept_set A l₀ l (root l₀) (root l₀) w.kept x g w.active up-active (up-less h) (λ y e. cut y ∙ e);
        active = rw ex up-active;
        parent = ep;
        goal = rw ex (cut g ∙ up_root h ∙ w.goal);
      }

pub walk_step : (l₀ : List ℕ) (from : ℕ) (l : List ℕ) (x p : ℕ) → Walks l₀ from l x p → p < x → (x' p' : ℕ)
    → x' ≡ get_or l p 0 → p' ≡ get_or (set l x (get_or l p 0)) x' 0 → Walks l₀ from (set l x (get_or l p 0)) x' p'
walk_step l₀ from l x p w h x' p' ex ep A f a = step-at A l₀ from l x p (w A f a) h x' p' ex ep

-- the walk for the A that a call is given
pub walk_of : {l₀ : List ℕ} {from : ℕ} {l : List ℕ} {x p : ℕ} (s : Active l₀ from) → Walks l₀ from l x p → Walk s.A l₀ from l x p
walk_of s w = w s.A s.forest s.active

pub walk_end : (l₀ : List ℕ) (from : ℕ) (l : List ℕ) (x p : ℕ) → Active l₀ from → Walks l₀ from l x p → x ≤ p → RootFound l₀ l from x
walk_end l₀ from l x p s w h = record {
  result = sym (root_top l x (rw (← (walk_of s w).parent) h)) ∙ (walk_of s w).goal;
  keeps = λ A f a. (w A f a).kept;
}

-- ── union ──
-- both roots are found: x of a, and y of b
pub record Both (A : ℕ → Bool) (l₀ l : List ℕ) (a b x y : ℕ) : Type 0 where
  pub kept : Kept A l₀ l (root l₀)
  pub a_active : A a ≡ true
  pub b_active : A b ≡ true
  pub x_active : A x ≡ true
  pub y_active : A y ≡ true
  pub x_root : x ≡ root l₀ a
  pub y_root : y ≡ root l₀ b

pub both : (A : ℕ → Bool) (l₀ l₁ l₂ : List ℕ) (a b x y : ℕ) → Forest A l₀ → A a ≡ true → A b ≡ true → RootFound l₀ l₁ a x → RootFound l₁ l₂ b y → Both A l₀ l₂ a b x y
both A l₀ l₁ l₂ a b x y f ha hb p q =
    let k = p.keeps A f ha in
    let ey : y ≡ root l₀ b = q.result ∙ k.roots b hb in
    record {
      kept = kept_then A l₀ l₁ l₂ k (q.keeps A k.forest hb);
      a_active = ha;
      b_active = hb;
      x_active = rw p.result (root-active l₀ A f a ha);
      y_active = rw ey (root-active l₀ A f b hb);
      x_root = p.result;
      y_root = ey;
    }

pub both-flip : {A : ℕ → Bool} {l₀ l : List ℕ} {a b x y : ℕ} → Both A l₀ l a b x y → Both A l₀ l b a y x
both-flip w = record {
  kept = w.kept;
  a_active = w.b_active;
  b_active = w.a_active;
  x_active = w.y_active;
  y_active = w.x_active;
  x_root = w.y_root;
  y_root = w.x_root;
}

pub merge-flip : (f : ℕ → ℕ) (a b y : ℕ) → merge f a b y ≡ merge f b a y
unfolding merge
merge-flip f a b y =
    let p : max (f a) (f b) ≡ max (f b) (f a) = omega arith in
    let q : min (f a) (f b) ≡ min (f b) (f a) = omega arith in
    rw (p, q)

module _ (A : ℕ → Bool) (l₀ l : List ℕ) (a b x y : ℕ) (w : Both A l₀ l a b x y) where
  pub both-bounds : (length l ≤ absent) × (a < length l) × (b < length l) × (x < length l) × (y < length l)
  both-bounds =
      let f = w.kept.forest in
      (f.size, f.inside a w.a_active, f.inside b w.b_active, f.inside x w.x_active, f.inside y w.y_active)

  own_x : root l x ≡ x
  own_x = w.kept.roots x w.x_active ∙ rw w.x_root (root-root l₀ a)

  own-y : root l y ≡ y
  own-y = w.kept.roots y w.y_active ∙ rw w.y_root (root-root l₀ b)

  -- the larger root y gets the smaller x as its parent
  pub link : (v : ℕ) → v ≡ x → x < y → Kept A l₀ (set l y v) (merge (root l₀) a b)
  unfolding merge
  link v e d = rw e (kept_set A l₀ l (root l₀) _ w.kept y x w.y_active w.x_active d
      (λ z q. linked l y x both-bounds.4 d (rw own-y at (root_is_top l y)) z ∙ is z q))
    where
      is : (z : ℕ) → root l z ≡ root l₀ z → cond (eqb (root l z) y) (root l x) (root l z) ≡ merge (root l₀) a b z
      is z q =
          let hi : max (root l₀ a) (root l₀ b) ≡ y = omega (arith, w.x_root, w.y_root) in
          let lo : min (root l₀ a) (root l₀ b) ≡ x = omega (arith, w.x_root, w.y_root) in
          rw (hi, lo, own_x, q)

  -- the two have one root already
  pub link-none : x ≡ y → Kept A l₀ l (merge (root l₀) a b)
  unfolding merge
  link-none e = kept_ext A _ w.kept is
    where
      is : (z : ℕ) → root l₀ z ≡ merge (root l₀) a b z
      is z =
          let hi : max (root l₀ a) (root l₀ b) ≡ y = omega (arith, w.x_root, w.y_root) in
          let lo : min (root l₀ a) (root l₀ b) ≡ y = omega (arith, w.x_root, w.y_root) in
          rw (hi, lo) (cond_cases (λ (r : ℕ). root l₀ z ≡ r) (eqb (root l₀ z) y) (λ t. eqb-true _ _ t) (λ t. refl))

pub link-flip : (A : ℕ → Bool) (l₀ l : List ℕ) (a b x y : ℕ) → Both A l₀ l a b x y → (v : ℕ) → v ≡ y → y < x → Kept A l₀ (set l x v) (merge (root l₀) a b)
link-flip A l₀ l a b x y w v e d = kept_ext A _ (link A l₀ l b a y x (both-flip w) v e d) (merge-flip (root l₀) b a)

-- ── flatten ──
-- the codes below i have their roots as parents; all else is as in l₀
pub record Done (l₀ l : List ℕ) (i : ℕ) : Type 0 where
  pub len : length l ≡ length l₀
  pub roots : (A : ℕ → Bool) → Apart A l₀ → (y : ℕ) → y < i → A y ≡ true → get_or l y 0 ≡ root l₀ y
  pub others : (A : ℕ → Bool) → Apart A l₀ → (y : ℕ) → A y ≡ false → get_or l y 0 ≡ get_or l₀ y 0
  pub rest : (y : ℕ) → i ≤ y → get_or l y 0 ≡ get_or l₀ y 0

module _ (l₀ l : List ℕ) (i : ℕ) (d : Done l₀ l i) (h : i < length l) where
  at_i : get_or l i 0 ≡ get_or l₀ i 0
  at_i = d.rest i (omega arith)

  -- the parent comes before i and has its root already
  pub done-set : (p : ℕ) (l' : List ℕ) → p ≡ get_or l i 0 → p < i → l' ≡ set l i (get_or l p 0) → Done l₀ l' (i + 1)
  done-set p l' e k q = rw q (record {
    len = length-set l i _ ∙ d.len;
    roots = λ A s y. set_at l i _ h (λ y z. y < i + 1 → A y ≡ true → z ≡ root l₀ y) y
        (λ b a. own A s a)
        (λ n b a. d.roots A s y (omega arith) a);
    others = λ A s y a. get_or-set_other l i y _ 0 (λ n. outside A s (ap A (sym n) ∙ a)) ∙ d.others A s y a;
    rest = λ y b. get_or-set_other l i y _ 0 (omega arith) ∙ d.rest y (omega arith);
  })
    where
      own : (A : ℕ → Bool) → Apart A l₀ → A i ≡ true → get_or l p 0 ≡ root l₀ i
      own A s a =
          let c : p ≡ get_or l₀ i 0 = e ∙ at_i in
          d.roots A s p k (ap A c ∙ s.forest.links i a) ∙ ap (root l₀) c ∙ sym (root-up l₀ i (omega arith))

      outside : (A : ℕ → Bool) → Apart A l₀ → A i ≡ false → ⊥
      outside A s a = omega (arith, s.rest i (omega (arith, d.len)) a, at_i)

  -- a root, or no code of the forest
  pub done_keep : (p : ℕ) (l' : List ℕ) → p ≡ get_or l i 0 → i ≤ p → l' ≡ l → Done l₀ l' (i + 1)
  done_keep p l' e k q = rw q (record {
    len = d.len;
    roots = λ A s y b a. at A s y b a (cmp y i);
    others = d.others;
    rest = λ y b. d.rest y (omega arith);
  })
    where
      own : (A : ℕ → Bool) → Apart A l₀ → A i ≡ true → get_or l i 0 ≡ root l₀ i
      own A s a =
          let t : i ≤ get_or l₀ i 0 = omega (arith, at_i) in
          omega (arith, at_i, root_top l₀ i t, s.forest.falls i a)

      at : (A : ℕ → Bool) → Apart A l₀ → (y : ℕ) → y < i + 1 → A y ≡ true → Cmp y i → get_or l y 0 ≡ root l₀ y
      at A s y b a (lt m) = d.roots A s y m a
      at A s y b a (eq m) = rw m (own A s (rw m at a))
      at A s y b a (gt m) = absurd (omega arith)

pub done_end : (l₀ l : List ℕ) (i : ℕ) → Done l₀ l i → length l ≤ i → Flattened l₀ l
done_end l₀ l i d h = record {
  len = d.len;
  roots = λ A s x a. d.roots A s x (omega (arith, s.forest.inside x a, d.len)) a;
  others = d.others;
}
