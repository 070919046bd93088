-- Triples in rising order: the loop that looks for it, and the run of triples with one subject and one property.
-- Assumes nothing.
use Prim.Native.Nat.{ℕ, ◌+◌, ◌-◌, ◌≤◌}
use mathlib.Core.Path.{◌≡◌, sym, ◌∙◌, subst}
use mathlib.Core.Bool.{true, false, true≢false}
use native.Mathlib.Omega.{arith}
use Rattle.model.specs.declared.Triple.{Triple}
use Rattle.model.specs.Triples.{triple, before}
use Rattle.model.specs.Order.{Lt, by_subject, by_property, by_object}
use Rattle.theory.proofs.Order.{lt_trans, before-lt, lt-before}
use Rattle.lists.specs.Flat.{RisingPart}
use Rattle.lists.proofs.Compare.{Cmp, lt, eq, gt, cmp}

-- ── rising order ──
pub rises-step : (f : ℕ → Triple) (i : ℕ) → 1 ≤ i → RisingPart f 0 i → (t : Triple) → t ≡ f i → before (f (i - 1)) t ≡ true → RisingPart f 0 (i + 1)
rises-step f i low r t e h a b x y z = go (cmp b i)
  where
    last : Lt (f (i - 1)) (f i)
    last = subst (Lt (f (i - 1))) e (before-lt _ _ h)

    up : Cmp a (i - 1) → Lt (f a) (f i)
    up (lt w) = lt_trans (r a (i - 1) x w (omega arith)) last
    up (eq w) = subst (λ (k : ℕ). Lt (f k) (f i)) (sym w) last
    up (gt w) = absurd (omega arith)

    go : Cmp b i → Lt (f a) (f b)
    go (lt w) = r a b x y w
    go (eq w) = subst (λ (k : ℕ). Lt (f a) (f k)) (sym w) (up (cmp a (i - 1)))
    go (gt w) = absurd (omega arith)

pub rises-end : (f : ℕ → Triple) (i n : ℕ) → RisingPart f 0 i → n ≤ i → RisingPart f 0 n
rises-end f i n r h a b x y z = r a b x y (omega arith)

pub rises-part : (f : ℕ → Triple) (n a b : ℕ) → RisingPart f 0 n → b ≤ n → RisingPart f a b
rises-part f n a b r h i j x y z = r i j (omega arith) y (omega arith)

-- ── one subject and one property ──
-- a triple with this front does not come before the least one with it
pub front_not_before : (t : Triple) (s p : ℕ) → Lt t (triple s p 0) → t.subject ≡ s → t.property ≡ p → ⊥
front_not_before t s p (by_subject h) e q = omega arith
front_not_before t s p (by_property x h) e q = omega arith
front_not_before t s p (by_object x y h) e q = omega arith

-- a triple that has not the front and does not come before: no later triple has the front
pub front-later : (t u : Triple) (s p : ℕ) → before t (triple s p 0) ≡ false → (t.subject ≡ s → t.property ≡ p → ⊥) → Lt t u → u.subject ≡ s → u.property ≡ p → ⊥
front-later t u s p b n h e q = go h
  where
    not_lt : Lt t (triple s p 0) → ⊥
    not_lt w = true≢false (sym (lt-before _ _ w) ∙ b)

    go : Lt t u → ⊥
    go (by_subject w) = not_lt (by_subject (omega arith))
    go (by_property x w) = not_lt (by_property (x ∙ e) (omega arith))
    go (by_object x y w) = n (x ∙ e) (y ∙ q)
