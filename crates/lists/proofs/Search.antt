-- Binary search over places in rising order, and clearing.
-- Assumes nothing.
use Prim.Native.Nat.{ℕ, ◌+◌, ◌-◌, ◌<◌, ◌≤◌}
use mathlib.Core.Bool.{Bool, true, false, true≢false}
use mathlib.Core.Path.{◌≡◌, sym, ◌∙◌, ap, subst}
use mathlib.Core.Logic.{⊎_elim}
use mathlib.Core.List.{List, Memᴰ as Mem}
use native.Mathlib.Omega.{arith}
use lib.ListN.{length, replicate, length-replicate, get_or-replicate}
use lib.Seq.{ext_get_or}
use Rattle.model.specs.declared.Triple.{Triple}
use Rattle.model.specs.Lists.{how_many, tabulate, zeros}
use Rattle.model.specs.Triples.{before, same, holds, place}
use Rattle.model.specs.Order.{Lt}
use Rattle.theory.proofs.Tests.{bool_cases, not_true_false}
use Rattle.theory.proofs.Lists.{tabulate-mem, mem-tabulate}
use Rattle.theory.proofs.Runs.{many-parts, run-many-all, run-many-none}
use Rattle.theory.proofs.Order.{lt_trans, lt_irrefl, before-lt, lt-before, same-eq, same_refl, mem-holds, holds-mem}
use Rattle.lists.specs.Flat.{RisingPart, Bound, Place, Cleared}
use Rattle.lists.proofs.Compare.{Cmp, lt, eq, gt, cmp}

-- all before `low` comes before t, all from `high` on does not
pub record Bracket (f : ℕ → Triple) (a b : ℕ) (t : Triple) (low high : ℕ) : Type 0 where
  pub from : a ≤ low
  pub within : low ≤ high
  pub to : high ≤ b
  pub below : (i : ℕ) → a ≤ i → i < low → Lt (f i) t
  pub above : (i : ℕ) → high ≤ i → i < b → before (f i) t ≡ false

pub bracket-start : (f : ℕ → Triple) (a b : ℕ) (t : Triple) → a ≤ b → Bracket f a b t a b
bracket-start f a b t h =
    record { from = omega arith; within = h; to = omega arith; below = λ i x y. absurd (omega arith); above = λ i x y. absurd (omega arith) }

module _ (f : ℕ → Triple) (a b : ℕ) (t : Triple) (low high : ℕ) (r : RisingPart f a b) (w : Bracket f a b t low high) (m : ℕ) (x : low ≤ m) (y : m < high) where
  pub bracket-up : before (f m) t ≡ true → Bracket f a b t (m + 1) high
  bracket-up h = record { from = omega (arith, w.from); within = omega arith; to = w.to; below = λ i p q. go i p q (cmp i m); above = w.above }
    where
      go : (i : ℕ) → a ≤ i → i < m + 1 → Cmp i m → Lt (f i) t
      go i p q (lt z) = lt_trans (r i m p z (omega (arith, w.to))) (before-lt (f m) t h)
      go i p q (eq z) = subst (λ (k : ℕ). Lt (f k) t) (sym z) (before-lt (f m) t h)
      go i p q (gt z) = absurd (omega arith)

  pub bracket-down : before (f m) t ≡ false → Bracket f a b t low m
  bracket-down h = record { from = w.from; within = x; to = omega (arith, w.to); below = w.below; above = λ i p q. go i p q (cmp m i) }
    where
      go : (i : ℕ) → m ≤ i → i < b → Cmp m i → before (f i) t ≡ false
      go i p q (lt z) =
          not_true_false (before (f i) t) (λ k. true≢false (sym (lt-before (f m) t (lt_trans (r m i (omega (arith, w.from)) z q) (before-lt (f i) t k))) ∙ h))
      go i p q (eq z) = subst (λ (k : ℕ). before (f k) t ≡ false) z h
      go i p q (gt z) = absurd (omega arith)

pub bracket-end : (f : ℕ → Triple) (a b : ℕ) (t : Triple) (low high : ℕ) → Bracket f a b t low high → high ≤ low → Bound f a b t low
bracket-end f a b t low high w e =
    record { low = w.from; high = omega (arith, w.to, w.within); below = w.below; above = λ i p q. w.above i (omega (arith, w.within)) q }

-- what parts the places is the number of triples that come before t
pub place-bound : (f : ℕ → Triple) (n i : ℕ) (t : Triple) → Bound f 0 n t i → place t (tabulate f 0 n) ≡ i
unfolding place
place-bound f n i t b =
    let early : Triple → Bool = λ u. before u t in
    let high = b.high in
    let parts : n ≡ i + (n - i) = omega arith in
    let front = run-many-all early f 0 i (λ k l m. lt-before (f k) t (b.below k l (omega arith))) in
    let back = run-many-none early f (0 + i) (n - i) (λ k l m. b.above k (omega arith) (omega arith)) in
    ap (λ (k : ℕ). how_many early (tabulate f 0 k)) parts ∙ omega (arith, many-parts early f 0 i (n - i), front, back)

-- a place between low and high, where the places are in rising order
pub record Searching (f : ℕ → Triple) (a b : ℕ) (t : Triple) (low high : ℕ) : Type 0 where
  pub from : a ≤ low
  pub within : low ≤ high
  pub to : high ≤ b
  pub bracket : RisingPart f a b → Bracket f a b t low high

pub searching_start : (f : ℕ → Triple) (a b : ℕ) (t : Triple) → a ≤ b → Searching f a b t a b
searching_start f a b t h = record { from = omega arith; within = h; to = omega arith; bracket = λ r. bracket-start f a b t h }

module _ (f : ℕ → Triple) (a b : ℕ) (t : Triple) (low high m : ℕ) (s : Searching f a b t low high) (x : low ≤ m) (y : m < high) where
  pub searching_up : before (f m) t ≡ true → Searching f a b t (m + 1) high
  searching_up h = record { from = omega (arith, s.from); within = omega arith; to = s.to; bracket = λ r. bracket-up f a b t low high r (s.bracket r) m x y h }

  pub searching_down : before (f m) t ≡ false → Searching f a b t low m
  searching_down h = record { from = s.from; within = x; to = omega (arith, s.to); bracket = λ r. bracket-down f a b t low high r (s.bracket r) m x y h }

pub searching_end : (f : ℕ → Triple) (a b : ℕ) (t : Triple) (low high : ℕ) → Searching f a b t low high → high ≤ low → Place f a b t low
searching_end f a b t low high s h =
    record { low = s.from; high = omega (arith, s.within, s.to); bound = λ r. bracket-end f a b t low high (s.bracket r) h }

-- ── what the bound says of membership ──
module _ (f : ℕ → Triple) (a b : ℕ) (t : Triple) (i : ℕ) (r : RisingPart f a b) (w : Bound f a b t i) where
  -- a place that holds t is the bound
  pub at_bound : (j : ℕ) → a ≤ j → j < b → t ≡ f j → j ≡ i
  at_bound j x y e = go (cmp j i)
    where
      go : Cmp j i → j ≡ i
      go (lt z) = absurd (lt_irrefl (subst (Lt (f j)) e (w.below j x z)))
      go (eq z) = z
      go (gt z) = absurd (true≢false (sym (lt-before (f i) t (subst (Lt (f i)) (sym e) (r i j w.low z y))) ∙ w.above i (omega arith) (omega arith)))

  abbrev places : List Triple
  places = tabulate f a (b - a)

  found_at : Mem t places → t ≡ f i
  found_at m =
      let z = tabulate-mem f a (b - a) m in
      z.3 ∙ ap f (at_bound z.0 z.1 (omega (arith, z.2, w.low, w.high)) z.3)

  pub bound-here : i < b → same t (f i) ≡ holds t places
  bound-here h =
      ⊎_elim
      (λ e. e ∙ sym (mem-holds t places (subst (λ (z : Triple). Mem z places) (sym (same-eq t (f i) e)) (mem-tabulate f a (b - a) i w.low (omega (arith, w.low))))))
      (λ e. e ∙ sym (not_true_false (holds t places) (λ k. true≢false (sym (same_refl t (f i) (found_at (holds-mem t places k))) ∙ e))))
      (bool_cases (same t (f i)))

  pub bound-past : b ≤ i → false ≡ holds t places
  bound-past h =
      sym (not_true_false (holds t places) (λ k. let z = tabulate-mem f a (b - a) (holds-mem t places k) in
      absurd (lt_irrefl (subst (Lt (f z.0)) z.3 (w.below z.0 z.1 (omega (arith, z.1, z.2, w.low, w.high)))))))

-- ── clearing ──
-- a list that is all cleared
pub cleared-all : (l m : List ℕ) (i : ℕ) → Cleared l m 0 i → length l ≤ i → m ≡ zeros (length l)
unfolding zeros
cleared-all l m i c h =
    ext_get_or 0 m (replicate (length l) 0) (c.size ∙ sym (length-replicate (length l) 0))
    (λ k q. c.zeros k (omega arith) (omega (arith, c.size)) ∙ sym (get_or-replicate (length l) k 0 0 (omega (arith, c.size))))
