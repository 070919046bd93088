-- Putting a triple between the triples of a list, and that a rising front stays rising.
-- Assumes nothing.
use Prim.Native.Nat.{ℕ, ◌+◌, ◌-◌, ◌*◌, ◌<◌, ◌≤◌}
use mathlib.Core.Path.{◌≡◌, sym, ◌∙◌, ap, subst}
use mathlib.Core.Logic.{inr, ⊎_elim}
use mathlib.Core.Bool.{false, true≢false}
use mathlib.Core.List.{List, Memᴰ as Mem}
use native.Mathlib.Omega.{arith}
use lib.ListN.{length, get_or}
use Rattle.model.specs.declared.Triple.{Triple}
use Rattle.std.specs.List.{CopiedTo, SameBelow, SameFrom}
use Rattle.model.specs.Triples.{triple, same, holds, insert}
use Rattle.model.specs.Order.{Lt}
use Rattle.theory.proofs.Tests.{not_true_false}
use Rattle.theory.proofs.Lists.{tabulate-mem, mem-tabulate}
use Rattle.theory.proofs.Order.{lt-total, same-eq, mem-holds, insert-self, insert-keeps, insert-mem, insert-rising, rising_unique}
use Rattle.lists.specs.Flat.{at, put_at, RisingPart, Bound}
use Rattle.lists.proofs.Compare.{Cmp, lt, eq, gt, cmp}
use Rattle.lists.proofs.Places.{put_same, put_other, put_rest, put-length, places-rising}
use Rattle.builder.specs.Builder.{first}
use Rattle.intake_insertion.specs.Insertion.{Inserted}

at_moved : (l m : List ℕ) (a b : ℕ) → get_or m (3 * a) 0 ≡ get_or l (3 * b) 0 → get_or m (3 * a + 1) 0 ≡ get_or l (3 * b + 1) 0 → get_or m (3 * a + 2) 0 ≡ get_or l (3 * b + 2) 0 → at m a ≡ at l b
unfolding at
at_moved l m a b x y z = λ k. triple (x k) (y k) (z k)

-- the numbers from place i on moved up by three, and t put there
pub moved_put : (l m m' : List ℕ) (n i : ℕ) (t : Triple) → length m ≡ length l
    → CopiedTo l m (3 * i) (3 * i + 3) (3 * n - 3 * i) → SameBelow l m (3 * i + 3) → SameFrom l m (3 * i + 3 + (3 * n - 3 * i))
    → i ≤ n → 3 * n + 2 < length l → m' ≡ put_at m i t → Inserted l m' n i t
moved_put l m m' n i t e copied below behind h room q =
    subst (λ (x : List ℕ). Inserted l x n i t) (sym q)
    (record {
      size = put-length m i t ∙ e;
      front = λ k a. put_other m i t inside k (omega arith) ∙ at_moved l m k k (below (3 * k) 0 (omega arith)) (below (3 * k + 1) 0 (omega arith)) (below (3 * k + 2) 0 (omega arith));
      new = put_same m i t inside;
      back = λ k a b. put_other m i t inside (k + 1) (omega arith) ∙ at_moved l m (k + 1) k (up _ _ (omega arith) (omega arith) (omega arith)) (up _ _ (omega arith) (omega arith) (omega arith)) (up _ _ (omega arith) (omega arith) (omega arith));
      rest = λ w a. put_rest m i t inside w (inr (omega arith)) ∙ behind w 0 (omega arith);
    })
  where
    inside : 3 * i + 2 < length m
    inside = omega (arith, e)

    up : (w v : ℕ) → 3 * i ≤ w → w < 3 * n → v ≡ w + 3 → get_or m v 0 ≡ get_or l w 0
    up w v a b c = copied v 0 (omega arith) (omega arith) ∙ ap (λ (x : ℕ). get_or l x 0) (omega arith)

-- ── the front after it ──
-- what stands at a place of the new front
data Stands (l l' : List ℕ) (n i : ℕ) (t : Triple) (k : ℕ) : Type 0 where
  below : k < i → at l' k ≡ at l k → Stands l l' n i t k
  here : k ≡ i → at l' k ≡ t → Stands l l' n i t k
  above : (p : ℕ) → k ≡ p + 1 → i ≤ p → p < n → at l' k ≡ at l p → Stands l l' n i t k

module _ (l l' : List ℕ) (n i : ℕ) (t : Triple) (s : Inserted l l' n i t) (h : i ≤ n) where
  view : (k : ℕ) → k < n + 1 → Stands l l' n i t k
  view k b = go (cmp k i)
    where
      go : Cmp k i → Stands l l' n i t k
      go (lt x) = below x (s.front k x)
      go (eq x) = here x (ap (at l') x ∙ s.new)
      go (gt x) = let e : k ≡ (k - 1) + 1 = omega arith in above (k - 1) e (omega arith) (omega arith) (ap (at l') e ∙ s.back (k - 1) (omega arith) (omega arith))

  pub new-mem : (u : Triple) → Mem u (first l' (n + 1)) → Mem u (insert t (first l n))
  new-mem u m = let w = tabulate-mem (at l') 0 (n + 1) m in go w.0 w.3 (view w.0 (omega (arith, w.2)))
    where
      go : (k : ℕ) → u ≡ at l' k → Stands l l' n i t k → Mem u (insert t (first l n))
      go k e (below x q) = insert-keeps t u (first l n) (subst (λ (z : Triple). Mem z (first l n)) (sym (e ∙ q)) (mem-tabulate (at l) 0 n k (omega arith) (omega arith)))
      go k e (here x q) = subst (λ (z : Triple). Mem z (insert t (first l n))) (sym (e ∙ q)) (insert-self t (first l n))
      go k e (above p x y z q) = insert-keeps t u (first l n) (subst (λ (z : Triple). Mem z (first l n)) (sym (e ∙ q)) (mem-tabulate (at l) 0 n p (omega arith) (omega arith)))

  mem-new : (u : Triple) → Mem u (insert t (first l n)) → Mem u (first l' (n + 1))
  mem-new u m =
      ⊎_elim
      (λ (e : u ≡ t). subst (λ (z : Triple). Mem z (first l' (n + 1))) (s.new ∙ sym e) (mem-tabulate (at l') 0 (n + 1) i (omega arith) (omega arith)))
      (λ k. let w = tabulate-mem (at l) 0 n k in go w.0 w.2 w.3 (cmp w.0 i))
      (insert-mem t u (first l n) m)
    where
      up : (k : ℕ) → k < 0 + n → u ≡ at l k → i ≤ k → Mem u (first l' (n + 1))
      up k b e x = subst (λ (z : Triple). Mem z (first l' (n + 1))) (s.back k x (omega arith) ∙ sym e) (mem-tabulate (at l') 0 (n + 1) (k + 1) (omega arith) (omega arith))

      go : (k : ℕ) → k < 0 + n → u ≡ at l k → Cmp k i → Mem u (first l' (n + 1))
      go k b e (lt x) = subst (λ (z : Triple). Mem z (first l' (n + 1))) (s.front k x ∙ sym e) (mem-tabulate (at l') 0 (n + 1) k (omega arith) (omega arith))
      go k b e (eq x) = up k b e (omega arith)
      go k b e (gt x) = up k b e (omega arith)

  module _ (r : RisingPart (at l) 0 n) (w : Bound (at l) 0 n t i) (f : holds t (first l n) ≡ false) where
    -- t comes before what stands from its place on
    after : (k : ℕ) → i ≤ k → k < n → Lt t (at l k)
    after k a b =
        lt-total (at l k) t (w.above k a b)
        (not_true_false (same (at l k) t) (λ e. true≢false
        (sym (mem-holds t (first l n) (subst (λ (z : Triple). Mem z (first l n)) (same-eq (at l k) t e)
        (mem-tabulate (at l) 0 n k (omega arith) (omega arith)))) ∙ f)))

    pub inserted_rising : RisingPart (at l') 0 (n + 1)
    inserted_rising a b x y z = go (view a (omega arith)) (view b z)
      where
        by : {c d : Triple} → at l' a ≡ c → at l' b ≡ d → Lt c d → Lt (at l' a) (at l' b)
        by p q o = subst (λ (g : Triple). Lt g (at l' b)) (sym p) (subst (Lt _) (sym q) o)

        go : Stands l l' n i t a → Stands l l' n i t b → Lt (at l' a) (at l' b)
        go (below p e) (below q g) = by e g (r a b x y (omega arith))
        go (below p e) (here q g) = by e g (w.below a x p)
        go (below p e) (above k q o v g) = by e g (r a k x (omega arith) v)
        go (here p e) (below q g) = absurd (omega arith)
        go (here p e) (here q g) = absurd (omega arith)
        go (here p e) (above k q o v g) = by e g (after k o v)
        go (above j p o v e) (below q g) = absurd (omega arith)
        go (above j p o v e) (here q g) = absurd (omega arith)
        go (above j p o v e) (above k q c d g) = by e g (r j k (omega arith) (omega arith) d)

    -- the first n + 1 triples are the first n with t in its place
    pub inserted_first : first l' (n + 1) ≡ insert t (first l n)
    inserted_first =
        rising_unique (first l' (n + 1)) (insert t (first l n))
        (places-rising (at l') 0 (n + 1) (λ a b x y z. inserted_rising a b x y (omega arith)))
        (insert-rising t (first l n) (places-rising (at l) 0 n (λ a b x y z. r a b x y (omega arith))))
        (λ u. (new-mem u, mem-new u))
