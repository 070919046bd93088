-- Taking a triple out of the triples of a list, or a number out of numbers: what moves, what stands in front after it, and the whole list where
-- zeros stand behind.
-- Assumes nothing.
use Prim.Native.Nat.{ℕ, zero, suc, ◌+◌, ◌-◌, ◌*◌, ◌<◌, ◌≤◌}
use mathlib.Core.Path.{◌≡◌, refl, sym, ◌∙◌, ap, subst}
use mathlib.Core.Bool.{Bool, true, false, cond}
use mathlib.Core.List.{List, ◌∷◌, ◌++◌, Memᴰ as Mem}
use native.Mathlib.Omega.{arith}
use native.Mathlib.Decide.{dec_lt}
use lib.ListN.{length, get_or, set, length-set}
use lib.Seq.{get_or-set_same, get_or-set_other}
use Rattle.std.specs.List.{CopiedTo, SameBelow, SameFrom}
use Rattle.model.specs.declared.Triple.{Triple}
use Rattle.model.specs.Lists.{tabulate, padded}
use Rattle.model.specs.Triples.{triple, same, before, without, listed}
use Rattle.model.specs.Order.{Lt}
use Rattle.theory.proofs.Tests.{not_true_false}
use Rattle.theory.proofs.Lists.{tabulate-mem, mem-tabulate}
use Rattle.theory.proofs.Order.{lt_irrefl, lt_trans, before-lt, same-eq, same_refl}
use Rattle.theory.proofs.Flat.{padded-at, padded-past, padded-by}
use Rattle.theory.proofs.Weights.{drop_at, length-drop, drop-front, drop-back}
use Rattle.lists.specs.Flat.{at, RisingPart, Bound, Cleared}
use Rattle.lists.proofs.Compare.{Cmp, lt, eq, gt, cmp}
use Rattle.builder.specs.Builder.{first}
use Rattle.intake_insertion.proofs.Listed.{listed-first, listed-rest, listed_by}
use Rattle.intake_deletion.specs.Deletion.{Deleted, NumberDeleted, Lightened}

-- ── triples move down ──
-- clearing behind a place leaves the triples before it
clear_keeps : (m l' : List ℕ) (a b k : ℕ) → Cleared m l' a b → 3 * k + 2 < a → at l' k ≡ at m k
unfolding at
clear_keeps m l' a b k c h =
    let x = c.rest (3 * k) (λ q. absurd (omega arith)) in
    let y = c.rest (3 * k + 1) (λ q. absurd (omega arith)) in
    let z = c.rest (3 * k + 2) (λ q. absurd (omega arith)) in
    λ i. triple (x i) (y i) (z i)

at_moved : (l m : List ℕ) (a b : ℕ) → get_or m (3 * a) 0 ≡ get_or l (3 * b) 0 → get_or m (3 * a + 1) 0 ≡ get_or l (3 * b + 1) 0 → get_or m (3 * a + 2) 0 ≡ get_or l (3 * b + 2) 0 → at m a ≡ at l b
unfolding at
at_moved l m a b x y z = λ k. triple (x k) (y k) (z k)

-- the numbers behind place i moved down by three, and the last three places cleared
pub moved_clear : (l m l' : List ℕ) (n i : ℕ) → length m ≡ length l
    → CopiedTo l m (3 * i + 3) (3 * i) (3 * n - (3 * i + 3)) → SameBelow l m (3 * i) → SameFrom l m (3 * i + (3 * n - (3 * i + 3)))
    → i < n → Cleared m l' (3 * n - 3) (3 * n) → Deleted l l' n i
moved_clear l m l' n i e copied below behind h c =
    record {
      size = c.size ∙ e;
      front = λ k a. clear_keeps m l' _ _ k c (omega arith) ∙ at_moved l m k k (below (3 * k) 0 (omega arith)) (below (3 * k + 1) 0 (omega arith)) (below (3 * k + 2) 0 (omega arith));
      back = λ k a b. clear_keeps m l' _ _ k c (omega arith) ∙ at_moved l m k (k + 1) (down _ _ (omega arith) (omega arith) (omega arith)) (down _ _ (omega arith) (omega arith) (omega arith)) (down _ _ (omega arith) (omega arith) (omega arith));
      gone = λ w a b. c.zeros w (omega arith) b;
      rest = λ w a. c.rest w (λ q. a) ∙ behind w 0 (omega arith);
    }
  where
    down : (w v : ℕ) → 3 * i ≤ w → w + 3 < 3 * n → v ≡ w + 3 → get_or m w 0 ≡ get_or l v 0
    down w v a b c = copied w 0 (omega arith) (omega arith) ∙ ap (λ (x : ℕ). get_or l x 0) (omega arith)

-- ── numbers move down ──
-- the numbers behind place j moved down by one, and the last place set to zero
pub number_moved : (l m l' : List ℕ) (n j : ℕ) → length m ≡ length l
    → CopiedTo l m (j + 1) j (n - (j + 1)) → SameBelow l m j → SameFrom l m (j + (n - (j + 1)))
    → j < n → n ≤ length l → l' ≡ set m (n - 1) 0 → NumberDeleted l l' n j
number_moved l m l' n j e copied below behind h room q =
    subst (λ (z : List ℕ). NumberDeleted l z n j) (sym q)
    (record {
      size = length-set m (n - 1) 0 ∙ e;
      front = λ w a. get_or-set_other m (n - 1) w 0 0 (omega arith) ∙ below w 0 a;
      back = λ w a b. get_or-set_other m (n - 1) w 0 0 (omega arith) ∙ copied w 0 a (omega arith) ∙ ap (λ (z : ℕ). get_or l z 0) (omega arith);
      gone = λ w a. let p : w ≡ n - 1 = omega arith in ap (λ (z : ℕ). get_or (set m (n - 1) 0) z 0) p ∙ get_or-set_same m (n - 1) 0 0 (omega (arith, e));
      rest = λ w a. get_or-set_other m (n - 1) w 0 0 (omega arith) ∙ behind w 0 (omega arith);
    })

-- ── the front after it ──
module _ (t : Triple) (f : ℕ → Triple) where
  without_at : (a n i : ℕ) → i < n → ((k : ℕ) → a ≤ k → k < a + i → same t (f k) ≡ false) → same t (f (a + i)) ≡ true
      → without t (tabulate f a n) ≡ tabulate f a i ++ tabulate f (a + i + 1) (n - i - 1)
  unfolding without tabulate
  without_at a zero i h b e = absurd (omega arith)
  without_at a (suc n) zero h b e =
      let z : a + 0 ≡ a = omega arith in
      let p : suc a ≡ a + 0 + 1 = omega arith in
      let q : n ≡ suc n - 0 - 1 = omega arith in
      ap (λ (x : Bool). cond x (tabulate f (suc a) n) (f a ∷ without t (tabulate f (suc a) n))) (ap (λ (k : ℕ). same t (f k)) (sym z) ∙ e)
      ∙ (λ i. tabulate f (p i) (q i))
  without_at a (suc n) (suc i) h b e =
      let z : suc a + i ≡ a + suc i = omega arith in
      let p : suc a + i + 1 ≡ a + suc i + 1 = omega arith in
      let q : n - i - 1 ≡ suc n - suc i - 1 = omega arith in
      ap (λ (x : Bool). cond x (tabulate f (suc a) n) (f a ∷ without t (tabulate f (suc a) n))) (b a (omega arith) (omega arith))
      ∙ ap (λ (r : List Triple). f a ∷ r) (without_at (suc a) n i (omega arith) (λ k x y. b k (omega arith) (omega arith)) (ap (λ (k : ℕ). same t (f k)) z ∙ e)
      ∙ (λ k. tabulate f (suc a) i ++ tabulate f (p k) (q k)))

same-tabulate : (f g : ℕ → Triple) (a b n : ℕ) → ((k : ℕ) → k < n → f (a + k) ≡ g (b + k)) → tabulate f a n ≡ tabulate g b n
unfolding tabulate
same-tabulate f g a b zero e = refl
same-tabulate f g a b (suc n) e =
    let x : a ≡ a + 0 = omega arith in
    let y : b + 0 ≡ b = omega arith in
    λ i. (ap f x ∙ e 0 (omega arith) ∙ ap g y) i ∷ same-tabulate f g (suc a) (suc b) n
    (λ k h. let p : suc a + k ≡ a + suc k = omega arith in let q : b + suc k ≡ suc b + k = omega arith in ap f p ∙ e (suc k) (omega arith) ∙ ap g q) i

split : (f : ℕ → Triple) (a n m : ℕ) → tabulate f a (n + m) ≡ tabulate f a n ++ tabulate f (a + n) m
unfolding tabulate
split f a zero m = let p : 0 + m ≡ m = omega arith in let q : a ≡ a + 0 = omega arith in λ i. tabulate f (q i) (p i)
split f a (suc n) m =
    let p : suc n + m ≡ suc (n + m) = omega arith in
    let q : suc a + n ≡ a + suc n = omega arith in
    ap (tabulate f a) p ∙ ap (λ (l : List Triple). f a ∷ l) (split f (suc a) n m ∙ ap (λ (k : ℕ). tabulate f (suc a) n ++ tabulate f k m) q)

-- the first triples are those before without t, where t stands at place i and nothing before it is t
pub deleted_first : (l l' : List ℕ) (n i : ℕ) (t : Triple) → Deleted l l' n i → i < n → t ≡ at l i → Bound (at l) 0 n t i → first l' (n - 1) ≡ without t (first l n)
deleted_first l l' n i t d h e b =
    let p : n - 1 ≡ i + (n - i - 1) = omega arith in
    let z : 0 + i ≡ i = omega arith in
    ap (tabulate (at l') 0) p ∙ split (at l') 0 i (n - i - 1)
    ∙ (λ k. same-tabulate (at l') (at l) 0 0 i (λ j q. d.front (0 + j) (omega arith)) k
    ++ same-tabulate (at l') (at l) (0 + i) (0 + i + 1) (n - i - 1)
    (λ j q. let w : 0 + i + j + 1 ≡ 0 + i + 1 + j = omega arith in d.back (0 + i + j) (omega arith) (omega arith) ∙ ap (at l) w) k)
    ∙ sym (without_at t (at l) 0 n i h
    (λ k x y. not_true_false (same t (at l k)) (λ s. lt_irrefl (subst (λ (u : Triple). Lt u t) (sym (same-eq t (at l k) s)) (b.below k x (omega arith)))))
    (same_refl t (at l (0 + i)) (e ∙ ap (at l) (sym z))))

-- nothing new stands in front, whatever the order
pub deleted_mem : (l l' : List ℕ) (n i : ℕ) → Deleted l l' n i → i < n → (u : Triple) → Mem u (first l' (n - 1)) → Mem u (first l n)
deleted_mem l l' n i d h u m = let w = tabulate-mem (at l') 0 (n - 1) m in go w.0 w.2 w.3 (dec_lt w.0 i)
  where
    from : (k p : ℕ) → u ≡ at l' k → at l' k ≡ at l p → p < n → Mem u (first l n)
    from k p e q b = subst (λ (z : Triple). Mem z (first l n)) (sym (e ∙ q)) (mem-tabulate (at l) 0 n p (omega arith) (omega arith))

    go : (k : ℕ) → k < 0 + (n - 1) → u ≡ at l' k → Dec (k < i) → Mem u (first l n)
    go k b e (yes x) = from k k e (d.front k x) (omega arith)
    go k b e (no x) = from k (k + 1) e (d.back k (omega arith) (omega arith)) (omega arith)

-- in rising order a triple stands where it belongs
pub rising-bound : (f : ℕ → Triple) (n i : ℕ) → RisingPart f 0 n → i < n → Bound f 0 n (f i) i
rising-bound f n i r h =
    record {
      low = omega arith;
      high = omega arith;
      below = λ k a b. r k i a b h;
      above = λ k a b. not_true_false (before (f k) (f i)) (λ e. go k b (before-lt (f k) (f i) e) a (cmp i k));
    }
  where
    go : (k : ℕ) → k < n → Lt (f k) (f i) → i ≤ k → Cmp i k → ⊥
    go k b l a (lt x) = lt_irrefl (lt_trans l (r i k (omega arith) x b))
    go k b l a (eq x) = lt_irrefl (subst (λ (z : ℕ). Lt (f k) (f z)) x l)
    go k b l a (gt x) = omega arith

-- ── triples in front and zeros behind ──
pub deleted_listed : (l l' : List ℕ) (H : List Triple) (i : ℕ) → l ≡ listed (length l) H → 3 * length H ≤ length l → RisingPart (at l) 0 (length H)
    → i < length H → Deleted l l' (length H) i → l' ≡ listed (length l) (without (at l i) H)
deleted_listed l l' H i is room r h d =
    let e : first l' (length H - 1) ≡ without (at l i) H =
    deleted_first l l' (length H) i (at l i) d h refl (rising-bound (at l) (length H) i r h) ∙ ap (without (at l i)) (listed-first l (length l) H is room) in
    listed_by l' (length H - 1) (without (at l i) H) (omega (arith, d.size)) e (λ w x y. behind w x (dec_lt w (3 * length H)))
    ∙ ap (λ (k : ℕ). listed k (without (at l i) H)) d.size
  where
    behind : (w : ℕ) → 3 * (length H - 1) ≤ w → Dec (w < 3 * length H) → get_or l' w 0 ≡ 0
    behind w x (yes y) = d.gone w (omega arith) y
    behind w x (no y) = d.rest w (omega arith) ∙ ap (λ (z : List ℕ). get_or z w 0) is ∙ listed-rest (length l) H room w (omega arith)

pub number_deleted : (w w' xs : List ℕ) (j : ℕ) → w ≡ padded (length w) xs → length xs ≤ length w → j < length xs → NumberDeleted w w' (length xs) j
    → w' ≡ padded (length w) (drop_at j xs)
number_deleted w w' xs j is room h d =
    padded-by w' (drop_at j xs) (length w) d.size (omega (arith, few)) (λ k a. front k a (dec_lt k j)) (λ k a b. behind k a (dec_lt k (length xs)))
  where
    few : length xs ≡ length (drop_at j xs) + 1
    few = length-drop j xs h

    was : (k : ℕ) → k < length xs → get_or w k 0 ≡ get_or xs k 0
    was k a = ap (λ (z : List ℕ). get_or z k 0) is ∙ padded-at (length w) xs k a

    front : (k : ℕ) → k < length (drop_at j xs) → Dec (k < j) → get_or w' k 0 ≡ get_or (drop_at j xs) k 0
    front k a (yes x) = d.front k x ∙ was k (omega arith) ∙ sym (drop-front j xs k x)
    front k a (no x) =
        let p : k + 1 ≡ suc k = omega arith in
        d.back k (omega arith) (omega (arith, few)) ∙ was (k + 1) (omega (arith, few)) ∙ ap (λ (z : ℕ). get_or xs z 0) p ∙ sym (drop-back j xs k (omega arith))

    behind : (k : ℕ) → length (drop_at j xs) ≤ k → Dec (k < length xs) → get_or w' k 0 ≡ 0
    behind k a (yes x) = d.gone k (omega (arith, few))
    behind k a (no x) = d.rest k (omega arith) ∙ ap (λ (z : List ℕ). get_or z k 0) is ∙ padded-past (length w) xs k (omega arith)

-- ── a line that weighs one less ──
module _ (sums weighed : List ℕ) (n j : ℕ) where
  pub lightened_sizes : (r : ℕ) (sums' weighed' : List ℕ) → Lightened sums weighed n j r sums' weighed' → (length sums' ≡ length sums) × (length weighed' ≡ length weighed) × (r ≤ n)
  lightened_sizes r sums' weighed' s = go (dec_lt 1 (get_or weighed j 0))
    where
      go : Dec (1 < get_or weighed j 0) → (length sums' ≡ length sums) × (length weighed' ≡ length weighed) × (r ≤ n)
      go (yes h) =
          let z = s.less (omega arith) in
          (ap {B = ℕ} (λ (l : List ℕ). length l) z.1, ap {B = ℕ} (λ (l : List ℕ). length l) z.2 ∙ length-set weighed j _, omega (arith, z.0))
      go (no h) = let z = s.goes (omega arith) in (z.1.size, z.2.size, omega (arith, z.0))
