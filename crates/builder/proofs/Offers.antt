-- What each way of an offer does.
-- Assumes nothing.
use Prim.Native.Nat.{ℕ, ◌+◌, ◌-◌, ◌*◌, ◌/◌, ◌<◌, ◌≤◌}
use mathlib.Core.Path.{◌≡◌, refl, sym, ◌∙◌, ap, subst}
use mathlib.Core.Logic.{◌⊎◌, inl, inr, ⊎_elim, ◌↔◌}
use mathlib.Core.Bool.{Bool, true, false, ◌||◌, true≢false}
use mathlib.Core.List.Memᴰ.{cases_cons as mem-cases}
use mathlib.Core.List.Memᴰ.{head as here}
use mathlib.Core.List.Memᴰ.{tail as there}
use mathlib.Core.List.{List, ◌∷◌, ◌++◌, Memᴰ as Mem}
use native.Mathlib.Omega.{arith}
use lib.ListN.{length, take, drop, replicate, length-drop, length-replicate, get_or-replicate, take-append-drop}
use lib.Seq.{ext_get_or, get_or-drop}
use native.Mathlib.Nat.{sub-zero}
use Rattle.model.specs.declared.Triple.{Triple}
use Rattle.model.specs.Lists.{tabulate, zeros, padded}
use Rattle.model.specs.Triples.{holds, sorted, flat, listed}
use Rattle.model.specs.Order.{Lt, Rising}
use Rattle.theory.proofs.Lists.{length-tabulate}
use Rattle.theory.proofs.Flat.{length-flat}
use Rattle.theory.proofs.Tests.{or_true, or_left, or-false}
use Rattle.theory.proofs.Order.{holds-mem, mem-holds, sorted-mem, mem-sorted, sorted-rising, sorted-members}
use Rattle.lists.specs.Flat.{at, put_at, Cleared}
use Rattle.lists.proofs.Compare.{Cmp, lt, eq, gt, cmp}
use Rattle.lists.proofs.Places.{put_same, put_other, put-length, rising-places, flat-places, tabulate-agree}
use Rattle.sorting.specs.Sorting.{Distinct}
use Rattle.builder.specs.declared.Builder.{Builder}
use Rattle.builder.specs.declared.Full.{Full}
use Rattle.std.specs.declared.result.Result.{Result}
use Rattle.std.specs.declared.result.Result.TheVariants.{Ok, Err}
use Rattle.builder.specs.Builder.{first, Built, known, SameBase, Compacted, Offered, Finished}
use Rattle.builder.proofs.Parts.{Stands, stands, member, Injective, rising_injective, sorted-count, sorted_more, at_agree}

-- ── known triples ──
module _ (l : List ℕ) (b : Builder) (t : Triple) where
  pub known-base : (r : Bool) → r ≡ holds t (tabulate (at l) 0 (b.base - 0)) → r ≡ true → true ≡ known l b t
  unfolding known
  known-base r e k = sym (or_left (holds t (tabulate (at l) 0 (b.base - 0))) _ (sym e ∙ k))

  pub known-run : (r s : Bool) → r ≡ holds t (tabulate (at l) 0 (b.base - 0)) → r ≡ false → s ≡ holds t (tabulate (at l) b.base (b.sorted - b.base)) → s ≡ known l b t
  unfolding known
  known-run r s e k h = h ∙ ap (λ (x : Bool). x || holds t (tabulate (at l) b.base (b.sorted - b.base))) (sym (sym e ∙ k))

  module _ (B : Built l b) where
    known-held : known l b t ≡ true → Mem t (first l b.filled)
    unfolding known
    known-held k =
        ⊎_elim
        (λ e. let s = stands (at l) 0 (b.base - 0) t (holds-mem t _ e) in
        member (at l) 0 b.filled t (record { place = s.place; low = omega arith; high = omega (arith, s.high, B.base_end, B.sorted_end); is = s.is }))
        (λ e. let s = stands (at l) b.base (b.sorted - b.base) t (holds-mem t _ e) in
        member (at l) 0 b.filled t (record { place = s.place; low = omega arith; high = omega (arith, s.high, B.base_end, B.sorted_end); is = s.is }))
        (or_true (holds t (tabulate (at l) 0 (b.base - 0))) _ k)

    -- not known: not in the frozen part, and not in the rising part behind it
    pub unknown : known l b t ≡ false → (i : ℕ) → i < b.sorted → at l i ≡ t → ⊥
    unfolding known
    unknown k i h e = go (cmp i b.base)
      where
        both : (holds t (tabulate (at l) 0 (b.base - 0)) ≡ false) × (holds t (tabulate (at l) b.base (b.sorted - b.base)) ≡ false)
        both = or-false (holds t (tabulate (at l) 0 (b.base - 0))) _ k

        run : b.base ≤ i → ⊥
        run x =
            true≢false (sym (mem-holds t _ (member (at l) b.base (b.sorted - b.base) t (record { place = i; low = x; high = omega (arith, B.base_end); is = sym e }))) ∙ both.1)

        go : Cmp i b.base → ⊥
        go (lt x) = true≢false (sym (mem-holds t _ (member (at l) 0 (b.base - 0) t (record { place = i; low = omega arith; high = omega arith; is = sym e }))) ∙ both.0)
        go (eq x) = run (omega arith)
        go (gt x) = run (omega arith)

    same_base : SameBase l l b
    same_base = record { size = refl; places = λ i h. refl }

    -- a known triple changes nothing
    pub offered_known : known l b t ≡ true → Offered l l b (Ok b) t
    offered_known k =
        record {
          same_base = same_base;
          taken = record {
            base = refl;
            built = B;
            members = λ u. (λ m. inl m, λ w. ⊎_elim (λ m. m) (λ (e : u ≡ t). subst (λ (z : Triple). Mem z (first l b.filled)) (sym e) (known-held k)) w);
          };
          over = tt;
        }

-- ── a triple put behind the tail ──
module _ (l l' : List ℕ) (b b' : Builder) (t : Triple) (B : Built l b) (k : known l b t ≡ false) (h : 3 * b.filled + 2 < length l) (e : l' ≡ put_at l b.filled t)
    (eb : b' ≡ record { base = b.base; sorted = b.sorted; filled = b.filled + 1 }) where
  there' : at l' b.filled ≡ t
  there' = ap (λ (x : List ℕ). at x b.filled) e ∙ put_same l b.filled t h

  off : (i : ℕ) → i < b.filled → at l' i ≡ at l i
  off i x = ap (λ (z : List ℕ). at z i) e ∙ put_other l b.filled t h i (omega arith)

  abbrev next : Builder
  next = record { base = b.base; sorted = b.sorted; filled = b.filled + 1 }

  append-built : Built l' next
  append-built =
      record {
        base_end = B.base_end;
        sorted_end = omega (arith, B.sorted_end);
        room = omega (arith, ap {B = ℕ} (λ (x : List ℕ). length x) e, put-length l b.filled t);
        base_rising = λ i j x y z. moved i j (omega (arith, B.base_end, B.sorted_end)) (omega (arith, B.base_end, B.sorted_end)) (B.base_rising i j x y z);
        run_rising = λ i j x y z. moved i j (omega (arith, B.sorted_end)) (omega (arith, B.sorted_end)) (B.run_rising i j x y z);
        apart = λ i j x y z q. far i j x y (cmp j b.filled) z (sym (off i (omega (arith, B.base_end, B.sorted_end))) ∙ q);
      }
    where
      moved : (i j : ℕ) → i < b.filled → j < b.filled → Lt (at l i) (at l j) → Lt (at l' i) (at l' j)
      moved i j x y w = subst (λ (z : Triple). Lt z (at l' j)) (sym (off i x)) (subst (Lt (at l i)) (sym (off j y)) w)

      far : (i j : ℕ) → i < b.base → b.base ≤ j → Cmp j b.filled → j < b.filled + 1 → at l i ≡ at l' j → ⊥
      far i j x y (lt w) z q = B.apart i j x y w (q ∙ off j w)
      far i j x y (eq w) z q = unknown l b t B k i (omega (arith, B.base_end)) (q ∙ ap (at l') w ∙ there')
      far i j x y (gt w) z q = omega arith

  append-members : (u : Triple) → Mem u (first l' (b.filled + 1)) ↔ (Mem u (first l b.filled) ⊎ (u ≡ t))
  append-members u = (
    λ m. let s = stands (at l') 0 (b.filled + 1) u m in to s (cmp s.place b.filled),
    λ w. ⊎_elim
        (λ m. let s = stands (at l) 0 b.filled u m in
        member (at l') 0 (b.filled + 1) u (record { place = s.place; low = omega arith; high = omega (arith, s.high); is = s.is ∙ sym (off s.place (omega (arith, s.high))) }))
        (λ (q : u ≡ t). member (at l') 0 (b.filled + 1) u (record { place = b.filled; low = omega arith; high = omega arith; is = q ∙ sym there' })) w,
  )
    where
      to : (s : Stands (at l') 0 (0 + (b.filled + 1)) u) → Cmp s.place b.filled → Mem u (first l b.filled) ⊎ (u ≡ t)
      to s (lt x) = inl (member (at l) 0 b.filled u (record { place = s.place; low = omega arith; high = omega arith; is = s.is ∙ off s.place x }))
      to s (eq x) = inr (s.is ∙ ap (at l') x ∙ there')
      to s (gt x) = absurd (omega (arith, s.high))

  pub offered_append : Offered l l' b (Ok b') t
  offered_append =
      subst (λ (z : Builder). Offered l l' b (Ok z) t) (sym eb)
      (record {
        same_base = record { size = ap {B = ℕ} (λ (x : List ℕ). length x) e ∙ put-length l b.filled t; places = λ i x. off i (omega (arith, B.base_end, B.sorted_end)) };
        taken = record { base = refl; built = append-built; members = append-members };
        over = tt;
      })

-- ── compaction ──
module _ (l l' : List ℕ) (b b' : Builder) (r : ℕ) (B : Built l b) (D : Distinct l l' b.base b.filled r) (eb : b' ≡ record { base = b.base; sorted = b.base + r; filled = b.base + r }) where
  base_same : (i : ℕ) → i < b.base → at l' i ≡ at l i
  base_same i h = at_agree l l' i (D.rest (3 * i) (inl (omega arith))) (D.rest (3 * i + 1) (inl (omega arith))) (D.rest (3 * i + 2) (inl (omega arith)))

  -- what stands behind the base is what stood there
  run-to : (u : Triple) → Mem u (tabulate (at l') b.base r) → Mem u (tabulate (at l) b.base (b.filled - b.base))
  run-to u m = sorted-mem u _ (subst (Mem u) D.places m)

  run-from : (u : Triple) → Mem u (tabulate (at l) b.base (b.filled - b.base)) → Mem u (tabulate (at l') b.base r)
  run-from u m = subst (Mem u) (sym D.places) (mem-sorted u _ m)

  abbrev end : ℕ
  end = b.base + r

  abbrev packed : Builder
  packed = record { base = b.base; sorted = end; filled = end }

  packed-built : Built l' packed
  packed-built =
      record {
        base_end = omega arith;
        sorted_end = omega arith;
        room = omega (arith, D.size, D.fits, B.room);
        base_rising = λ i j x y z. subst (λ (w : Triple). Lt w (at l' j)) (sym (base_same i (omega arith))) (subst (Lt (at l i)) (sym (base_same j z)) (B.base_rising i j x y z));
        run_rising = rising-places (at l') b.base r (subst Rising (sym D.places) (sorted-rising _));
        apart = λ i j x y z q.
            let s = stands (at l) b.base (b.filled - b.base) (at l' j) (run-to (at l' j) (member (at l') b.base r (at l' j) (record { place = j; low = y; high = z; is = refl }))) in
            B.apart i s.place x s.low (omega (arith, s.high, B.base_end, B.sorted_end)) (sym (base_same i x) ∙ q ∙ s.is);
      }

  packed-members : (u : Triple) → Mem u (first l' end) ↔ Mem u (first l b.filled)
  packed-members u = (
    λ m. let s = stands (at l') 0 end u m in to s (cmp s.place b.base),
    λ m. let s = stands (at l) 0 b.filled u m in from s (cmp s.place b.base),
  )
    where
      behind : (s : Stands (at l') 0 (0 + end) u) → b.base ≤ s.place → Mem u (first l b.filled)
      behind s x =
          let w = stands (at l) b.base (b.filled - b.base) u (run-to u (member (at l') b.base r u (record { place = s.place; low = x; high = omega (arith, s.high); is = s.is }))) in
          member (at l) 0 b.filled u (record { place = w.place; low = omega arith; high = omega (arith, w.high, B.base_end, B.sorted_end); is = w.is })

      to : (s : Stands (at l') 0 (0 + end) u) → Cmp s.place b.base → Mem u (first l b.filled)
      to s (lt x) = member (at l) 0 b.filled u (record { place = s.place; low = omega arith; high = omega (arith, B.base_end, B.sorted_end); is = s.is ∙ base_same s.place x })
      to s (eq x) = behind s (omega arith)
      to s (gt x) = behind s (omega arith)

      ahead : (s : Stands (at l) 0 (0 + b.filled) u) → b.base ≤ s.place → Mem u (first l' end)
      ahead s x =
          let w = stands (at l') b.base r u (run-from u
          (member (at l) b.base (b.filled - b.base) u
          (record { place = s.place; low = x; high = omega (arith, s.high, B.base_end, B.sorted_end); is = s.is }))) in
          member (at l') 0 end u (record { place = w.place; low = omega arith; high = omega (arith, w.high); is = w.is })

      from : (s : Stands (at l) 0 (0 + b.filled) u) → Cmp s.place b.base → Mem u (first l' end)
      from s (lt x) = member (at l') 0 end u (record { place = s.place; low = omega arith; high = omega arith; is = s.is ∙ sym (base_same s.place x) })
      from s (eq x) = ahead s (omega arith)
      from s (gt x) = ahead s (omega arith)

  pub compacted_is : Compacted l l' b b'
  compacted_is =
      subst (Compacted l l' b) (sym eb)
      (record { same_base = record { size = D.size; places = base_same }; base = refl; built = packed-built; all_sorted = refl; members = packed-members })

-- ── after a compaction ──
-- an offer to the compacted list is one to the list before
module _ (l m n : List ℕ) (b c : Builder) (t : Triple) (C : Compacted l m b c) where
  same_count : length (sorted (t ∷ first m c.filled)) ≡ length (sorted (t ∷ first l b.filled))
  same_count =
      ap {B = ℕ} (λ (x : List Triple). length x) (sorted-members (t ∷ first m c.filled) (t ∷ first l b.filled)
      (λ u. (
        λ x. ⊎_elim (λ e. here e) (λ y. there ((C.members u).0 y)) (mem-cases x),
        λ x. ⊎_elim (λ e. here e) (λ y. there ((C.members u).1 y)) (mem-cases x),
      )))

  same_after : SameBase m n c → SameBase l n b
  same_after S =
      record {
        size = S.size ∙ C.same_base.size;
        places = λ i h. S.places i (subst (λ (z : ℕ). i < z) (sym C.base) h) ∙ C.same_base.places i h;
      }

  pub offered_after : (r : Result Builder Full) → Offered m n c r t → Offered l n b r t
  offered_after (Ok d) O =
      let T = O.taken in
      record {
        same_base = same_after O.same_base;
        taken = record {
          base = T.base ∙ C.base;
          built = T.built;
          members = λ u. (
            λ x. ⊎_elim (λ y. inl ((C.members u).0 y)) (λ y. inr y) ((T.members u).0 x),
            λ w. (T.members u).1 (⊎_elim (λ y. inl ((C.members u).1 y)) (λ y. inr y) w),
          );
        };
        over = tt;
      }
  offered_after (Err e) O =
      record {
        same_base = same_after O.same_base;
        taken = tt;
        over = subst (λ (k : ℕ). length l / 3 < k) same_count (subst (λ (k : ℕ). k / 3 < length (sorted (t ∷ first m c.filled))) C.same_base.size O.over);
      }

-- every slot holds a triple of its own, and t is none of them
pub offered_full : (l : List ℕ) (b : Builder) (t : Triple) (e : Full) → Built l b → b.sorted ≡ b.filled → known l b t ≡ false → length l / 3 ≤ b.filled → Offered l l b (Err e) t
offered_full l b t e B s k h =
    record {
      same_base = record { size = refl; places = λ i x. refl };
      taken = tt;
      over = omega (arith, sorted_more t (first l b.filled) fresh, sorted-count (at l) 0 b.filled apart);
    }
  where
    fresh : Mem t (first l b.filled) → ⊥
    fresh m = let w = stands (at l) 0 b.filled t m in unknown l b t B k w.place (omega (arith, w.high)) (sym w.is)

    apart : Injective (at l) 0 (0 + b.filled)
    apart i j x y z q = go (cmp i b.base) (cmp j b.base)
      where
        go : Cmp i b.base → Cmp j b.base → ⊥
        go (lt p) (lt o) = rising_injective (at l) 0 b.base B.base_rising i j (omega arith) y o q
        go (lt p) (eq o) = B.apart i j p (omega arith) (omega arith) q
        go (lt p) (gt o) = B.apart i j p (omega arith) (omega arith) q
        go (eq p) o = rising_injective (at l) b.base b.sorted B.run_rising i j (omega arith) y (omega arith) q
        go (gt p) o = rising_injective (at l) b.base b.sorted B.run_rising i j (omega arith) y (omega arith) q

-- ── the whole list at the end ──
pub finished : (l m n : List ℕ) (filled r : ℕ) → 3 * filled ≤ length l → Distinct l m 0 filled r → Cleared m n (3 * r) (length m) → Finished l n filled r
unfolding listed padded zeros
finished l m n filled r room D C = record { count = counted; list = sym (take-append-drop (3 * r) n) ∙ (λ i. front i ++ back i) }
  where
    all : tabulate (at m) 0 r ≡ sorted (first l filled)
    all = D.places ∙ ap (λ (k : ℕ). sorted (tabulate (at l) 0 k)) (sub-zero filled)

    counted : r ≡ length (sorted (first l filled))
    counted = sym (length-tabulate (at m) 0 r) ∙ ap {B = ℕ} (λ (x : List Triple). length x) all

    size : length n ≡ length l
    size = C.size ∙ D.size

    short : 3 * r ≤ length n
    short = omega (arith, size, D.fits)

    same : (i : ℕ) → 0 ≤ i → i < 0 + r → at n i ≡ at m i
    same i a b =
        at_agree m n i (C.rest (3 * i) (λ x. absurd (omega arith))) (C.rest (3 * i + 1) (λ x. absurd (omega arith))) (C.rest (3 * i + 2) (λ x. absurd (omega arith)))

    front : take (3 * r) n ≡ flat (sorted (first l filled))
    front = sym (flat-places n r short) ∙ ap flat (tabulate-agree (at n) (at m) 0 r same ∙ all)

    flat-size : length (flat (sorted (first l filled))) ≡ 3 * r
    flat-size = length-flat (sorted (first l filled)) ∙ ap (λ (k : ℕ). 3 * k) (sym counted)

    back : drop (3 * r) n ≡ replicate (length l - length (flat (sorted (first l filled)))) 0
    back =
        let k = length l - length (flat (sorted (first l filled))) in
        let e = length-drop (3 * r) n in
        let z = length-replicate {A = ℕ} k 0 in
        ext_get_or 0 (drop (3 * r) n) (replicate k 0) (omega (arith, size, flat-size))
        (λ i h. get_or-drop (3 * r) n i 0 ∙ C.zeros (3 * r + i) (omega arith) (omega (arith, C.size)) ∙ sym (get_or-replicate k i 0 0 (omega (arith, size, flat-size))))
