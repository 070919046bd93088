-- How many triples each line of a summary stands for: the weights stand beside the lines and add up, what a new triple adds, and what one that
-- leaves takes away.
-- Assumes nothing.
use Prim.Native.Nat.{ℕ, zero, suc, ◌+◌, ◌-◌, ◌≤◌, ◌<◌}
use mathlib.Core.Path.{◌≡◌, refl, sym, ◌∙◌, ap, subst}
use mathlib.Core.Logic.{◌⊎◌, inl, inr, ⊎_elim}
use mathlib.Core.Bool.{Bool, true, false, cond, true≢false}
use mathlib.Core.List.Memᴰ.{cases_cons as mem-cases}
use mathlib.Core.List.Memᴰ.{head as here}
use mathlib.Core.List.Memᴰ.{not-nil as no-mem}
use mathlib.Core.List.Memᴰ.{tail as there}
use mathlib.Core.List.{List, [], ◌∷◌, map, Memᴰ as Mem}
use native.Mathlib.Omega.{arith}
use native.Mathlib.Nat.{zero-add}
use lib.ListN.{length, get_or, set, length-map}
use lib.Seq.{get_or-set_same}
use Rattle.model.specs.declared.Triple.{Triple}
use Rattle.model.specs.Lists.{any, how_many, total}
use Rattle.model.specs.Triples.{before, same, holds, insert, without}
use Rattle.model.specs.Order.{Lt, Rising}
use Rattle.model.specs.Partition.{label}
use Rattle.model.specs.Summary.{moved, Image, condensed, weight, weights_by}
use Rattle.theory.specs.Tables.{In}
use Rattle.theory.proofs.Tests.{cond_cases, bool_cases, not_true_false}
use Rattle.theory.proofs.Lists.{any_found, any_none, many-le, many-none, many-all, many-some, mem_get_d}
use Rattle.theory.proofs.Order.{lt_irrefl, same-eq, same_refl, mem-holds, holds-mem, mem-without, without-mem, without-rising, without_gone, without-insert}
use Rattle.theory.proofs.Counting.{total-many, map_same, many-turned}
use Rattle.theory.proofs.Summaries.{condensed-rising, condensed-exact, condensed_unique}

-- ── counting triples ──
-- a triple that is not in a list counts once more when it is put in
pub many-insert : (f : Triple → Bool) (t : Triple) (ts : List Triple) → holds t ts ≡ false → how_many f (insert t ts) ≡ cond (f t) 1 0 + how_many f ts
unfolding insert how_many
many-insert f t [] h = refl
many-insert f t (x ∷ xs) h =
    cond_cases Counts (before t x) (λ e. refl)
    (λ e. cond_cases Counts (same t x) (λ s. absurd (true≢false (sym (mem-holds t (x ∷ xs) (here (same-eq t x s))) ∙ h)))
    (λ s. omega (arith, many-insert f t xs (not_true_false (holds t xs) (λ k. true≢false (sym (mem-holds t (x ∷ xs) (there (holds-mem t xs k))) ∙ h))))))
  where
    Counts : List Triple → Type 0
    Counts l = how_many f l ≡ cond (f t) 1 0 + (cond (f x) 1 0 + how_many f xs)

-- in a rising list a member stands once
one_place : (y : Triple) (us : List Triple) → Rising us → Mem y us → how_many (λ u. same u y) us ≡ 1
unfolding how_many
one_place y [] r m = absurd (no-mem m)
one_place y (u ∷ us) r m =
    ⊎_elim
    (λ (e : y ≡ u).
    let rest = many-none (λ x. same x y) us (λ x k. not_true_false (same x y) (λ s. lt_irrefl (subst (Lt u) (same-eq x y s ∙ e) (r.0 x k)))) in
    rw (same_refl u y (sym e)) (omega (arith, rest)))
    (λ k.
    let one = one_place y us r.1 k in
    rw (not_true_false (same u y) (λ s. lt_irrefl (subst (Lt u) (sym (same-eq u y s)) (r.0 y k)))) (omega (arith, one)))
    (mem-cases m)

-- where the image of each triple is one of the rising triples, the counts add up
weights-add : (g : Triple → Triple) (us ts : List Triple) → Rising us → ((t : Triple) → Mem t ts → Mem (g t) us)
    → total (map (λ u. how_many (λ t. same u (g t)) ts) us) ≡ length ts
weights-add g us ts r h =
    many-turned (λ u t. same u (g t)) us ts
    ∙ ap total (map_same (λ t. how_many (λ u. same u (g t)) us) (λ t. 1) ts (λ t m. one_place (g t) us r (h t m)))
    ∙ total-many (λ t. true) ts
    ∙ many-all (λ t. true) ts (λ t m. refl)

-- ── the weights of a summary ──
module _ (m : List ℕ) (ts : List Triple) where
  pub weights-length : length (weights_by m ts) ≡ length (condensed m ts)
  unfolding weights_by
  weights-length = length-map (condensed m ts) _

  pub weights-total : total (weights_by m ts) ≡ length ts
  unfolding weights_by weight
  weights-total = weights-add (moved (label m)) (condensed m ts) ts (condensed-rising m ts) (λ t k. (condensed-exact m ts (moved (label m) t)).1 (t, k, refl))

  weight-some : (u : Triple) → Mem u (condensed m ts) → 1 ≤ weight (label m) ts u
  unfolding weight
  weight-some u k =
      let w = (condensed-exact m ts u).0 k in
      many-some (λ t. same u (moved (label m) t)) ts w.0 w.1 (same_refl u _ w.2)

pub map_at : {A : Type 0} (g : A → ℕ) (us : List A) (k : ℕ) (d : A) → k < length us → get_or (map g us) k 0 ≡ g (get_or us k d)
map_at g [] k d h = absurd (omega arith)
map_at g (u ∷ us) zero d h = refl
map_at g (u ∷ us) (suc k) d h = map_at g us k d (omega arith)

pub weights-at : (m : List ℕ) (ts : List Triple) (k : ℕ) (d : Triple) → k < length (condensed m ts) → get_or (weights_by m ts) k 0 ≡ weight (label m) ts (get_or (condensed m ts) k d)
unfolding weights_by
weights-at m ts k d h = map_at (weight (label m) ts) (condensed m ts) k d h

pub weights-few : (m : List ℕ) (ts : List Triple) (k : ℕ) (d : Triple) → k < length (condensed m ts) → get_or (weights_by m ts) k 0 ≤ length ts
unfolding weight
weights-few m ts k d h = omega (arith, weights-at m ts k d h, many-le (λ t. same (get_or (condensed m ts) k d) (moved (label m) t)) ts)

pub weights-some : (m : List ℕ) (ts : List Triple) (k : ℕ) (d : Triple) → k < length (condensed m ts) → 1 ≤ get_or (weights_by m ts) k 0
weights-some m ts k d h = omega (arith, weights-at m ts k d h, weight-some m ts (get_or (condensed m ts) k d) (mem_get_d (condensed m ts) d k h))

-- ── a new triple ──
module _ (f : ℕ → ℕ) (t : Triple) (ts : List Triple) (new : holds t ts ≡ false) where
  more : (u : Triple) (b : Bool) → same u (moved f t) ≡ b → weight f (insert t ts) u ≡ cond b 1 0 + weight f ts u
  unfolding weight
  more u b e = many-insert (λ x. same u (moved f x)) t ts new ∙ ap (λ (c : Bool). cond c 1 0 + weight f ts u) e

  other : (u : Triple) → (u ≡ moved f t → ⊥) → weight f (insert t ts) u ≡ weight f ts u
  other u n = more u false (not_true_false (same u (moved f t)) (λ s. n (same-eq u _ s))) ∙ zero-add (weight f ts u)

  -- the line that is its image weighs one more, and no other does
  pub weights-more : (us : List Triple) (j : ℕ) (d : Triple) → Rising us → j < length us → get_or us j d ≡ moved f t
      → map (weight f (insert t ts)) us ≡ set (map (weight f ts) us) j (get_or (map (weight f ts) us) j 0 + 1)
  weights-more [] j d r h e = absurd (omega arith)
  weights-more (u ∷ us) zero d r h e =
      let a : weight f (insert t ts) u ≡ weight f ts u + 1 = omega (arith, more u true (same_refl u _ e)) in
      let b : map (weight f (insert t ts)) us ≡ map (weight f ts) us =
      map_same (weight f (insert t ts)) (weight f ts) us (λ x k. other x (λ q. lt_irrefl (subst (Lt u) (q ∙ sym e) (r.0 x k)))) in
      λ i. a i ∷ b i
  weights-more (u ∷ us) (suc j) d r h e =
      let a : weight f (insert t ts) u ≡ weight f ts u =
      other u (λ q. lt_irrefl (subst (Lt u) (e ∙ sym q) (r.0 (get_or us j d) (mem_get_d us d j (omega arith))))) in
      λ i. a i ∷ weights-more us j d r.1 (omega arith) e i

-- ── a triple that leaves ──
-- a list without the number at place j
pub drop_at : ℕ → List ℕ → List ℕ
drop_at j [] = []
drop_at zero (x ∷ xs) = xs
drop_at (suc j) (x ∷ xs) = x ∷ drop_at j xs

pub length-drop : (j : ℕ) (xs : List ℕ) → j < length xs → length xs ≡ length (drop_at j xs) + 1
unfolding drop_at
length-drop j [] h = absurd (omega arith)
length-drop zero (x ∷ xs) h = omega arith
length-drop (suc j) (x ∷ xs) h = omega (arith, length-drop j xs (omega arith))

pub drop-front : (j : ℕ) (xs : List ℕ) (k : ℕ) → k < j → get_or (drop_at j xs) k 0 ≡ get_or xs k 0
unfolding drop_at
drop-front j [] k h = refl
drop-front zero (x ∷ xs) k h = absurd (omega arith)
drop-front (suc j) (x ∷ xs) zero h = refl
drop-front (suc j) (x ∷ xs) (suc k) h = drop-front j xs k (omega arith)

pub drop-back : (j : ℕ) (xs : List ℕ) (k : ℕ) → j ≤ k → get_or (drop_at j xs) k 0 ≡ get_or xs (suc k) 0
unfolding drop_at
drop-back j [] k h = refl
drop-back zero (x ∷ xs) k h = refl
drop-back (suc j) (x ∷ xs) zero h = absurd (omega arith)
drop-back (suc j) (x ∷ xs) (suc k) h = drop-back j xs k (omega arith)

-- the number that goes may be any
drop-set : (j : ℕ) (xs : List ℕ) (y : ℕ) → drop_at j (set xs j y) ≡ drop_at j xs
unfolding drop_at
drop-set j [] y = refl
drop-set zero (x ∷ xs) y = refl
drop-set (suc j) (x ∷ xs) y = ap (λ (l : List ℕ). x ∷ l) (drop-set j xs y)

-- one more, taken back
set_back : (xs : List ℕ) (j : ℕ) → j < length xs → xs ≡ set (set xs j (get_or xs j 0 + 1)) j (get_or xs j 0)
set_back [] j h = absurd (omega arith)
set_back (x ∷ xs) zero h = refl
set_back (x ∷ xs) (suc j) h = ap (λ (l : List ℕ). x ∷ l) (set_back xs j (omega arith))

-- of a rising list without the triple at place j, the numbers are those without the number at place j
map-without : (g : Triple → ℕ) (u : Triple) (us : List Triple) (j : ℕ) (d : Triple) → Rising us → j < length us → get_or us j d ≡ u
    → map g (without u us) ≡ drop_at j (map g us)
unfolding without drop_at
map-without g u [] j d r h e = absurd (omega arith)
map-without g u (x ∷ xs) zero d r h e =
    ap (λ (b : Bool). map g (cond b xs (x ∷ without u xs))) (same_refl u x (sym e))
map-without g u (x ∷ xs) (suc j) d r h e =
    ap (λ (b : Bool). map g (cond b xs (x ∷ without u xs)))
    (not_true_false (same u x) (λ s. lt_irrefl (subst (Lt x) (e ∙ same-eq u x s) (r.0 (get_or xs j d) (mem_get_d xs d j (omega arith))))))
    ∙ ap (λ (l : List ℕ). g x ∷ l) (map-without g u xs j d r.1 (omega arith) e)

-- by any map: what becomes of the images and of their weights
module _ (m : List ℕ) (t : Triple) (H : List Triple) (rising : Rising H) (held : Mem t H) where
  abbrev f : ℕ → ℕ
  f = label m

  abbrev K : List Triple
  K = without t H

  abbrev lines : List Triple
  lines = condensed m H

  again : insert t K ≡ H
  again = without-insert t H rising held

  left_out : holds t K ≡ false
  left_out = not_true_false (holds t K) (λ e. without_gone t H rising (holds-mem t K e))

  -- an image is t's, or that of another held triple
  image_or : (x : Triple) → Image f (In H) x → (x ≡ moved f t) ⊎ Image f (In K) x
  image_or x w =
      ⊎_elim (λ (e : same t w.0 ≡ true). inl (w.2 ∙ ap (moved f) (sym (same-eq t w.0 e))))
      (λ e. inr (w.0, mem-without t w.0 H w.1 (λ q. true≢false (sym (same_refl t w.0 (sym q)) ∙ e)), w.2)) (bool_cases (same t w.0))

  image-still : (x : Triple) → Image f (In K) x → Image f (In H) x
  image-still x w = (w.0, without-mem t w.0 H w.1, w.2)

  -- another held triple with t's image counts for it
  counted : Image f (In K) (moved f t) → 1 ≤ weight f K (moved f t)
  unfolding weight
  counted w = many-some (λ u. same (moved f t) (moved f u)) K w.0 w.1 (same_refl _ _ w.2)

  counted-by : 1 ≤ weight f K (moved f t) → Image f (In K) (moved f t)
  unfolding weight
  counted-by h =
      ⊎_elim (λ e. let y = any_found (λ u. same (moved f t) (moved f u)) K e in (y.0, y.1, same-eq _ _ y.2))
      (λ e. absurd (omega (arith, many-none (λ u. same (moved f t) (moved f u)) K (λ u k. any_none (λ u. same (moved f t) (moved f u)) K e u k))))
      (bool_cases (any (λ u. same (moved f t) (moved f u)) K))

  lines_stay : 1 ≤ weight f K (moved f t) → lines ≡ condensed m K
  lines_stay h =
      condensed_unique m K lines (condensed-rising m H)
      (λ x. (
        λ k. ⊎_elim (λ (q : x ≡ moved f t). subst (Image f (In K)) (sym q) (counted-by h)) (λ w. w) (image_or x ((condensed-exact m H x).0 k)),
        λ w. (condensed-exact m H x).1 (image-still x w),
      ))

  line-goes : weight f K (moved f t) ≡ 0 → without (moved f t) lines ≡ condensed m K
  line-goes h =
      condensed_unique m K (without (moved f t) lines) (without-rising (moved f t) lines (condensed-rising m H))
      (λ x. (
        λ k. ⊎_elim
            (λ (q : x ≡ moved f t). absurd (without_gone (moved f t) lines (condensed-rising m H) (subst (λ (z : Triple). Mem z (without (moved f t) lines)) q k)))
            (λ w. w) (image_or x ((condensed-exact m H x).0 (without-mem (moved f t) x lines k))),
        λ w. mem-without (moved f t) x lines ((condensed-exact m H x).1 (image-still x w))
            (λ q. absurd (omega (arith, h, counted (subst (Image f (In K)) q w)))),
      ))

  -- t's image stands at place j
  module _ (j : ℕ) (d : Triple) (h : j < length lines) (e : get_or lines j d ≡ moved f t) where
    abbrev few : List ℕ
    few = map (weight f K) lines

    inside : j < length few
    inside = omega (arith, length-map lines (weight f K))

    heavier : weights_by m H ≡ set few j (get_or few j 0 + 1)
    unfolding weights_by
    heavier =
        ap (λ (ts : List Triple). map (weight f ts) lines) (sym again)
        ∙ weights-more f t K left_out lines j d (condensed-rising m H) h e

    here-is : get_or few j 0 ≡ weight f K (moved f t)
    here-is = map_at (weight f K) lines j d h ∙ ap (weight f K) e

    weighs : get_or (weights_by m H) j 0 ≡ get_or few j 0 + 1
    weighs = ap (λ (l : List ℕ). get_or l j 0) heavier ∙ get_or-set_same few j _ 0 inside

    -- others have the image: its line weighs one less
    pub lighter : 2 ≤ get_or (weights_by m H) j 0
        → (condensed m K ≡ lines) × (weights_by m K ≡ set (weights_by m H) j (get_or (weights_by m H) j 0 - 1))
    unfolding weights_by
    lighter l =
        let stay = lines_stay (omega (arith, weighs, here-is)) in
        let x : get_or few j 0 ≡ get_or (weights_by m H) j 0 - 1 = omega (arith, weighs) in (
          sym stay,
          ap (map (weight f K)) (sym stay) ∙ set_back few j inside ∙ (λ i. set (sym heavier i) j (x i)),
        )

    -- no other has it: its line goes
    pub gone : get_or (weights_by m H) j 0 ≤ 1 → (condensed m K ≡ without (moved f t) lines) × (weights_by m K ≡ drop_at j (weights_by m H))
    unfolding weights_by
    gone l =
        let go = line-goes (omega (arith, weighs, here-is)) in (
          sym go,
          ap (map (weight f K)) (sym go) ∙ map-without (weight f K) (moved f t) lines j d (condensed-rising m H) h e
              ∙ sym (drop-set j few _) ∙ ap (drop_at j) (sym heavier),
        )
