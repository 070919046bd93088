-- Nodes put in a row, a row of equal words, a row copied.
-- Assumes nothing.
use Prim.Native.Nat.{ℕ, ◌+◌, ◌*◌, ◌/◌, ◌%◌, ◌^◌, ◌<◌, ◌≤◌}
use native.Mathlib.Omega.{arith}
use native.Mathlib.Decide.{dec_lt}
use borrow.Rule.Slice.PartMut.{put_mid}
use Rattle.std.specs.List.{CopiedTo, SameBelow, SameFrom}
use Rattle.std.proofs.lemmas.List.{places}
use mathlib.Core.Path.{◌≡◌, refl, sym, ap, ◌∙◌}
use mathlib.Core.Bool.{true}
use mathlib.Core.List.{List}
use lib.Dec.{eqb}
use lib.ListN.{length, get_or, replicate, length-set}
use borrow.Author.Tests.{lt-ltb, le-ltb}
use Rattle.query.specs.declared.End.{End}
use Rattle.query.specs.declared.End.TheVariants.{Var}
use Rattle.query_rows.specs.Rows.{width, bit, in_row, allows, Sized, PutIn, RowSet, RowCopied}
use Rattle.query_rows.proofs.Bits.{with_bit, bit-there, bit_kept}
use Rattle.query_rows.proofs.Places.{word_of, shift_of, bit_below, rows_apart, row_within}

-- ── as many words: `Sized` by the lengths ──
pub sized_as : (n m : ℕ) → m ≡ n → (13 ≤ n) × (n ≤ 13312) → (13 ≤ m) × (m ≤ 13312)
sized_as n m e h = (omega (arith, h.0), omega (arith, h.1))

-- ── a node in a row ──
pub in_row_is : (d : List ℕ) (v x : ℕ) → bit d (v * width d + x % width d) ≡ in_row d v x
unfolding in_row
in_row_is d v x = refl

-- a list as long has rows as wide
in_row_same : (d d' : List ℕ) → length d' ≡ length d → (v x : ℕ) → bit d' (v * width d + x % width d) ≡ in_row d' v x
unfolding in_row
in_row_same d d' size v x = ap (λ (k : ℕ). bit d' (v * (k / 13 * 64) + x % (k / 13 * 64))) (sym size)

-- by the row's words
module _ (d : List ℕ) where
  abbrev wide : ℕ
  wide = length d / 13

  in_words : (v x : ℕ) → in_row d v x ≡ eqb (get_or d (v * wide + x % width d / 64) 0 / 2 ^ (x % width d % 64) % 2) 1
  unfolding in_row bit
  in_words v x =
      ap (λ (k : ℕ). eqb (get_or d k 0 / 2 ^ ((v * width d + x % width d) % 64) % 2) 1) (word_of v wide (x % width d))
      ∙ ap (λ (k : ℕ). eqb (get_or d (v * wide + x % width d / 64) 0 / 2 ^ k % 2) 1) (shift_of v wide (x % width d))

-- ── what an end may have ──
module _ (d : List ℕ) (e : End) (x : ℕ) where
  pub allows-short : (v : ℕ) → e ≡ Var v → length d < 13 → true ≡ allows d e x
  unfolding allows
  allows-short v h n = rw (h, lt-ltb _ _ n)

  pub allows-row : (v : ℕ) → e ≡ Var v → 13 ≤ length d → in_row d v x ≡ allows d e x
  unfolding allows
  allows-row v h n = rw (h, le-ltb _ _ n)

-- ── a node put in a row ──
module _ (d : List ℕ) (v x i : ℕ) (s : Sized d) (below : v < 13) (e : i ≡ v * width d + x % width d) where
  pub word-there : i / 64 < length d
  word-there =
      let a : i / 64 ≡ v * (length d / 13) + x % width d / 64 = ap (λ (k : ℕ). k / 64) e ∙ word_of v (length d / 13) (x % width d) in
      let b : x % width d / 64 < length d / 13 = bit_below (length d / 13) x (omega (arith, s.0)) in
      let r : v * (length d / 13) + length d / 13 ≤ length d = row_within v (length d) below in
      omega arith

  pub node-put : PutIn d (with_bit d i word-there) v x
  node-put =
      let d' : List ℕ = with_bit d i word-there in
      let size : length d' ≡ length d = length-set d (i / 64) _ in
      record {
        size = size;
        there = sym (in_row_same d d' size v x) ∙ ap (bit d') (sym e) ∙ bit-there d i word-there;
        kept = λ u y h. sym (in_row_same d d' size u y) ∙ bit_kept d i word-there _ (in_row_is d u y ∙ h);
      }

-- ── words written one after the other ──
-- n words f 0, f 1, .. stand from word t on, the rest as it was
pub record Written (d d' : List ℕ) (t : ℕ) (f : ℕ → ℕ) (n : ℕ) : Type 0 where
  pub size : length d' ≡ length d
  pub words : (j : ℕ) → j < n → get_or d' (t + j) 0 ≡ f j
  pub rest : (i : ℕ) → (t ≤ i → t + n ≤ i) → get_or d' i 0 ≡ get_or d i 0

-- one word written n times from word t on
pub filled : (d ys : List ℕ) (t k m n w : ℕ) → t + n ≤ length d → k ≡ n → m ≡ n → ys ≡ replicate m w → Written d (put_mid t k d ys) t (λ j. w) n
filled d ys t k m n w l e o q = rw (e, q, o) record {
  size = grind (arith, places);
  words = λ j m. grind (arith, places);
  rest = λ i g. beside i g (dec_lt i t);
}
  where
    beside : (i : ℕ) → (t ≤ i → t + n ≤ i) → Dec (i < t) → get_or (put_mid t n d (replicate n w)) i 0 ≡ get_or d i 0
    beside i g (yes z) = grind (arith, places)
    beside i g (no z) = let o : t + n ≤ i = g (omega arith) in grind (arith, places)

-- n words from word s on written from word t on
pub moved : (d d' : List ℕ) (s t k n : ℕ) → k ≡ n → length d' ≡ length d → CopiedTo d d' s t k → SameBelow d d' t → SameFrom d d' (t + k)
    → Written d d' t (λ j. get_or d (s + j) 0) n
moved d d' s t k n e size c below from = record {
  size = size;
  words = λ j l. c (t + j) 0 (omega arith) (omega arith) ∙ ap (λ (i : ℕ). get_or d i 0) (omega arith);
  rest = λ i g. beside i g (dec_lt i t);
}
  where
    beside : (i : ℕ) → (t ≤ i → t + n ≤ i) → Dec (i < t) → get_or d' i 0 ≡ get_or d i 0
    beside i g (yes z) = below i 0 z
    beside i g (no z) = let o : t + n ≤ i = g (omega arith) in from i 0 (omega arith)

-- a whole row written
module _ (d d' : List ℕ) (v : ℕ) (f : ℕ → ℕ) (n : ℕ) (s : Sized d) (all : length d / 13 ≤ n) (most : n ≤ length d / 13)
    (h : Written d d' (v * (length d / 13)) f n) where
  in_words_now : (u x : ℕ) → in_row d' u x ≡ eqb (get_or d' (u * (length d / 13) + x % width d / 64) 0 / 2 ^ (x % width d % 64) % 2) 1
  in_words_now u x =
      in_words d' u x
      ∙ ap (λ (k : ℕ). eqb (get_or d' (u * (k / 13) + x % (k / 13 * 64) / 64) 0 / 2 ^ (x % (k / 13 * 64) % 64) % 2) 1) h.size

  row_written : (x : ℕ) → in_row d' v x ≡ eqb (f (x % width d / 64) / 2 ^ (x % width d % 64) % 2) 1
  row_written x =
      let l : x % width d / 64 < length d / 13 = bit_below (length d / 13) x (omega (arith, s.0)) in
      in_words_now v x ∙ ap (λ (w : ℕ). eqb (w / 2 ^ (x % width d % 64) % 2) 1) (h.words (x % width d / 64) (omega arith))

  rows-kept : (u x : ℕ) → (u ≡ v → ⊥) → in_row d' u x ≡ in_row d u x
  rows-kept u x o =
      let l : x % width d / 64 < length d / 13 = bit_below (length d / 13) x (omega (arith, s.0)) in
      let same : get_or d' (u * (length d / 13) + x % width d / 64) 0 ≡ get_or d (u * (length d / 13) + x % width d / 64) 0 = h.rest _ (outside l) in
      in_words_now u x ∙ ap (λ (w : ℕ). eqb (w / 2 ^ (x % width d % 64) % 2) 1) same ∙ sym (in_words d u x)
    where
      outside : {a : ℕ} → a < length d / 13 → v * (length d / 13) ≤ u * (length d / 13) + a → v * (length d / 13) + n ≤ u * (length d / 13) + a
      outside l k = omega (arith, rows_apart u v _ _ o l k)

pub row-set : (d d' : List ℕ) (v w n : ℕ) → Sized d → length d / 13 ≤ n → n ≤ length d / 13
    → Written d d' (v * (length d / 13)) (λ j. w) n → RowSet d d' v w
row-set d d' v w n s a m h = record {
  size = h.size;
  row = row_written d d' v (λ j. w) n s a m h;
  others = rows-kept d d' v (λ j. w) n s a m h;
}

-- the words of row v of d
abbrev pub row_words : List ℕ → ℕ → ℕ → ℕ
row_words d v j = get_or d (v * (length d / 13) + j) 0

pub row_copied : (d d' : List ℕ) (u v n : ℕ) → Sized d → length d / 13 ≤ n → n ≤ length d / 13
    → Written d d' (u * (length d / 13)) (row_words d v) n → RowCopied d d' u v
row_copied d d' u v n s a m h = record {
  size = h.size;
  row = λ x. row_written d d' u (row_words d v) n s a m h x ∙ sym (in_words d v x);
  others = rows-kept d d' u (row_words d v) n s a m h;
}
