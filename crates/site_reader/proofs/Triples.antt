-- The lines of triples, and the list that they are stored in.
-- Assumes nothing.
use Prim.Native.Nat.{ℕ, suc, ◌+◌, ◌-◌, ◌*◌, ◌/◌, ◌<◌, ◌≤◌}
use mathlib.Core.Path.{◌≡◌, refl, sym, ◌∙◌, ap, subst}
use mathlib.Core.Bool.{Bool, true, false, cond}
use mathlib.Core.List.{List, [], ◌∷◌}
use native.Mathlib.Numerals.{add-one}
use native.Mathlib.Omega.{arith}
use lib.Dec.{ltb}
use lib.ListN.{length, set}
use lib.Seq.{sets}
use borrow.Author.Tests.{lt-ltb, le-ltb}
use Rattle.model.specs.declared.Triple.{Triple}
use Rattle.model.specs.Triples.{slots, flat, listed}
use Rattle.theory.proofs.Flat.{length-flat}
use Rattle.lists.specs.Flat.{put_at, Cleared}
use Rattle.lists.proofs.Places.{put-length}
use Rattle.site_form.specs.Text.{most_lines}
use Rattle.site_form.specs.Reading.{bad, got, many, triple_reader}
use Rattle.site_form.proofs.Filled.{filled}
use Rattle.site_tokens.specs.Steps.{items, after}
use Rattle.site_reader.specs.Calls.{stored, stored_all, triple_lines, LinesFrom}
use Rattle.site_reader.proofs.Many.{items-none, after_none, items_stop, after_stop, items-on, after_on}

-- ── storing ──
module _ (l : List ℕ) (i : ℕ) (t : Triple) where
  pub not_stored : length l / 3 ≤ i → l ≡ stored l i t
  unfolding stored slots
  not_stored h = rw (le-ltb i (length l / 3) h)

  pub stored_at : i < length l / 3 → put_at l i t ≡ stored l i t
  unfolding stored slots
  stored_at h = rw (lt-ltb i (length l / 3) h)

  pub stored-length : length (stored l i t) ≡ length l
  unfolding stored
  stored-length = go (ltb i (slots l))
    where
      go : (b : Bool) → length (cond b (put_at l i t) l) ≡ length l
      go true = put-length l i t
      go false = refl

pub all-length : (l : List ℕ) (i : ℕ) (ts : List Triple) → length (stored_all l i ts) ≡ length l
unfolding stored_all
all-length l i [] = refl
all-length l i (t ∷ ts) = all-length (stored l i t) (suc i) ts ∙ stored-length l i t

-- with slots for all, their numbers stand one after the other
all-numbers : (l : List ℕ) (i : ℕ) (ts : List Triple) → i + length ts ≤ length l / 3 → stored_all l i ts ≡ sets l (3 * i) (flat ts)
unfolding stored_all flat put_at
all-numbers l i [] h = refl
all-numbers l i (t ∷ ts) h =
    let n = stored-length l i t in
    let a : 3 * suc i ≡ suc (suc (suc (3 * i))) = omega arith in
    let b : 3 * i + 1 ≡ suc (3 * i) = omega arith in
    let d : 3 * i + 2 ≡ suc (suc (3 * i)) = omega arith in
    all-numbers (stored l i t) (suc i) ts (omega arith)
    ∙ ap (λ (m : List ℕ). sets m (3 * suc i) (flat ts)) (sym (stored_at l i t (omega arith)))
    ∙ (λ k. sets (set (set (set l (3 * i) t.subject) (b k) t.property) (d k) t.object) (a k) (flat ts))

-- with slots for all and zeros behind them, the list is as the definitions have it
pub all_listed : (l₀ l m : List ℕ) (ts : List Triple) (n : ℕ) → n ≡ length ts → n ≤ length l₀ / 3 → l ≡ stored_all l₀ 0 ts → Cleared l m (3 * n) (length l) → m ≡ listed (length l₀) ts
unfolding listed
all_listed l₀ l m ts n e h f c =
    let k : 3 * n ≡ length (flat ts) = omega (arith, length-flat ts) in
    let s : length l ≡ length l₀ = ap length f ∙ all-length l₀ 0 ts in
    filled l₀ l m (flat ts) (3 * n) k (omega arith) (f ∙ all-numbers l₀ 0 ts (omega arith)) (subst (Cleared l m (3 * n)) s c)

-- ── the lines ──
-- what is left to read gives the rest of the triples
pub record Storing (text : List ℕ) (at : ℕ) (l₀ l : List ℕ) (count i : ℕ) : Type 0 where
  pub few : count ≤ most_lines
  pub counts : count + length (items (many (most_lines - count) triple_reader text i)) ≡ length (items (triple_lines text at))
  pub gives : stored_all l count (items (many (most_lines - count) triple_reader text i)) ≡ stored_all l₀ 0 (items (triple_lines text at))
  pub ends : after (many (most_lines - count) triple_reader text i) ≡ after (triple_lines text at)
  pub size : length l ≡ length l₀

module _ (text : List ℕ) (at : ℕ) (l₀ : List ℕ) where
  module _ (l : List ℕ) (count i : ℕ) (h : Storing text at l₀ l count i) where
    done : items (many (most_lines - count) triple_reader text i) ≡ [] → after (many (most_lines - count) triple_reader text i) ≡ i → LinesFrom text at l₀ (record { value = count; next = i }) l
    unfolding stored_all
    done e f =
        let z : length (items (many (most_lines - count) triple_reader text i)) ≡ 0 = ap length e in
        record {
          count = omega (arith, h.counts);
          next = sym f ∙ h.ends;
          list = ap (stored_all l count) (sym e) ∙ h.gives;
        }

    pub lines-full : most_lines ≤ count → LinesFrom text at l₀ (record { value = most_lines; next = i }) l
    lines-full e =
        let z : most_lines - count ≡ 0 = omega arith in
        let k : count ≡ most_lines = omega (arith, h.few) in
        subst (λ (n : ℕ). LinesFrom text at l₀ (record { value = n; next = i }) l) k
        (done
        (ap (λ (k : ℕ). items (many k triple_reader text i)) z ∙ items-none triple_reader text i)
        (ap (λ (k : ℕ). after (many k triple_reader text i)) z ∙ after_none triple_reader text i))

    pub lines_stop : triple_reader text i ≡ bad → LinesFrom text at l₀ (record { value = count; next = i }) l
    lines_stop e = done (items_stop triple_reader text i e (most_lines - count)) (after_stop triple_reader text i e (most_lines - count))

    pub lines_step : count < most_lines → (t : Triple) (next : ℕ) → triple_reader text i ≡ got t next → (m : List ℕ) → m ≡ stored l count t → Storing text at l₀ m (count + 1) next
    unfolding stored_all
    lines_step b t next e m f =
        let z : most_lines - count ≡ suc (most_lines - (count + 1)) = omega arith in
        let k = most_lines - (count + 1) in
        let j = most_lines - count in
        let on = items-on triple_reader text k j i next t e z in
        let n : length (items (many j triple_reader text i)) ≡ suc (length (items (many k triple_reader text next))) = ap length on in
        record {
          few = omega arith;
          counts = omega (arith, h.counts);
          gives =
              (λ s. stored_all (f s) (add-one count s) (items (many k triple_reader text next)))
              ∙ ap (stored_all l count) (sym on)
              ∙ h.gives;
          ends = sym (after_on triple_reader text k j i next t e z) ∙ h.ends;
          size = ap length f ∙ stored-length l count t ∙ h.size;
        }
