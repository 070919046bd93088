-- Bytes stored from a place on.
-- Assumes nothing.
use Prim.Native.Nat.{ℕ, suc, ◌+◌}
use mathlib.Core.Path.{◌≡◌, sym, ◌∙◌, ap}
use mathlib.Core.List.{List, [], ◌∷◌, ◌++◌, append_assoc}
use native.Mathlib.Omega.{arith}
use lib.ListN.{length, drop, set, length-set, length-append}
use lib.Seq.{sets, length-sets, set_comm}
use Rattle.site_bytes.specs.declared.Page.{Page}
use Rattle.site_bytes.specs.Calls.{Room, Put, HasRoom, Wrote}

pub set-size : (l m : List ℕ) (i b : ℕ) → m ≡ set l i b → length m ≡ length l
set-size l m i b e = ap length e ∙ length-set l i b

-- ── two runs of bytes ──
pub sets_append : (l : List ℕ) (at : ℕ) (xs ys : List ℕ) → sets l at (xs ++ ys) ≡ sets (sets l at xs) (at + length xs) ys
sets_append l at [] ys = let e : at ≡ at + 0 = omega arith in ap (λ (k : ℕ). sets l k ys) e
sets_append l at (x ∷ xs) ys =
    let e : suc at + length xs ≡ at + suc (length xs) = omega arith in
    sets_append (set l at x) (suc at) xs ys ∙ ap (λ (k : ℕ). sets (sets (set l at x) (suc at) xs) k ys) e

-- the last byte first
pub sets_last : (l : List ℕ) (at : ℕ) (xs : List ℕ) (d : ℕ) → sets (set l (at + length xs) d) at xs ≡ sets l at (xs ++ (d ∷ []))
sets_last l at [] d = let e : at + 0 ≡ at = omega arith in ap (λ (k : ℕ). set l k d) e
sets_last l at (x ∷ xs) d =
    let e : at + suc (length xs) ≡ suc at + length xs = omega arith in
    let n : at + suc (length xs) ≡ at → ⊥ = omega arith in
    ap (λ (m : List ℕ). sets m (suc at) xs) (set_comm l (at + suc (length xs)) at d x n ∙ ap (λ (k : ℕ). set (set l at x) k d) e)
    ∙ sets_last (set l at x) (suc at) xs d

pub put-length : (l : List ℕ) (at : ℕ) (xs l' : List ℕ) (r : ℕ) → Put l at xs l' r → length l' ≡ length l
put-length l at xs l' r p = ap length p.list ∙ length-sets l at xs

-- bytes behind bytes
pub put_then : (l : List ℕ) (at : ℕ) (xs m : List ℕ) (a : ℕ) (ys n : List ℕ) (b : ℕ) → Put l at xs m a → Put m a ys n b → Put l at (xs ++ ys) n b
put_then l at xs m a ys n b p q = record {
  list = q.list ∙ (λ i. sets (p.list i) (p.next i) ys) ∙ sym (sets_append l at xs ys);
  next = q.next ∙ omega (arith, p.next, length-append xs ys);
}

-- the same where the first are two
pub put_then_two : (l : List ℕ) (at : ℕ) (w xs m : List ℕ) (a : ℕ) (ys n : List ℕ) (b : ℕ) → Put l at (w ++ xs) m a → Put m a ys n b → Put l at (w ++ (xs ++ ys)) n b
put_then_two l at w xs m a ys n b p q =
    let h = put_then l at (w ++ xs) m a ys n b p q in
    let e = append_assoc w xs ys in
    record { list = h.list ∙ ap (sets l at) e; next = h.next ∙ ap (λ (x : List ℕ). at + length x) e }

pub room-first : (at : ℕ) (xs ys : List ℕ) → Room at (xs ++ ys) → Room at xs
room-first at xs ys h = omega (arith, length-append xs ys)

pub room_next : (l : List ℕ) (at : ℕ) (xs ys m : List ℕ) (a : ℕ) → Room at (xs ++ ys) → Put l at xs m a → Room a ys
room_next l at xs ys m a h p = omega (arith, length-append xs ys, p.next)

pub room-first-two : (at : ℕ) (w xs ys : List ℕ) → Room at (w ++ (xs ++ ys)) → Room at (w ++ xs)
room-first-two at w xs ys h = omega (arith, length-append w (xs ++ ys), length-append xs ys, length-append w xs)

pub room-next-two : (l : List ℕ) (at : ℕ) (w xs ys m : List ℕ) (a : ℕ) → Room at (w ++ (xs ++ ys)) → Put l at (w ++ xs) m a → Room a ys
room-next-two l at w xs ys m a h p = omega (arith, length-append w (xs ++ ys), length-append xs ys, length-append w xs, p.next)

-- ── pages ──
-- what was put on a new page
pub on_new : (p : Page) (l : List ℕ) → p.out.now ≡ l → p.at ≡ 0 → (xs : List ℕ) (p' : Page) → Wrote p xs p' → Put l 0 xs p'.out.now p'.at
on_new p l e f xs p' w = record { list = w.put.list ∙ (λ i. sets (e i) (f i) xs); next = w.put.next ∙ ap (λ (k : ℕ). k + length xs) f }

-- the list, once the page is let go
pub put_back : (l : List ℕ) (at : ℕ) (xs m x : List ℕ) (r : ℕ) → x ≡ m → Put l at xs m r → Put l at xs x r
put_back l at xs m x r e p = record { list = e ∙ p.list; next = p.next }

pub room-on-new : (p : Page) → p.at ≡ 0 → (xs : List ℕ) → Room 0 xs → HasRoom p xs
room-on-new p f xs h = omega arith

-- ── the loop over bytes ──
-- what is left gives the rest
pub record Putting (l₀ : List ℕ) (at : ℕ) (w l : List ℕ) (i : ℕ) : Type 0 where
  pub gives : sets l (at + i) (drop i w) ≡ sets l₀ at w
  pub size : length l ≡ length l₀
