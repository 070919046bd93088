-- The part of a list with the lines of a subject is right, and in a sorted list it is all of them.
-- Assumes nothing.
use Prim.Native.Nat.{ℕ, ◌-◌, ◌*◌, ◌/◌, ◌≤◌}
use mathlib.Core.Path.{◌≡◌, refl, sym, ◌∙◌, ap, subst}
use mathlib.Core.Logic.{⊎_elim}
use mathlib.Core.Bool.{Bool, true, false, cond, not}
use mathlib.Core.List.Memᴰ.{head as here}
use mathlib.Core.List.Memᴰ.{not-nil as no-mem}
use mathlib.Core.List.Memᴰ.{tail as there}
use mathlib.Core.List.{List, [], ◌∷◌, ◌++◌, Memᴰ as Mem}
use native.Mathlib.Omega.{arith}
use lib.ListN.{length}
use borrow.Author.Tests.{eqb-true, eqb-false, ne_eqb}
use Rattle.model.specs.declared.Triple.{Triple}
use Rattle.model.specs.Lists.{collect, filter, take_until, drop_until, zeros, padded}
use Rattle.model.specs.Triples.{triples, flat, slots, listed}
use Rattle.model.specs.Order.{Lt, by_subject, by_property, by_object, Rising}
use Rattle.theory.proofs.Tests.{bool_cases, not_true_false}
use Rattle.theory.proofs.Lists.{mem-filter}
use Rattle.theory.proofs.Cuts.{take_stops, take-goes-on, take_all, drop_stops, drop-goes-on, drop_all, filter_takes, filter-leaves, filter_none}
use Rattle.theory.proofs.Flat.{triples-append, zeros-subject}
use Rattle.lists.proofs.Places.{whole-triples}
use Rattle.subject_lines.specs.Lines.{has_subject, other_subject, lines_of, start_of, end_of}
use Rattle.subject_lines.specs.Statements.{PartRight, SortedBySubject, AllLines}
use Rattle.subject_lines.proofs.Parts.{start-le, end-within, part-numbers}

module _ (c : ℕ) where
  -- ── the two tests ──
  has-is : (t : Triple) → has_subject c t ≡ true → t.subject ≡ c
  unfolding has_subject
  has-is t e = eqb-true t.subject c e

  has_not : (t : Triple) → has_subject c t ≡ false → t.subject ≡ c → ⊥
  unfolding has_subject
  has_not t e = eqb-false t.subject c e

  not_has : (t : Triple) → (t.subject ≡ c → ⊥) → has_subject c t ≡ false
  unfolding has_subject
  not_has t n = ne_eqb t.subject c n

  other_of : (t : Triple) (b : Bool) → has_subject c t ≡ b → other_subject c t ≡ not b
  unfolding other_subject
  other_of t b e = ap not e

  -- ── sorted lists ──
  -- where no subject is below c, the lines at the front are all
  front-all : (ts : List Triple) → SortedBySubject ts → ((y : Triple) → Mem y ts → c ≤ y.subject) → take_until (other_subject c) ts ≡ filter (has_subject c) ts
  unfolding take_until filter collect
  front-all [] o h = refl
  front-all (t ∷ ts) o h = ⊎_elim (yes (front-all ts o.1 (λ y m. h y (there m)))) no (bool_cases (has_subject c t))
    where
      yes : take_until (other_subject c) ts ≡ filter (has_subject c) ts → has_subject c t ≡ true → take_until (other_subject c) (t ∷ ts) ≡ filter (has_subject c) (t ∷ ts)
      yes ih e = take-goes-on (other_subject c) t ts (other_of t true e) ∙ ap (λ (r : List Triple). t ∷ r) ih ∙ sym (filter_takes (has_subject c) t ts e)

      no : has_subject c t ≡ false → take_until (other_subject c) (t ∷ ts) ≡ filter (has_subject c) (t ∷ ts)
      no e =
          let n = has_not t e in
          let low = h t (here refl) in
          take_stops (other_subject c) t ts (other_of t false e)
          ∙ sym (filter-leaves (has_subject c) t ts e ∙ filter_none (has_subject c) ts (λ y m. not_has y (λ q. let k = o.0 y m in n (omega arith))))

  all_lines : (ts : List Triple) → SortedBySubject ts → lines_of c ts ≡ filter (has_subject c) ts
  unfolding lines_of take_until drop_until filter collect
  all_lines [] o = refl
  all_lines (t ∷ ts) o = ⊎_elim yes (no (all_lines ts o.1)) (bool_cases (has_subject c t))
    where
      yes : has_subject c t ≡ true → take_until (other_subject c) (drop_until (has_subject c) (t ∷ ts)) ≡ filter (has_subject c) (t ∷ ts)
      yes e =
          let q = has-is t e in
          ap (take_until (other_subject c)) (drop_stops (has_subject c) t ts e) ∙ take-goes-on (other_subject c) t ts (other_of t true e)
          ∙ ap (λ (r : List Triple). t ∷ r) (front-all ts o.1 (λ y m. let k = o.0 y m in omega arith)) ∙ sym (filter_takes (has_subject c) t ts e)

      no : take_until (other_subject c) (drop_until (has_subject c) ts) ≡ filter (has_subject c) ts → has_subject c t ≡ false
          → take_until (other_subject c) (drop_until (has_subject c) (t ∷ ts)) ≡ filter (has_subject c) (t ∷ ts)
      no ih e = ap (take_until (other_subject c)) (drop-goes-on (has_subject c) t ts e) ∙ ih ∙ sym (filter-leaves (has_subject c) t ts e)

  -- ── triples with other subjects behind ──
  module _ (zs : List Triple) (h : (z : Triple) → Mem z zs → has_subject c z ≡ false) where
    front-none : (xs : List Triple) → ((z : Triple) → Mem z xs → has_subject c z ≡ false) → take_until (other_subject c) xs ≡ []
    unfolding take_until
    front-none [] k = refl
    front-none (z ∷ xs) k = take_stops (other_subject c) z xs (other_of z false (k z (here refl)))

    front-behind : (ts : List Triple) → take_until (other_subject c) (ts ++ zs) ≡ take_until (other_subject c) ts
    unfolding take_until
    front-behind [] = front-none zs h
    front-behind (t ∷ ts) = ap (λ (r : List Triple). cond (other_subject c t) [] (t ∷ r)) (front-behind ts)

    lines-behind : (ts : List Triple) → lines_of c (ts ++ zs) ≡ lines_of c ts
    unfolding lines_of take_until drop_until
    lines-behind [] = ap (take_until (other_subject c)) (drop_all (has_subject c) zs h)
    lines-behind (t ∷ ts) = at (has_subject c t) (lines-behind ts)
      where
        at : (b : Bool) → take_until (other_subject c) (drop_until (has_subject c) (ts ++ zs)) ≡ take_until (other_subject c) (drop_until (has_subject c) ts)
            → take_until (other_subject c) (cond b (t ∷ ts ++ zs) (drop_until (has_subject c) (ts ++ zs))) ≡ take_until (other_subject c) (cond b (t ∷ ts) (drop_until (has_subject c) ts))
        at true ih = front-behind (t ∷ ts)
        at false ih = ih

  not_cut : (n : ℕ) (ts : List Triple) → SortedBySubject ts → (c ≡ 0 → ⊥) → lines_of c (triples (listed n ts)) ≡ filter (has_subject c) ts
  unfolding listed padded
  not_cut n ts o z =
      let k = n - length (flat ts) in
      ap (lines_of c) (triples-append ts (zeros k))
      ∙ lines-behind (triples (zeros k)) (λ t m. not_has t (λ e. z (sym e ∙ zeros-subject k t m))) ts ∙ all_lines ts o

  -- ── no triple with that subject ──
  none-there : (ts : List Triple) → filter (has_subject c) ts ≡ [] → (t : Triple) → Mem t ts → has_subject c t ≡ false
  none-there ts e t m = not_true_false (has_subject c t) (λ h. no-mem (subst (Mem t) e (mem-filter (has_subject c) ts t m h)))

  empty-behind : (l : List ℕ) → filter (has_subject c) (triples l) ≡ [] → (start_of c l ≡ 3 * slots l) × (end_of c l ≡ 3 * slots l)
  unfolding start_of slots
  empty-behind l e =
      let f = ap (λ (ts : List Triple). length ts) (take_all (has_subject c) (triples l) (none-there (triples l) e)) in
      let n = whole-triples l in
      let s : start_of c l ≡ 3 * (length l / 3) = omega (arith, f, n) in
      (s, omega (arith, s, start-le c l, end-within c l))

subject-le : {a b : Triple} → Lt a b → a.subject ≤ b.subject
subject-le (by_subject h) = omega arith
subject-le (by_property e h) = omega arith
subject-le (by_object e f h) = omega arith

rising-sorted : (ts : List Triple) → Rising ts → SortedBySubject ts
rising-sorted [] r = tt
rising-sorted (t ∷ ts) r = (λ y m. subject-le (r.0 y m), rising-sorted ts r.1)

pub part_right : PartRight
part_right = record { numbers = part-numbers; within = end-within; none = empty-behind }

pub all-lines-right : AllLines
all-lines-right =
    record {
      sorted = all_lines;
      rising = rising-sorted;
      handed_back = λ c summary table map r p o. p.numbers ∙ ap flat (all_lines c _ o);
      not_cut = λ c n ts r z. not_cut c n ts (rising-sorted ts r) z;
    }
