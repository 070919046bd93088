-- The part of a list with the lines of a subject, by places and by indexes.
-- Assumes nothing.
use Prim.Native.Nat.{ℕ, ◌+◌, ◌-◌, ◌*◌, ◌/◌, ◌≤◌}
use mathlib.Core.Path.{◌≡◌, sym, ◌∙◌, ap, subst}
use mathlib.Core.Bool.{Bool, true, false, cond}
use mathlib.Core.List.{List, ◌++◌, append_assoc}
use native.Mathlib.Omega.{arith}
use native.Mathlib.Nat.{zero-add, sub-zero}
use lib.ListN.{length, take, drop, length-append}
use lib.Seq.{take_at, drop_at}
use denote.Ref.{Bor}
use Rattle.model.specs.declared.Triple.{Triple}
use Rattle.model.specs.Lists.{take_until, drop_until, tabulate, First}
use Rattle.model.specs.Triples.{triples, flat, slots}
use Rattle.theory.proofs.Lists.{length-tabulate}
use Rattle.theory.proofs.Cuts.{cut_whole, take-first, drop-first}
use Rattle.theory.proofs.Flat.{length-flat, flat_append, flat-rest}
use Rattle.lists.specs.Flat.{at}
use Rattle.lists.proofs.Places.{triples-table, whole-triples}
use Rattle.subject_lines.specs.declared.Part.{Part}
use Rattle.subject_lines.specs.Lines.{has_subject, other_subject, lines_of, start_of, end_of, is_own, part_in, subject_part, Between, PartOf, HandsBack}

-- ── the places that the loops find, as indexes ──
module _ (l : List ℕ) (c a b : ℕ) (F : First (λ i. has_subject c (at l i)) 0 (length l / 3) a) where
  abbrev from_zero : First (λ i. has_subject c (at l i)) 0 (0 + length l / 3) a
  from_zero = subst (λ (n : ℕ). First (λ i. has_subject c (at l i)) 0 n a) (sym (zero-add (length l / 3))) F

  start_is : 3 * a ≡ start_of c l
  unfolding start_of
  start_is =
      sym (ap (λ (ts : List Triple). 3 * length (take_until (has_subject c) ts)) (triples-table l)
      ∙ ap (λ (ts : List Triple). 3 * length ts) (take-first (has_subject c) (at l) 0 (length l / 3) a from_zero)
      ∙ ap (λ (n : ℕ). 3 * n) (length-tabulate (at l) 0 (a - 0) ∙ sub-zero a))

  module _ (L : First (λ i. other_subject c (at l i)) a (length l / 3) b) where
    lines_are : lines_of c (triples l) ≡ tabulate (at l) a (b - a)
    unfolding lines_of
    lines_are =
        let z : length l / 3 ≡ a + (0 + length l / 3 - a) = omega (arith, F.high) in
        ap (λ (ts : List Triple). take_until (other_subject c) (drop_until (has_subject c) ts)) (triples-table l)
        ∙ ap (take_until (other_subject c)) (drop-first (has_subject c) (at l) 0 (length l / 3) a from_zero)
        ∙ take-first (other_subject c) (at l) a (0 + length l / 3 - a) b (subst (λ (n : ℕ). First (λ i. other_subject c (at l i)) a n b) z L)

    end_is : 3 * b ≡ end_of c l
    unfolding end_of
    end_is =
        let e = ap (λ (ts : List Triple). length ts) lines_are ∙ length-tabulate (at l) a (b - a) in
        omega (arith, start_is, e, L.low)

    pub part-is : (own : Bool) → record { own = own; start = 3 * a; end = 3 * b } ≡ part_in own c l
    part-is own = λ i. record { own = own; start = start_is i; end = end_is i }

-- ── the code's own entry ──
-- ── the part within its list ──
module _ (c : ℕ) (l : List ℕ) where
  abbrev front : List Triple
  front = take_until (has_subject c) (triples l)

  abbrev lines : List Triple
  lines = lines_of c (triples l)

  abbrev rest : List Triple
  rest = drop_until (other_subject c) (drop_until (has_subject c) (triples l))

  -- what stands in front of the lines, the lines, and what stands behind them
  three_parts : (w : List ℕ) × (flat front ++ (flat lines ++ (flat rest ++ w)) ≡ l)
  unfolding lines_of
  three_parts =
      let w = flat-rest l in
      let back : flat lines ++ flat rest ≡ flat (drop_until (has_subject c) (triples l)) =
      sym (flat_append lines rest) ∙ ap flat (cut_whole (other_subject c) (drop_until (has_subject c) (triples l))) in
      let all : flat front ++ (flat lines ++ flat rest) ≡ flat (triples l) =
      ap (λ (m : List ℕ). flat front ++ m) back ∙ sym (flat_append front (drop_until (has_subject c) (triples l))) ∙ ap flat (cut_whole (has_subject c) (triples l)) in (
        w.0,
        ap (λ (m : List ℕ). flat front ++ m) (sym (append_assoc (flat lines) (flat rest) w.0)) ∙ sym (append_assoc (flat front) (flat lines ++ flat rest) w.0)
            ∙ ap (λ (m : List ℕ). m ++ w.0) all ∙ w.1,
      )

  pub start-le : start_of c l ≤ end_of c l
  unfolding end_of
  start-le = omega arith

  pub end-within : end_of c l ≤ 3 * slots l
  unfolding lines_of start_of end_of slots
  end-within =
      let n = ap (λ (m : List Triple). length m) (cut_whole (has_subject c) (triples l)) in
      let k = ap (λ (m : List Triple). length m) (cut_whole (other_subject c) (drop_until (has_subject c) (triples l))) in
      let a = length-append front (drop_until (has_subject c) (triples l)) in
      let b = length-append lines rest in
      omega (arith, n, k, a, b, whole-triples l)

  pub end-le : end_of c l ≤ length l
  unfolding slots
  end-le = omega (arith, end-within)

  pub part-numbers : take (end_of c l - start_of c l) (drop (start_of c l) l) ≡ flat lines
  unfolding start_of end_of
  part-numbers =
      let p = three_parts in
      let n : 3 * length front + 3 * length lines - 3 * length front ≡ 3 * length lines = omega arith in
      ap (λ (m : List ℕ). take (3 * length front + 3 * length lines - 3 * length front) (drop (3 * length front) m)) (sym p.1)
      ∙ ap (take (3 * length front + 3 * length lines - 3 * length front)) (drop_at (flat front) _ (3 * length front) (length-flat front))
      ∙ take_at (flat lines) _ (3 * length front + 3 * length lines - 3 * length front) (length-flat lines ∙ sym n)

-- ── which list ──
module _ (c : ℕ) (summary table map : List ℕ) (r : Part) where
  by-own : (b : Bool) → is_own c map ≡ b → subject_part c summary table map ≡ part_in b c (cond b summary table)
  unfolding subject_part
  by-own b e = ap (λ (x : Bool). part_in x c (cond x summary table)) e

  module _ (h : r ≡ subject_part c summary table map) where
    pub own_is : r.own ≡ is_own c map
    unfolding subject_part
    own_is = ap (λ (p : Part). p.own) h

    pub in_list : (b : Bool) → r.own ≡ b → r ≡ part_in b c (cond b summary table)
    in_list b e = h ∙ by-own b (sym own_is ∙ e)

    -- it lies within that list
    pub range : (b : Bool) → r.own ≡ b → (r.start ≤ r.end) × (r.end ≤ length (cond b summary table))
    range b e =
        let l = cond b summary table in
        let s = ap (λ (p : Part). p.start) (in_list b e) in
        let t = ap (λ (p : Part). p.end) (in_list b e) in
        (omega (arith, start-le c l), omega (arith, end-le c l))

-- ── the part that is handed back ──
pub part_of : (c : ℕ) (own : Bool) (p : Part) (x r : Bor (List ℕ)) → p ≡ part_in own c x.now → Between x p.start p.end r → PartOf c x r
part_of c own p x r h w =
    let s = ap (λ (z : Part). z.start) h in
    let t = ap (λ (z : Part). z.end) h in
    record {
      place = w.place ∙ (λ i. (x.ref_ptr.0, 4 * s i + x.ref_ptr.1));
      numbers = w.numbers ∙ (λ i. take (t i - s i) (drop (s i) x.now)) ∙ part-numbers c x.now;
    }

-- of the summary, or of the table
module _ (c : ℕ) (summary table : Bor (List ℕ)) (map : List ℕ) (p : Part) (h : p ≡ subject_part c summary.now table.now map) (r : Bor (List ℕ)) where
  pub from-summary : p.own ≡ true → Between summary p.start p.end r → HandsBack c summary table map r
  from-summary e w =
      subst (λ (b : Bool). PartOf c (cond b summary table) r) (sym e ∙ own_is c summary.now table.now map p h)
      (part_of c true p summary r (in_list c summary.now table.now map p h true e) w)

  pub from-table : p.own ≡ false → Between table p.start p.end r → HandsBack c summary table map r
  from-table e w =
      subst (λ (b : Bool). PartOf c (cond b summary table) r) (sym e ∙ own_is c summary.now table.now map p h)
      (part_of c false p table r (in_list c summary.now table.now map p h false e) w)
