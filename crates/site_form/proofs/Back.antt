-- What was written is read back.
-- Assumes nothing.
use Prim.Native.Nat.{ℕ, ◌≤◌, ◌*◌, ◌/◌, ◌%◌}
use mathlib.Core.Path.{◌≡◌, refl, sym, ◌∙◌, ap, subst}
use mathlib.Core.Bool.{Bool, true, false, cond, not}
use mathlib.Core.List.Memᴰ
use mathlib.Core.List.{List, []}
use mathlib.Core.Option.{none, some}
use lib.Dec.{eqb, ltb}
use lib.ListN.{length, take}
use lib.Seq.{take-append_seam}
use borrow.Author.Tests.{ltb-false, le-ltb, eqb-true, not-false}
use native.Mathlib.Omega.{arith}
use Rattle.model.specs.declared.Vocabulary.{Vocabulary}
use Rattle.model.specs.Codes.{rdfs, wrong_words, smallest_size, largest_size}
use Rattle.model.specs.Lists.{padded}
use Rattle.model.specs.Triples.{triples, slots, listed}
use Rattle.model.specs.Roster.{wrong_codes}
use Rattle.model.specs.Outcomes.{accepted, decided, left, wrong_size, wrong_length}
use Rattle.site_form.specs.Text.{most_lines, WordsU32, SiteForm}
use Rattle.site_form.specs.Reading.{forms, loaded, read_forms, read_outcome, read_list}
use Rattle.site_form.specs.Writing.{same_words, line_of, written, wrong_write, write_outcome, write_list, ReadBack, WrittenIsRead}
use Rattle.site_form.proofs.Whole.{read-takes}
use Rattle.theory.proofs.Tests.{neither_left, neither_right, and_true}
use Rattle.theory.proofs.Checks.{passed, passed-all}
use Rattle.theory.proofs.Flat.{flat-triples, length-flat}
use Rattle.theory.proofs.Covered.{all_codes}
use Rattle.theory.proofs.Accepted.{words-below}

-- ── the line of the reserved codes ──
same-words : (v w : Vocabulary) → same_words v w ≡ true → w ≡ v
unfolding same_words
same-words v w h =
    let a = and_true (eqb v.instance w.instance) _ h in
    let b = and_true (eqb v.subclass w.subclass) _ a.1 in
    let c = and_true (eqb v.subproperty w.subproperty) _ b.1 in
    let d = and_true (eqb v.domain w.domain) _ c.1 in
    let x1 : w.instance ≡ v.instance = sym (eqb-true v.instance w.instance a.0) in
    let x2 : w.subclass ≡ v.subclass = sym (eqb-true v.subclass w.subclass b.0) in
    let x3 : w.subproperty ≡ v.subproperty = sym (eqb-true v.subproperty w.subproperty c.0) in
    let x4 : w.domain ≡ v.domain = sym (eqb-true v.domain w.domain d.0) in
    let x5 : w.range ≡ v.range = sym (eqb-true v.range w.range d.1) in
    λ i. record { instance = x1 i; subclass = x2 i; subproperty = x3 i; domain = x4 i; range = x5 i }

-- a line that was left out stands for 0 to 4
pub loaded-line : (v : Vocabulary) → loaded (line_of v) ≡ v
unfolding line_of
loaded-line v = go (same_words v rdfs) refl
  where
    go : (b : Bool) → same_words v rdfs ≡ b → loaded (cond b none (some v)) ≡ v
    go true e = same-words v rdfs e
    go false e = refl

line-some : (v u : Vocabulary) → line_of v ≡ some u → v ≡ u
unfolding line_of
line-some v u h = go (same_words v rdfs) h
  where
    go : (b : Bool) → cond b none (some v) ≡ some u → v ≡ u
    go true e = let z : ◌≡◌ {A = ℕ} 0 1 = cc in absurd (omega arith)
    go false e = cc

-- what an accepted write has passed
record Passed (v : Vocabulary) (n : ℕ) (table out : List ℕ) (k : ℕ) : Type 0 where
  size : n ≤ largest_size
  thirds : length table % 3 ≡ 0
  few : length (triples table) ≤ most_lines
  words : wrong_words v n ≡ false
  codes : wrong_codes v n (triples table) ≡ false
  count : length (written v n table) ≡ k

module _ (v : Vocabulary) (n : ℕ) (table out : List ℕ) (k : ℕ) (e : write_outcome v n table out ≡ accepted k) where
  write_passed : Passed v n table out k
  unfolding write_outcome wrong_write wrong_size wrong_length
  write_passed =
      let a = passed _ _ _ k e in
      let b = passed _ _ _ k a.1 in
      let w = passed _ _ _ k b.1 in
      let c = passed _ _ _ k w.1 in
      let r = neither_right (wrong_size n) _ a.0 in
      let l = neither_left (wrong_length (length table)) _ r in
      record {
        size = ltb-false _ _ (neither_right (ltb n smallest_size) _ (neither_left (wrong_size n) _ a.0));
        thirds = eqb-true _ _ (not-false _ (neither_left (not (eqb (length table % 3) 0)) _ l));
        few = ltb-false _ _ (neither_right (wrong_length (length table)) _ r);
        words = b.0;
        codes = w.0;
        count = passed-all _ k c.1;
      }

  -- the bytes that were written are the text of the table
  written-bytes : take k (write_list v n table out) ≡ written v n table
  unfolding write_list padded left
  written-bytes = rw (e, ← write_passed.count) (take-append_seam (written v n table) _)

  written_form : SiteForm (written v n table) n (line_of v) (triples table) []
  unfolding written
  written_form =
      let h = write_passed in
      let s = h.size in
      record {
        says = refl;
        size = omega arith;
        words = λ u q.
            subst WordsU32 (line-some v u q)
            (let b = words-below v n h.words in
            let i1 = b _ (Memᴰ.head refl) in
            let i2 = b _ (Memᴰ.tail (Memᴰ.head refl)) in
            let i3 = b _ (Memᴰ.tail (Memᴰ.tail (Memᴰ.head refl))) in
            let i4 = b _ (Memᴰ.tail (Memᴰ.tail (Memᴰ.tail (Memᴰ.head refl)))) in
            let i5 = b _ (Memᴰ.tail (Memᴰ.tail (Memᴰ.tail (Memᴰ.tail (Memᴰ.head refl))))) in
            record { instance = omega arith; subclass = omega arith; subproperty = omega arith; domain = omega arith; range = omega arith });
        few_triples = h.few;
        triples = λ t m. let b = (all_codes v n (triples table) h.codes t m).below in record { subject = omega arith; property = omega arith; object = omega arith };
        few_asks = omega arith;
        asks = λ q m. absurd (Memᴰ.not-nil m);
      }

  written_read : read_forms (take k (write_list v n table out)) ≡ some (forms n (line_of v) (triples table) [])
  written_read = ap read_forms written-bytes ∙ read-takes _ n (line_of v) (triples table) [] written_form

  module _ (list : List ℕ) (long : length table ≤ length list) where
    enough : ltb (slots list) (length (triples table)) ≡ false
    unfolding slots
    enough =
        let f = flat-triples table write_passed.thirds in
        let g : length table ≡ 3 * length (triples table) = sym (ap length f) ∙ length-flat (triples table) in
        le-ltb (length list / 3) (length (triples table)) (omega arith)

    read_back : ReadBack v n table out k list
    unfolding read_outcome read_list listed decided left
    read_back =
        record {
          site = rw (written_read, enough);
          words = loaded-line v;
          same = rw (written_read, enough, flat-triples table write_passed.thirds);
        }

pub written_is_read : WrittenIsRead
written_is_read v n table out k list e long = read_back v n table out k e list long
