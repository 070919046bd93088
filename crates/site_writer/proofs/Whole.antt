-- The call `write`, answer by answer.
-- Assumes nothing.
use Prim.Native.Nat.{ℕ, ◌*◌, ◌/◌, ◌<◌, ◌≤◌}
use mathlib.Core.Path.{◌≡◌, refl, sym, ◌∙◌, ap, subst}
use mathlib.Core.Bool.{Bool, true, false, cond}
use mathlib.Core.List.Memᴰ.{head as here}
use mathlib.Core.List.Memᴰ.{tail as there}
use mathlib.Core.List.{List, [], ◌∷◌, ◌++◌, append-nil}
use mathlib.Core.Option.{none, some}
use native.Mathlib.Omega.{arith}
use lib.Dec.{ltb}
use lib.ListN.{length, length-append}
use borrow.Author.Tests.{lt-ltb, le-ltb, ltb-false}
use Rattle.std.specs.declared.result.Result.TheVariants.{Ok, Err}
use Rattle.model.specs.declared.Refusal.TheVariants.{Length, Words, Code, Slots}
use Rattle.model.specs.declared.Triple.{Triple}
use Rattle.model.specs.declared.Vocabulary.{Vocabulary}
use Rattle.model.specs.Codes.{rdfs, wrong_words, smallest_size}
use Rattle.model.specs.Lists.{any, collect, zeros, padded}
use Rattle.model.specs.Triples.{triples}
use Rattle.model.specs.Roster.{wrong_codes}
use Rattle.model.specs.Outcomes.{Outcome, refused, accepted, refusal_number, decided, left, zeroed, wrong_size, wrong_length, outcome_by}
use Rattle.theory.proofs.Tests.{or_left, or_right, or_neither, neither_right}
use Rattle.theory.proofs.Lists.{length-tabulate}
use Rattle.theory.specs.Tables.{AllBelow}
use Rattle.theory.proofs.Covered.{all_codes}
use Rattle.theory.proofs.Accepted.{words-below}
use Rattle.lists.specs.Flat.{at, Cleared}
use Rattle.lists.proofs.Places.{triples-table}
use Rattle.lists.proofs.Search.{cleared-all}
use Rattle.site_form.specs.Text.{bytes, numeral, site_line, words_line, words_text, triple_line, site_text, most_lines}
use Rattle.site_form.specs.Writing.{same_words, line_of, written, wrong_write, write_outcome, write_list}
use Rattle.site_form.proofs.Filled.{filled}
use Rattle.site_bytes.specs.Calls.{Room, Put}
use Rattle.site_writer.specs.Calls.{WriteCall}
use Rattle.site_bytes.proofs.Stores.{put-length, put_then, room-first, room_next}
use Rattle.site_bytes.proofs.Numerals.{five-digits}

-- ── how long the text is ──
site-short : (n : ℕ) → n < 100000 → length (site_line n) ≤ 13
unfolding site_line
site-short n h = omega (arith, length-append (bytes "(site ") (numeral n ++ bytes ")\n"), length-append (numeral n) (bytes ")\n"), five-digits n h)

line-short : (t : Triple) → t.subject < 100000 → t.property < 100000 → t.object < 100000 → length (triple_line t) ≤ 22
unfolding triple_line
line-short t a b c =
    let o = length-append (numeral t.object) (bytes ")\n") in
    let p = length-append (numeral t.property) (bytes " " ++ (numeral t.object ++ bytes ")\n")) in
    let s = length-append (numeral t.subject) (bytes " " ++ (numeral t.property ++ (bytes " " ++ (numeral t.object ++ bytes ")\n")))) in
    omega (arith, five-digits _ a, five-digits _ b, five-digits _ c)

words-line-short : (n : ℕ) → n ≤ 65536 → (v : Vocabulary) → wrong_words v n ≡ false → length (words_line v) ≤ 38
unfolding words_line
words-line-short n s v h =
    let b = words-below v n h in
    let x1 = five-digits v.instance (let z = b _ (here refl) in omega arith) in
    let x2 = five-digits v.subclass (let z = b _ (there (here refl)) in omega arith) in
    let x3 = five-digits v.subproperty (let z = b _ (there (there (here refl))) in omega arith) in
    let x4 = five-digits v.domain (let z = b _ (there (there (there (here refl)))) in omega arith) in
    let x5 = five-digits v.range (let z = b _ (there (there (there (there (here refl))))) in omega arith) in
    let y5 = length-append (numeral v.range) (bytes ")\n") in
    let y4 = length-append (numeral v.domain) (bytes " " ++ (numeral v.range ++ bytes ")\n")) in
    let y3 = length-append (numeral v.subproperty) (bytes " " ++ (numeral v.domain ++ (bytes " " ++ (numeral v.range ++ bytes ")\n")))) in
    let y2 = length-append (numeral v.subclass) (bytes " " ++ (numeral v.subproperty ++ (bytes " " ++ (numeral v.domain ++ (bytes " " ++ (numeral v.range ++ bytes ")\n")))))) in
    let y1 = length-append (numeral v.instance)
    (bytes " " ++ (numeral v.subclass ++ (bytes " " ++
    (numeral v.subproperty ++ (bytes " " ++ (numeral v.domain ++ (bytes " " ++ (numeral v.range ++ bytes ")\n")))))))) in
    omega arith

words-short : (n : ℕ) → n ≤ 65536 → (v : Vocabulary) → wrong_words v n ≡ false → length (words_text (line_of v)) ≤ 38
unfolding line_of words_text
words-short n s v h = go (same_words v rdfs)
  where
    go : (b : Bool) → length (words_text (cond b none (some v))) ≤ 38
    go true = omega arith
    go false = words-line-short n s v h

lines-short : (n : ℕ) → n ≤ 100000 → (ts : List Triple) → AllBelow n ts → length (collect triple_line ts) ≤ 22 * length ts
unfolding collect
lines-short n h [] below = omega arith
lines-short n h (t ∷ ts) below =
    let b = below t (here refl) in
    let l = line-short t (omega (arith, b.subject)) (omega (arith, b.property)) (omega (arith, b.object)) in
    omega (arith, length-append (triple_line t) (collect triple_line ts), lines-short n h ts (λ x m. below x (there m)))

triples-count : (table : List ℕ) → length (triples table) ≡ length table / 3
triples-count table = ap length (triples-table table) ∙ length-tabulate (at table) 0 (length table / 3)

written_is : (v : Vocabulary) (n : ℕ) (table : List ℕ) → written v n table ≡ site_line n ++ (words_text (line_of v) ++ collect triple_line (triples table))
unfolding written site_text collect
written_is v n table = ap (λ (x : List ℕ). site_line n ++ (words_text (line_of v) ++ x)) (append-nil (collect triple_line (triples table)))

-- ── its parts ──
module _ (v : Vocabulary) (n : ℕ) (table out : List ℕ) (h : Room 0 (written v n table)) where
  all_room : Room 0 (site_line n ++ (words_text (line_of v) ++ collect triple_line (triples table)))
  all_room = subst (Room 0) (written_is v n table) h

  pub room-first-line : Room 0 (site_line n)
  room-first-line = room-first 0 (site_line n) _ all_room

  module _ (o : List ℕ) (j : ℕ) (ps : Put out 0 (site_line n) o j) where
    behind-site : Room j (words_text (line_of v) ++ collect triple_line (triples table))
    behind-site = room_next out 0 (site_line n) _ o j all_room ps

    pub room-second-line : Room j (words_text (line_of v))
    room-second-line = room-first j _ _ behind-site

    module _ (m : List ℕ) (i : ℕ) (pw : Put o j (words_text (line_of v)) m i) where
      pub room-third : Room i (collect triple_line (triples table))
      room-third = room_next o j _ _ m i behind-site pw

      pub text-put : (l : List ℕ) (count : ℕ) → Put m i (collect triple_line (triples table)) l count → Put out 0 (written v n table) l count
      text-put l count pt = subst (λ (x : List ℕ). Put out 0 x l count) (sym (written_is v n table))
          (put_then out 0 (site_line n) o j (words_text (line_of v) ++ collect triple_line (triples table)) l count ps
          (put_then o j (words_text (line_of v)) m i (collect triple_line (triples table)) l count pw pt))

-- ── the answers ──
module _ (v : Vocabulary) (n : ℕ) (table out : List ℕ) where
  abbrev wide : Bool
  wide = ltb (length out) (length (written v n table))

  outcome-is : {a w b c : Bool} → wrong_write n table ≡ a → wrong_words v n ≡ w → wrong_codes v n (triples table) ≡ b → wide ≡ c
      → write_outcome v n table out ≡ cond a (refused 1) (cond w (refused 10) (cond b (refused 3) (cond c (refused 5) (accepted (length (written v n table))))))
  unfolding write_outcome decided
  outcome-is p k q r = λ i. cond (p i) (refused 1) (cond (k i) (refused 10) (cond (q i) (refused 3) (cond (r i) (refused 5) (accepted (length (written v n table))))))

  list-is : {o : Outcome ℕ} → write_outcome v n table out ≡ o → write_list v n table out ≡ left o out (padded (length out) (written v n table))
  unfolding write_list
  list-is e = ap (λ (o : Outcome ℕ). left o out (padded (length out) (written v n table))) e

  by_length : wrong_write n table ≡ true → WriteCall v n table out (Err Length) out
  unfolding outcome_by refusal_number left zeroed any
  by_length p = let e = outcome-is p refl refl refl in record { outcome = sym e; list = sym (list-is e) }

  pub write_size : wrong_size n ≡ true → WriteCall v n table out (Err Length) out
  unfolding wrong_write
  write_size p = by_length (or_left (wrong_size n) _ p)

  pub write_table : wrong_length (length table) ≡ true → WriteCall v n table out (Err Length) out
  unfolding wrong_write
  write_table p = by_length (or_right (wrong_size n) _ (or_left (wrong_length (length table)) _ p))

  pub write_many : most_lines < length table / 3 → WriteCall v n table out (Err Length) out
  unfolding wrong_write
  write_many h =
      let k = triples-count table in
      by_length (or_right (wrong_size n) _ (or_right (wrong_length (length table)) _ (lt-ltb most_lines (length (triples table)) (omega arith))))

  module _ (p : wrong_size n ≡ false) (q : wrong_length (length table) ≡ false) (few : length table / 3 ≤ most_lines) where
    passed : wrong_write n table ≡ false
    unfolding wrong_write
    passed =
        let k = triples-count table in
        or_neither (wrong_size n) _ p (or_neither (wrong_length (length table)) _ q (le-ltb most_lines (length (triples table)) (omega arith)))

    small : n ≤ 65536
    unfolding wrong_size
    small = ltb-false _ _ (neither_right (ltb n smallest_size) _ p)

    pub write_words : wrong_words v n ≡ true → WriteCall v n table out (Err Words) out
    unfolding outcome_by refusal_number left zeroed any
    write_words k = let e = outcome-is passed k refl refl in record { outcome = sym e; list = sym (list-is e) }

    pub write_codes : wrong_words v n ≡ false → wrong_codes v n (triples table) ≡ true → WriteCall v n table out (Err Code) out
    unfolding outcome_by refusal_number left zeroed any
    write_codes k c = let e = outcome-is passed k c refl in record { outcome = sym e; list = sym (list-is e) }

    module _ (words : wrong_words v n ≡ false) (right : wrong_codes v n (triples table) ≡ false) where
      pub room-written : Room 0 (written v n table)
      room-written =
          let s = small in
          let k = triples-count table in
          let below : AllBelow n (triples table) = λ t x. (all_codes v n (triples table) right t x).below in
          let a = length-append (site_line n) (words_text (line_of v) ++ collect triple_line (triples table)) in
          let b = length-append (words_text (line_of v)) (collect triple_line (triples table)) in
          omega (arith, ap length (written_is v n table), site-short n (omega arith), words-short n (omega arith) v words, lines-short n (omega arith) (triples table) below)

      module _ (l : List ℕ) (count : ℕ) (put : Put out 0 (written v n table) l count) where
        size : length l ≡ length out
        size = put-length out 0 (written v n table) l count put

        pub write_full : length l < count → (z : List ℕ) → Cleared l z 0 (length l) → WriteCall v n table out (Err Slots) z
        unfolding outcome_by refusal_number left zeroed any
        write_full h z c =
            let k = put.next in
            let s = size in
            let e = outcome-is passed words right (lt-ltb (length out) (length (written v n table)) (omega arith)) in
            record { outcome = sym e; list = cleared-all l z (length l) c (omega arith) ∙ ap zeros size ∙ sym (list-is e) }

        pub write_all : count ≤ length l → (z : List ℕ) → Cleared l z count (length l) → WriteCall v n table out (Ok count) z
        unfolding outcome_by left
        write_all h z c =
            let k : count ≡ length (written v n table) = omega (arith, put.next) in
            let s = size in
            let e = outcome-is passed words right (le-ltb (length out) (length (written v n table)) (omega arith)) in
            record {
              outcome = ap accepted k ∙ sym e;
              list =
                  filled out l z (written v n table) count k (omega arith) put.list (subst (Cleared l z count) size c)
                  ∙ sym (list-is e);
            }
