-- The lines of a site, and a line for each triple of a table.
-- Assumes nothing.
use Prim.Native.Nat.{ℕ, suc, ◌+◌, ◌-◌, ◌/◌, ◌<◌, ◌≤◌}
use mathlib.Core.Path.{◌≡◌, refl, sym, ◌∙◌, ap, subst}
use mathlib.Core.Bool.{true, false}
use mathlib.Core.List.{List, [], ◌∷◌, ◌++◌}
use native.Mathlib.Numerals.{add-one}
use native.Mathlib.Omega.{arith}
use lib.ListN.{length, length-append}
use lib.Seq.{sets}
use Rattle.model.specs.declared.Triple.{Triple}
use Rattle.model.specs.declared.Vocabulary.{Vocabulary}
use Rattle.model.specs.Codes.{rdfs}
use Rattle.model.specs.Lists.{collect, tabulate}
use Rattle.model.specs.Triples.{triples}
use Rattle.lists.specs.Flat.{at}
use Rattle.lists.proofs.Places.{triples-table}
use Rattle.site_form.specs.Text.{bytes, numeral, site_line, words_line, words_text, triple_line}
use Rattle.site_form.specs.Writing.{same_words, line_of}
use Rattle.site_bytes.specs.Calls.{Room, Put}
use Rattle.site_bytes.proofs.Stores.{sets_append, put-length, put_then_two, room-first-two, room-next-two}

-- ── the site line ──
module _ (l : List ℕ) (from n : ℕ) where
  pub room-site : Room from (site_line n) → Room from (bytes "(site " ++ numeral n)
  unfolding site_line
  room-site h = room-first-two from (bytes "(site ") (numeral n) (bytes ")\n") h

  module _ (m : List ℕ) (i : ℕ) (p : Put l from (bytes "(site " ++ numeral n) m i) where
    pub room-site-end : Room from (site_line n) → Room i (bytes ")\n")
    unfolding site_line
    room-site-end h = room-next-two l from (bytes "(site ") (numeral n) (bytes ")\n") m i h p

    pub site-put : (out : List ℕ) (r : ℕ) → Put m i (bytes ")\n") out r → Put l from (site_line n) out r
    unfolding site_line
    site-put out r q = put_then_two l from (bytes "(site ") (numeral n) m i (bytes ")\n") out r p q

-- ── the line of the reserved codes ──
module _ (l : List ℕ) (from : ℕ) (v : Vocabulary) (h : Room from (words_line v)) where
  pub room-instance : Room from (bytes "(words " ++ numeral v.instance)
  unfolding words_line
  room-instance = room-first-two from (bytes "(words ") (numeral v.instance) _ h

  module _ (a : List ℕ) (i : ℕ) (p : Put l from (bytes "(words " ++ numeral v.instance) a i) where
    behind-instance : Room i (bytes " " ++ (numeral v.subclass ++ (bytes " " ++ (numeral v.subproperty ++ (bytes " " ++ (numeral v.domain ++ (bytes " " ++ (numeral v.range ++ bytes ")\n"))))))))
    unfolding words_line
    behind-instance = room-next-two l from (bytes "(words ") (numeral v.instance) _ a i h p

    pub room-subclass : Room i (bytes " " ++ numeral v.subclass)
    room-subclass = room-first-two i (bytes " ") (numeral v.subclass) _ behind-instance

    module _ (b : List ℕ) (j : ℕ) (q : Put a i (bytes " " ++ numeral v.subclass) b j) where
      behind-subclass : Room j (bytes " " ++ (numeral v.subproperty ++ (bytes " " ++ (numeral v.domain ++ (bytes " " ++ (numeral v.range ++ bytes ")\n"))))))
      behind-subclass = room-next-two a i (bytes " ") (numeral v.subclass) _ b j behind-instance q

      pub room-subproperty : Room j (bytes " " ++ numeral v.subproperty)
      room-subproperty = room-first-two j (bytes " ") (numeral v.subproperty) _ behind-subclass

      module _ (c : List ℕ) (k : ℕ) (s : Put b j (bytes " " ++ numeral v.subproperty) c k) where
        behind-subproperty : Room k (bytes " " ++ (numeral v.domain ++ (bytes " " ++ (numeral v.range ++ bytes ")\n"))))
        behind-subproperty = room-next-two b j (bytes " ") (numeral v.subproperty) _ c k behind-subclass s

        pub room-domain : Room k (bytes " " ++ numeral v.domain)
        room-domain = room-first-two k (bytes " ") (numeral v.domain) _ behind-subproperty

        module _ (d : List ℕ) (m : ℕ) (t : Put c k (bytes " " ++ numeral v.domain) d m) where
          behind-domain : Room m (bytes " " ++ (numeral v.range ++ bytes ")\n"))
          behind-domain = room-next-two c k (bytes " ") (numeral v.domain) _ d m behind-subproperty t

          pub room-range : Room m (bytes " " ++ numeral v.range)
          room-range = room-first-two m (bytes " ") (numeral v.range) _ behind-domain

          module _ (e : List ℕ) (n : ℕ) (u : Put d m (bytes " " ++ numeral v.range) e n) where
            pub room-words-end : Room n (bytes ")\n")
            room-words-end = room-next-two d m (bytes " ") (numeral v.range) _ e n behind-domain u

            pub words-put : (out : List ℕ) (r : ℕ) → Put e n (bytes ")\n") out r → Put l from (words_line v) out r
            unfolding words_line
            words-put out r z =
                put_then_two l from (bytes "(words ") _ a i _ out r p
                (put_then_two a i (bytes " ") _ b j _ out r q
                (put_then_two b j (bytes " ") _ c k _ out r s
                (put_then_two c k (bytes " ") _ d m _ out r t
                (put_then_two d m (bytes " ") _ e n _ out r u z))))

module _ (v : Vocabulary) where
  pub line-none : same_words v rdfs ≡ true → words_text (line_of v) ≡ []
  unfolding line_of words_text
  line-none e = rw e

  pub line-some : same_words v rdfs ≡ false → words_text (line_of v) ≡ words_line v
  unfolding line_of words_text
  line-some e = rw e

  module _ (l : List ℕ) (from : ℕ) where
    pub loaded-none : same_words v rdfs ≡ true → Put l from (words_text (line_of v)) l from
    loaded-none e = let z = line-none e in record { list = ap (sets l from) (sym z); next = omega (arith, ap {B = ℕ} (λ (x : List ℕ). length x) z) }

    pub loaded-room : same_words v rdfs ≡ false → Room from (words_text (line_of v)) → Room from (words_line v)
    loaded-room e = subst (Room from) (line-some e)

    pub loaded-some : same_words v rdfs ≡ false → (out : List ℕ) (r : ℕ) → Put l from (words_line v) out r → Put l from (words_text (line_of v)) out r
    loaded-some e out r p = subst (λ (x : List ℕ). Put l from x out r) (sym (line-some e)) p

-- ── a line of a triple ──
module _ (l : List ℕ) (from : ℕ) (t : Triple) (h : Room from (triple_line t)) where
  pub room-subject : Room from (bytes "(t " ++ numeral t.subject)
  unfolding triple_line
  room-subject = room-first-two from (bytes "(t ") (numeral t.subject) _ h

  module _ (a : List ℕ) (i : ℕ) (p : Put l from (bytes "(t " ++ numeral t.subject) a i) where
    behind-subject : Room i (bytes " " ++ (numeral t.property ++ (bytes " " ++ (numeral t.object ++ bytes ")\n"))))
    unfolding triple_line
    behind-subject = room-next-two l from (bytes "(t ") (numeral t.subject) _ a i h p

    pub room-property : Room i (bytes " " ++ numeral t.property)
    room-property = room-first-two i (bytes " ") (numeral t.property) _ behind-subject

    module _ (b : List ℕ) (j : ℕ) (q : Put a i (bytes " " ++ numeral t.property) b j) where
      behind-property : Room j (bytes " " ++ (numeral t.object ++ bytes ")\n"))
      behind-property = room-next-two a i (bytes " ") (numeral t.property) _ b j behind-subject q

      pub room-object : Room j (bytes " " ++ numeral t.object)
      room-object = room-first-two j (bytes " ") (numeral t.object) _ behind-property

      module _ (d : List ℕ) (k : ℕ) (s : Put b j (bytes " " ++ numeral t.object) d k) where
        pub room-triple-end : Room k (bytes ")\n")
        room-triple-end = room-next-two b j (bytes " ") (numeral t.object) _ d k behind-property s

        pub triple-put : (out : List ℕ) (r : ℕ) → Put d k (bytes ")\n") out r → Put l from (triple_line t) out r
        unfolding triple_line
        triple-put out r u =
            put_then_two l from (bytes "(t ") _ a i _ out r p
            (put_then_two a i (bytes " ") _ b j _ out r q
            (put_then_two b j (bytes " ") _ d k _ out r s u))

-- ── a line for each triple ──
-- the triples from place i on
rest : List ℕ → ℕ → List Triple
rest table i = tabulate (at table) i (length table / 3 - i)

rest_all : (table : List ℕ) → rest table 0 ≡ triples table
unfolding rest
rest_all table = let e : length table / 3 - 0 ≡ length table / 3 = omega arith in ap (tabulate (at table) 0) e ∙ sym (triples-table table)

rest-on : (table : List ℕ) (i : ℕ) → i < length table / 3 → rest table i ≡ at table i ∷ rest table (i + 1)
unfolding rest tabulate
rest-on table i h =
    let e : length table / 3 - i ≡ suc (length table / 3 - (i + 1)) = omega arith in
    ap (tabulate (at table) i) e ∙ ap (λ (k : ℕ). at table i ∷ tabulate (at table) k (length table / 3 - (i + 1))) (sym (add-one i))

rest-none : (table : List ℕ) (i : ℕ) → length table / 3 ≤ i → rest table i ≡ []
unfolding rest tabulate
rest-none table i h = let e : length table / 3 - i ≡ 0 = omega arith in ap (tabulate (at table) i) e

-- the lines of the triples from place i on
pub left-lines : List ℕ → ℕ → List ℕ
left-lines table i = collect triple_line (rest table i)

lines-on : (table : List ℕ) (i : ℕ) (t : Triple) → i < length table / 3 → t ≡ at table i → left-lines table i ≡ triple_line t ++ left-lines table (i + 1)
unfolding left-lines collect
lines-on table i t h e = ap (collect triple_line) (rest-on table i h) ∙ ap (λ (x : Triple). triple_line x ++ collect triple_line (rest table (i + 1))) (sym e)

lines_none : (table : List ℕ) (i : ℕ) → length table / 3 ≤ i → left-lines table i ≡ []
unfolding left-lines collect
lines_none table i h = ap (collect triple_line) (rest-none table i h)

-- what is left gives the rest
pub record Lining (l₀ : List ℕ) (from : ℕ) (table l : List ℕ) (i next : ℕ) : Type 0 where
  pub within : i ≤ length table / 3
  pub gives : sets l next (left-lines table i) ≡ sets l₀ from (collect triple_line (triples table))
  pub ends : next + length (left-lines table i) ≡ from + length (collect triple_line (triples table))
  pub size : length l ≡ length l₀

module _ (l₀ : List ℕ) (from : ℕ) (table : List ℕ) where
  pub lines_start : Lining l₀ from table l₀ 0 from
  unfolding left-lines
  lines_start =
      let e = ap (collect triple_line) (rest_all table) in
      record { within = omega arith; gives = ap (sets l₀ from) e; ends = ap (λ (x : List ℕ). from + length x) e; size = refl }

  module _ (l : List ℕ) (i next : ℕ) (h : Lining l₀ from table l i next) where
    module _ (k : i < length table / 3) (t : Triple) (e : t ≡ at table i) where
      pub room-line : Room from (collect triple_line (triples table)) → Room next (triple_line t)
      room-line r =
          let n : length (left-lines table i) ≡ length (triple_line t) + length (left-lines table (i + 1)) = ap length (lines-on table i t k e) ∙
          length-append (triple_line t) (left-lines table (i + 1)) in
          omega (arith, h.ends)

      pub lines_step : (m : List ℕ) (next' : ℕ) → Put l next (triple_line t) m next' → Lining l₀ from table m (i + 1) next'
      lines_step m next' p =
          let on = lines-on table i t k e in
          let n : length (left-lines table i) ≡ length (triple_line t) + length (left-lines table (i + 1)) = ap length on ∙ length-append (triple_line t) (left-lines table (i + 1)) in
          record {
            within = omega arith;
            gives =
                (λ j. sets (p.list j) (p.next j) (left-lines table (i + 1)))
                ∙ sym (sets_append l next (triple_line t) (left-lines table (i + 1)))
                ∙ ap (sets l next) (sym on)
                ∙ h.gives;
            ends = omega (arith, h.ends, p.next);
            size = put-length l next (triple_line t) m next' p ∙ h.size;
          }

    pub lines_end : length table / 3 ≤ i → Put l₀ from (collect triple_line (triples table)) l next
    lines_end k =
        let e = lines_none table i k in
        let n : length (left-lines table i) ≡ 0 = ap length e in
        record { list = ap (sets l next) (sym e) ∙ h.gives; next = omega (arith, h.ends) }
