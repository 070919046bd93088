-- All lines of one subject: a part of the summary, or of the table.
-- Assumes nothing.
use Rattle.std.specs.Prelude.{ℕ, ◌+◌, ◌-◌, ◌*◌, ◌≡◌, Bool, cond, not, ◌&&◌, List, eqb, ltb, length, get_or, take, drop}
use Rattle.std.specs.Borrow.{Bor}
use Rattle.model.specs.declared.Triple.{Triple}
use Rattle.model.specs.Lists.{take_until, drop_until}
use Rattle.model.specs.Triples.{triples, flat}
use Rattle.subject_lines.specs.declared.Part.{Part}

-- 02: "triple with that subject", "with another"
unfoldable pub has_subject : ℕ → Triple → Bool
has_subject c t = eqb t.subject c

unfoldable pub other_subject : ℕ → Triple → Bool
other_subject c t = not (has_subject c t)

-- 02: "The part runs from the first triple with that subject up to the first after it with another, or else to the end of the last whole
-- triple."
unfoldable pub lines_of : ℕ → List Triple → List Triple
lines_of c ts = take_until (other_subject c) (drop_until (has_subject c) ts)

-- Where the part stands in a list of numbers: the index of its first number, and the index behind its last.
-- 02: "With no such triple it is the empty part after the list's last whole triple."; "numbers left over after the last whole triple are never
-- shown", for `triples` are the whole triples.
unfoldable pub start_of : ℕ → List ℕ → ℕ
start_of c l = 3 * length (take_until (has_subject c) (triples l))

unfoldable pub end_of : ℕ → List ℕ → ℕ
end_of c l = start_of c l + 3 * length (lines_of c (triples l))

-- 02: "if the map gives the code itself"; "A code beyond the map counts as not its own representative"
unfoldable pub is_own : ℕ → List ℕ → Bool
is_own c map = ltb c (length map) && eqb (get_or map c 0) c

-- 02: "a part of the summary if the map gives the code itself, otherwise a part of the table"
abbrev pub shown : {A : Type 0} → ℕ → List ℕ → A → A → A
shown c map summary table = cond (is_own c map) summary table

abbrev pub part_in : Bool → ℕ → List ℕ → Part
part_in own c l = record { own = own; start = start_of c l; end = end_of c l }

-- which list, and where
unfoldable pub subject_part : ℕ → List ℕ → List ℕ → List ℕ → Part
subject_part c summary table map = part_in (is_own c map) c (shown c map summary table)

-- r is the part of the lent list x from index a up to before index b: where it lies in memory (a number has four bytes), and its numbers
pub record Between (x : Bor (List ℕ)) (a b : ℕ) (r : Bor (List ℕ)) : Type 0 where
  pub place : r.ref_ptr ≡ (x.ref_ptr.0, 4 * a + x.ref_ptr.1)
  pub numbers : r.now ≡ take (b - a) (drop a x.now)

-- r is the part of the lent list x with the lines of c
pub record PartOf (c : ℕ) (x r : Bor (List ℕ)) : Type 0 where
  pub place : r.ref_ptr ≡ (x.ref_ptr.0, 4 * start_of c x.now + x.ref_ptr.1)
  pub numbers : r.now ≡ flat (lines_of c (triples x.now))

-- 02: "For a code, a summary list, a table and a map, hand back a part of the summary if the map gives the code itself, otherwise a part of the
-- table."
abbrev pub HandsBack : ℕ → Bor (List ℕ) → Bor (List ℕ) → List ℕ → Bor (List ℕ) → Type 0
HandsBack c summary table map r = PartOf c (shown c map summary table) r
