-- What the call `write` returns and leaves.
-- 01: "Writing puts out the site line and the table's triples in their order, no queries, and returns the byte count; the rest is zero."
-- Assumes nothing.
use Rattle.std.specs.Prelude.{ℕ, ◌≤◌, ◌≡◌, Bool, cond, ◌&&◌, ◌||◌, List, [], ◌∷◌, eqb, ltb, length, take}
use Rattle.std.proofs.Math.Option.{Option, none, some}
use Rattle.model.specs.declared.Vocabulary.{Vocabulary}
use Rattle.model.specs.Codes.{rdfs, wrong_words}
use Rattle.model.specs.Lists.{padded}
use Rattle.model.specs.Triples.{triples}
use Rattle.model.specs.Roster.{wrong_codes}
use Rattle.model.specs.Outcomes.{Outcome, accepted, check, checked, left, wrong_size, wrong_length}
use Rattle.site_form.specs.Text.{site_text, most_lines}
use Rattle.site_form.specs.Reading.{forms, loaded, site_of, read_outcome, read_list}

unfoldable pub same_words : Vocabulary → Vocabulary → Bool
same_words v w =
    eqb v.instance w.instance
    && (eqb v.subclass w.subclass && (eqb v.subproperty w.subproperty && (eqb v.domain w.domain && eqb v.range w.range)))

-- 02: the line is put out exactly if the codes are not 0 to 4 in that sequence
unfoldable pub line_of : Vocabulary → Option Vocabulary
line_of v = cond (same_words v rdfs) none (some v)

-- the text of a table
unfoldable pub written : Vocabulary → ℕ → List ℕ → List ℕ
written v n table = site_text n (line_of v) (triples table) []

-- 01, refusal 1: "a list length wrong: N; a table .. not a multiple of 3 or too long; .. over 1,000 triples to write"
unfoldable pub wrong_write : ℕ → List ℕ → Bool
wrong_write n table = wrong_size n || (wrong_length (length table) || ltb most_lines (length (triples table)))

module _ (v : Vocabulary) (n : ℕ) (table out : List ℕ) where
  -- 01: "writing 1, 3, 5, its N a number handed in"; 02: 10 straight after 1
  unfoldable pub write_outcome : Outcome ℕ
  write_outcome =
      checked
      (check 1 (wrong_write n table)
      ∷ check 10 (wrong_words v n)
      ∷ check 3 (wrong_codes v n (triples table))
      ∷ check 5 (ltb (length out) (length (written v n table)))
      ∷ [])
      (length (written v n table))

  unfoldable pub write_list : List ℕ
  write_list = left write_outcome out (padded (length out) (written v n table))

  -- 01: "Reading that back yields the same list." 02: and the same codes
  -- What was written into `out`, k bytes, is read into `list`, which is long enough.
  pub record ReadBack (k : ℕ) (list : List ℕ) : Type 0 where
    pub site : read_outcome (take k write_list) list ≡ accepted (site_of (forms n (line_of v) (triples table) []))
    pub words : loaded (line_of v) ≡ v
    pub same : read_list (take k write_list) list ≡ padded (length list) table

abbrev pub WrittenIsRead : Type 0
WrittenIsRead = (v : Vocabulary) (n : ℕ) (table out : List ℕ) (k : ℕ) (list : List ℕ) → write_outcome v n table out ≡ accepted k → length table ≤ length list → ReadBack v n table out k list
