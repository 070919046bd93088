-- What is printed, part by part, in the order of the checks.
-- Assumes nothing.
use Rattle.std.specs.Prelude.{ℕ, ◌*◌, ◌%◌, ◌≤◌, ◌≡◌, Bool, false, ◌||◌, List, [], ◌∷◌, ltb, length, get_or}
use Rattle.model.specs.declared.Triple.{Triple}
use Rattle.model.specs.declared.Vocabulary.{Vocabulary}
use Rattle.model.specs.Codes.{wrong_words}
use Rattle.model.specs.Lists.{any, tabulate}
use Rattle.model.specs.Triples.{flat, triples}
use Rattle.model.specs.Roster.{own_roster, wrong_codes}
use Rattle.model.specs.Saturation.{saturation}
use Rattle.model.specs.Classes.{map_of}
use Rattle.model.specs.Summary.{summary}
use Rattle.model.specs.Outcomes.{Outcome, check, checked, decided, wrong_size}
use Rattle.query.specs.declared.Query.{Query}
use Rattle.query.specs.Ask.{ask_outcome}
use Rattle.site_form.specs.Text.{most_lines}
use Rattle.site_form.specs.Printing.{largest_printed, printer_slots, is_wrong, report}
use Rattle.theory.specs.Tables.{Right}

-- for a place past the queries
abbrev pub no_query : Query
no_query = record { patterns = []; count = 0 }

-- check 6, then the report
unfoldable pub asks_outcome : List Triple → List ℕ → List (Outcome Bool) → Outcome (List ℕ)
asks_outcome ts map answers = checked (check 6 (any is_wrong answers) ∷ []) (report ts map answers)

module _ (v : Vocabulary) where
  -- what ask says of each of the first queries
  unfoldable pub asked_of : (table map : List ℕ) → List Query → ℕ → List (Outcome Bool)
  asked_of table map queries n = tabulate (λ i. ask_outcome v table map (get_or queries i no_query)) 0 n

  unfoldable pub summary_outcome : List ℕ → List Triple → List Query → ℕ → Outcome (List ℕ)
  summary_outcome roster ts queries n =
      let sum = summary v roster ts in
      let map = map_of v roster ts in
      asks_outcome sum map (asked_of (flat sum) map queries n)

  -- check 5 before it
  unfoldable pub saturation_outcome : ℕ → List Triple → List Query → ℕ → Outcome (List ℕ)
  saturation_outcome size ts queries n =
      let sat = saturation v size ts in
      decided (check 5 (ltb printer_slots (length sat)) ∷ []) (summary_outcome (own_roster v size ts) sat queries n)

  -- the checks 1, 10 and 3 before it
  unfoldable pub site_outcome : ℕ → List Triple → List Query → ℕ → Outcome (List ℕ)
  site_outcome size ts queries n =
      decided
      (check 1 (wrong_size size || ltb largest_printed size)
      ∷ check 10 (wrong_words v size)
      ∷ check 3 (wrong_codes v size ts)
      ∷ [])
      (saturation_outcome size ts queries n)

  -- ── what the parts require ──
  -- a saturated table with its roster: the checks 1, 10 and 2 to 5 pass
  pub record Whole (table roster : List ℕ) : Type 0 where
    pub right : Right v roster (triples table)
    pub flat : length table % 3 ≡ 0
    pub slots : length table ≤ 3 * printer_slots
    pub size : length roster ≤ largest_printed

  -- a table as read: the checks 1, 10 and 3 pass
  pub record CheckedTable (table : List ℕ) (n : ℕ) : Type 0 where
    pub size : wrong_size n ≡ false
    pub printed : n ≤ largest_printed
    pub words : wrong_words v n ≡ false
    pub codes : wrong_codes v n (triples table) ≡ false
    pub flat : length table % 3 ≡ 0
    pub few : length table ≤ 3 * most_lines
