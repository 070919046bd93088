-- The calls on tables: own roster, saturate, cliques, summarise (weak and strong), look up. For each its outcome and the contents of every lent list
-- after it, as functions of the contents before.
-- 01: "Own roster uses 1 and 3; cliques 1 to 4; saturation and summarise 1 to 5; .. look up 1"; 02: "It refuses with 10 a word table in which
-- two codes are equal or one is not below N, straight after 1, with nothing altered."
-- Assumes nothing.
use Rattle.std.specs.Prelude.{ℕ, Bool, false, not, ◌||◌, List, [], ◌∷◌, ◌++◌, eqb, ltb, length}
use Rattle.model.specs.declared.Triple.{Triple}
use Rattle.model.specs.declared.Vocabulary.{Vocabulary}
use Rattle.model.specs.Codes.{wrong_words}
use Rattle.model.specs.Lists.{zeros}
use Rattle.model.specs.Triples.{triples, slots, holds, place, listed}
use Rattle.model.specs.Roster.{covers, own_roster, wrong_roster, wrong_codes}
use Rattle.model.specs.Saturation.{saturation}
use Rattle.model.specs.declared.Side.{Side}
use Rattle.model.specs.declared.Side.TheVariants.{Source as source, Target as target}
use Rattle.model.specs.Cliques.{cliques}
use Rattle.model.specs.Classes.{map_of, strong_map_of}
use Rattle.model.specs.Summary.{condensed}
use Rattle.model.specs.Outcomes.{Outcome, Answer, answer, Check, check, checked, Passes, left, wrong_size, wrong_length, wrong_work}

module _ (v : Vocabulary) where
  -- the checks 1, 10, 2, 3, 4 of a table with a word table and a roster; `lengths` says that another lent list has a wrong length
  unfoldable pub table_checks : Bool → List ℕ → List ℕ → List Check
  table_checks lengths table roster =
      check 1 (wrong_size (length roster) || (wrong_length (length table) || lengths))
      ∷ check 10 (wrong_words v (length roster))
      ∷ check 2 (wrong_roster v roster)
      ∷ check 3 (wrong_codes v (length roster) (triples table))
      ∷ check 4 (not (covers v roster (triples table)))
      ∷ []

  -- 01: "A table is accepted with a roster if no check before 5 below refuses it"
  abbrev pub Accepted : List ℕ → List ℕ → Type 0
  Accepted table roster = Passes (table_checks false table roster)

  -- ── own roster: table, roster (lent) ──
  unfoldable pub own_roster_outcome : List ℕ → List ℕ → Outcome (Unit {0})
  own_roster_outcome table roster =
      checked
      (check 1 (wrong_size (length roster) || wrong_length (length table))
      ∷ check 10 (wrong_words v (length roster))
      ∷ check 3 (wrong_codes v (length roster) (triples table))
      ∷ [])
      tt

  unfoldable pub own_roster_leaves : List ℕ → List ℕ → List ℕ
  own_roster_leaves table roster = left (own_roster_outcome table roster) roster (own_roster v (length roster) (triples table))

  -- ── saturate: table, roster, result (lent) ──
  -- the saturation of the table; its length is the count returned
  unfoldable pub saturated : List ℕ → List ℕ → List Triple
  saturated table roster = saturation v (length roster) (triples table)

  unfoldable pub saturate_outcome : List ℕ → List ℕ → List ℕ → Outcome ℕ
  saturate_outcome table roster result =
      let sat = saturated table roster in
      checked (table_checks false table roster ++ check 5 (ltb (slots result) (length sat)) ∷ []) (length sat)

  unfoldable pub saturate_leaves : List ℕ → List ℕ → List ℕ → List ℕ
  saturate_leaves table roster result = left (saturate_outcome table roster result) result (listed (length result) (saturated table roster))

  -- ── cliques: table, roster, sources (lent), targets (lent) ──
  unfoldable pub cliques_outcome : List ℕ → List ℕ → List ℕ → List ℕ → Outcome (Unit {0})
  cliques_outcome table roster sources targets =
      checked (table_checks (not (eqb (length sources) (length roster)) || not (eqb (length targets) (length roster))) table roster) tt

  -- what it leaves in the list of a side
  unfoldable pub cliques_leave : Side → List ℕ → List ℕ → List ℕ → List ℕ → List ℕ
  cliques_leave source table roster sources targets =
      left (cliques_outcome table roster sources targets) sources (cliques v roster source (triples table))
  cliques_leave target table roster sources targets =
      left (cliques_outcome table roster sources targets) targets (cliques v roster target (triples table))

  -- ── summarise, by a map m of the table's nodes: table, roster, result (lent), map (lent), work (lent) ──
  unfoldable pub summarise_outcome_by : List ℕ → List ℕ → List ℕ → List ℕ → List ℕ → List ℕ → Outcome ℕ
  summarise_outcome_by m table roster result map work =
      let sum = condensed m (triples table) in
      checked
      (table_checks (not (eqb (length map) (length roster)) || wrong_work (length roster) (length work)) table roster
      ++ check 5 (ltb (slots result) (length sum)) ∷ [])
      (length sum)

  pub record Summarised : Type 0 where
    pub result : List ℕ
    pub map : List ℕ
    pub work : List ℕ

  unfoldable pub summarise_leaves_by : List ℕ → List ℕ → List ℕ → List ℕ → List ℕ → List ℕ → Summarised
  summarise_leaves_by m table roster result map work =
      let outcome = summarise_outcome_by m table roster result map work in
      record {
        result = left outcome result (listed (length result) (condensed m (triples table)));
        map = left outcome map m;
        work = left outcome work (zeros (length work));
      }

  -- the weak summary
  abbrev pub summarise_outcome : List ℕ → List ℕ → List ℕ → List ℕ → List ℕ → Outcome ℕ
  summarise_outcome table roster result map work = summarise_outcome_by (map_of v roster (triples table)) table roster result map work

  abbrev pub summarise_leaves : List ℕ → List ℕ → List ℕ → List ℕ → List ℕ → Summarised
  summarise_leaves table roster result map work = summarise_leaves_by (map_of v roster (triples table)) table roster result map work

  -- the strong summary; 02: "Representatives, lists and checks are those of the weak one."
  abbrev pub strong_summarise_outcome : List ℕ → List ℕ → List ℕ → List ℕ → List ℕ → Outcome ℕ
  strong_summarise_outcome table roster result map work = summarise_outcome_by (strong_map_of v roster (triples table)) table roster result map work

  abbrev pub strong_summarise_leaves : List ℕ → List ℕ → List ℕ → List ℕ → List ℕ → Summarised
  strong_summarise_leaves table roster result map work = summarise_leaves_by (strong_map_of v roster (triples table)) table roster result map work

-- ── look up: list, triple ──
-- 01: "whether a triple is in a list"; 02: "Look up now returns yes or no and a place"
unfoldable pub look_up_outcome : List ℕ → Triple → Outcome (Answer Bool)
look_up_outcome list t = checked (check 1 (wrong_length (length list)) ∷ []) (answer (holds t (triples list)) (place t (triples list)))
