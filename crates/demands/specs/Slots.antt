-- The slots that a summarise may need, as the call's outcome says it.
-- Assumes nothing.
use Rattle.std.specs.Prelude.{ℕ, ◌≤◌, ◌≡◌, length}
use mathlib.Core.List.{List, Memᴰ as Mem}
use Rattle.model.specs.declared.Triple.{Triple}
use Rattle.model.specs.declared.Vocabulary.{Vocabulary}
use Rattle.model.specs.Codes.{most_triples}
use Rattle.model.specs.Triples.{triples, slots}
use Rattle.model.specs.Summary.{summary}
use Rattle.model.specs.Outcomes.{accepted, refused}
use Rattle.model.specs.Calls.{Accepted, summarise_outcome}
use Rattle.theory.specs.Bounds.{slots_bound}
use Rattle.demands.specs.Routes.{Lent, LongEnough, Saturates}

module _ (v : Vocabulary) where
  -- 02: "A result list that holds this bound plus the distinct schema and type triples never meets refusal 5." Whatever table, roster and lists
  -- are lent, right or wrong.
  abbrev pub NeverFive : Type 0
  NeverFive =
      (table roster result map work : List ℕ) → slots_bound v roster (triples table) ≤ slots result
      → summarise_outcome v table roster result map work ≡ refused 5 → ⊥

  -- The same of a table without some of its triples: a list that is cut for a whole site serves every part of it.
  abbrev pub PartNeverFive : Type 0
  PartNeverFive =
      (table part roster result map work : List ℕ) → ((t : Triple) → Mem t (triples part) → Mem t (triples table))
      → slots_bound v roster (triples table) ≤ slots result → summarise_outcome v part roster result map work ≡ refused 5 → ⊥

  -- So an accepted table is summarised, where the map and the work list have their lengths.
  abbrev pub SlotsSuffice : Type 0
  SlotsSuffice =
      (table roster : List ℕ) (l : Lent) → Accepted v table roster → LongEnough roster (slots_bound v roster (triples table)) l
      → summarise_outcome v table roster l.result l.map l.work ≡ accepted (length (summary v roster (triples table)))

  -- As a controller's maker has it: what a saturate left, no longer than a table may be, is summarised with so many slots as its own bound says.
  abbrev pub SaturationSlots : Type 0
  SaturationSlots =
      (table roster big : List ℕ) (count : ℕ) (sat : List ℕ) (l : Lent) → Saturates v table roster big count sat → count ≤ most_triples
      → LongEnough roster (slots_bound v roster (triples sat)) l
      → summarise_outcome v sat roster l.result l.map l.work ≡ accepted (length (summary v roster (triples sat)))
