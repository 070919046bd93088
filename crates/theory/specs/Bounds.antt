-- The slots that a weak summary may need: its triples, counted by their properties, against numbers that are read off the table and the roster.
-- Assumes nothing.
use Rattle.std.specs.Prelude.{ℕ, ◌+◌, ◌*◌, ◌≤◌, min, ◌≡◌, Bool, true, cond, not, ◌&&◌, eqb, leb, length}
use mathlib.Core.List.{List, map, Memᴰ as Mem}
use Rattle.model.specs.declared.Triple.{Triple}
use Rattle.model.specs.declared.Vocabulary.{Vocabulary}
use Rattle.model.specs.Codes.{kind}
use Rattle.model.specs.Lists.{any, how_many, tabulate, total}
use Rattle.model.specs.Triples.{is_data, sorted}
use Rattle.model.specs.Roster.{unmarked}
use Rattle.model.specs.declared.Side.{Side}
use Rattle.model.specs.declared.Side.TheVariants.{Source as source, Target as target}
use Rattle.model.specs.Cliques.{end}
use Rattle.model.specs.Summary.{summary}

-- 0, 1, .., n - 1
abbrev pub codes_below : ℕ → List ℕ
codes_below n = tabulate (λ c. c) 0 n

abbrev pub with_property : ℕ → Triple → Bool
with_property p t = eqb p t.property

module _ (roster : List ℕ) (ts : List Triple) where
  -- 02: "A counts its marked subjects in the table and B its marked objects"; a subject of several triples counts once
  unfoldable pub marked_ends : Side → ℕ → ℕ
  marked_ends e p = how_many (λ c. not (unmarked roster c) && any (λ t. with_property p t && eqb c (end e t)) ts) (codes_below (length roster))

  -- 02: "for each data property, at most the smaller of its distinct triples and (A + 1) × (B + 1)"
  unfoldable pub property_bound : ℕ → ℕ
  property_bound p = min (how_many (with_property p) (sorted ts)) ((marked_ends source p + 1) * (marked_ends target p + 1))

module _ (v : Vocabulary) where
  -- the property of a data triple: 02, "a data triple is one whose property is none of them"
  abbrev pub data_property : ℕ → Bool
  data_property p = leb 5 (kind v p)

  module _ (roster : List ℕ) (ts : List Triple) where
    -- 02: "a bound on the data triples": that of each data property, together
    unfoldable pub data_bound : ℕ
    data_bound = total (map (λ p. cond (data_property p) (property_bound roster ts p) 0) (codes_below (length roster)))

    -- 02: "this bound plus the distinct schema and type triples"
    unfoldable pub slots_bound : ℕ
    slots_bound = data_bound + how_many (λ t. not (is_data v t)) (sorted ts)

    -- 02: "the data properties present", how many
    unfoldable pub present : ℕ
    present = how_many (λ p. data_property p && any (with_property p) ts) (codes_below (length roster))

    -- 02: "no data triple touches a marked node"
    abbrev pub Untouched : Type 0
    Untouched = (t : Triple) → Mem t ts → is_data v t ≡ true → (e : Side) → unmarked roster (end e t) ≡ true

    -- what is shown of the weak summary of these triples
    pub record Bounded : Type 0 where
      pub each : (p : ℕ) → data_property p ≡ true → how_many (with_property p) (summary v roster ts) ≤ property_bound roster ts p
      pub together : how_many (is_data v) (summary v roster ts) ≤ data_bound
      pub whole : length (summary v roster ts) ≤ slots_bound
      -- the bound is no more than the distinct triples, each of which has a slot in a list as long as the table
      pub no_more : slots_bound ≤ length (sorted ts)
      -- 02: "Where no data triple touches a marked node, the number is exactly that of the data properties present.": the number of data triples
      -- in the summary, and the bound too
      pub exact : Untouched → how_many (is_data v) (summary v roster ts) ≡ present
      pub tight : Untouched → data_bound ≡ present
