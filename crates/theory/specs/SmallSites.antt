-- Small sites with the slots that their summaries may need and those that they need, computed.
-- Assumes nothing.
use Rattle.std.specs.Prelude.{ℕ, Bool, false, not, ◌&&◌, List, [], ◌∷◌, eqb, length}
use Rattle.model.specs.declared.Vocabulary.{Vocabulary}
use Rattle.model.specs.Codes.{rdfs, vocabulary}
use Rattle.model.specs.Lists.{any, all}
use Rattle.model.specs.Triples.{triples, flat}
use Rattle.model.specs.Summary.{summary, strong_summary}
use Rattle.model.specs.Outcomes.{Check}
use Rattle.model.specs.Calls.{table_checks}
use Rattle.model.specs.Graphs.{equal}
use Rattle.theory.specs.Bounds.{data_bound, slots_bound}

-- reserved codes, a table with a roster that covers it, the bound on the data triples of its summary, that on all of them, and its summary
pub record SmallSite : Type 0 where
  pub words : Vocabulary
  pub roster : List ℕ
  pub table : List ℕ
  pub of_data : ℕ
  pub of_all : ℕ
  pub lines : List ℕ

unfoldable pub site_right : SmallSite → Bool
site_right s =
    not (any (λ (c : Check). c.fails) (table_checks s.words false s.table s.roster))
    && (eqb (data_bound s.words s.roster (triples s.table)) s.of_data
    && (eqb (slots_bound s.words s.roster (triples s.table)) s.of_all
    && equal (flat (summary s.words s.roster (triples s.table))) s.lines))

unfoldable pub all_sites_right : List SmallSite → Bool
all_sites_right ss = all site_right ss

abbrev pub small_site : Vocabulary → List ℕ → List ℕ → ℕ → ℕ → List ℕ → SmallSite
small_site v roster table n k lines = record { words = v; roster = roster; table = table; of_data = n; of_all = k; lines = lines }

abbrev pub small_sites : List SmallSite
small_sites =
    {- nothing -}
    small_site rdfs (0 ∷ 0 ∷ 0 ∷ 0 ∷ 0 ∷ []) [] 0 0 []
    ∷ {- one property: its one line -}
    small_site rdfs (0 ∷ 0 ∷ 0 ∷ 0 ∷ 0 ∷ 2 ∷ 0 ∷ 0 ∷ 0 ∷ []) (6 ∷ 5 ∷ 7 ∷ 7 ∷ 5 ∷ 8 ∷ []) 1 1
    (6 ∷ 5 ∷ 6 ∷ [])
    ∷ {- three properties present, no marked end: three lines -}
    small_site rdfs (0 ∷ 0 ∷ 0 ∷ 0 ∷ 0 ∷ 2 ∷ 2 ∷ 2 ∷ 0 ∷ 0 ∷ 0 ∷ 0 ∷ 0 ∷ 0 ∷ [])
    (8 ∷ 5 ∷ 10 ∷ 8 ∷ 6 ∷ 11 ∷ 9 ∷ 6 ∷ 12 ∷ 9 ∷ 7 ∷ 13 ∷ []) 3 3
    (8 ∷ 5 ∷ 10 ∷ 8 ∷ 6 ∷ 11 ∷ 8 ∷ 7 ∷ 13 ∷ [])
    ∷ {- a class as subject: of each property one distinct triple, fewer than the (1 + 1) × (0 + 1) cells; and a type triple -}
    small_site rdfs (0 ∷ 0 ∷ 0 ∷ 0 ∷ 0 ∷ 2 ∷ 2 ∷ 0 ∷ 1 ∷ 0 ∷ 0 ∷ 0 ∷ 0 ∷ 0 ∷ []) (10 ∷ 0 ∷ 8 ∷ 8 ∷ 5 ∷ 12 ∷ 8 ∷ 6 ∷ 13 ∷ []) 2 3
    (8 ∷ 5 ∷ 12 ∷ 8 ∷ 6 ∷ 13 ∷ 10 ∷ 0 ∷ 8 ∷ [])
    ∷ {- two marked subjects and three unmarked: five distinct triples, (2 + 1) × (0 + 1) cells; the roster marks more than the table asks for -}
    small_site rdfs (0 ∷ 0 ∷ 0 ∷ 0 ∷ 0 ∷ 2 ∷ 1 ∷ 1 ∷ 0 ∷ 0 ∷ 0 ∷ 0 ∷ [])
    (6 ∷ 5 ∷ 11 ∷ 7 ∷ 5 ∷ 11 ∷ 8 ∷ 5 ∷ 11 ∷ 9 ∷ 5 ∷ 11 ∷ 10 ∷ 5 ∷ 11 ∷ []) 3 3
    (6 ∷ 5 ∷ 11 ∷ 7 ∷ 5 ∷ 11 ∷ 8 ∷ 5 ∷ 11 ∷ [])
    ∷ {- marked ends at both sides: nine distinct triples, (1 + 1) × (1 + 1) cells, each of them a line -}
    small_site rdfs (0 ∷ 0 ∷ 0 ∷ 0 ∷ 0 ∷ 2 ∷ 1 ∷ 3 ∷ 0 ∷ 0 ∷ 0 ∷ 0 ∷ [])
    (6 ∷ 5 ∷ 7 ∷ 6 ∷ 5 ∷ 10 ∷ 6 ∷ 5 ∷ 11 ∷ 8 ∷ 5 ∷ 7 ∷ 8 ∷ 5 ∷ 10 ∷ 8 ∷ 5 ∷ 11 ∷ 9 ∷ 5 ∷ 7 ∷ 9 ∷ 5 ∷ 10 ∷ 9 ∷ 5 ∷ 11 ∷ []) 4 4
    (6 ∷ 5 ∷ 7 ∷ 6 ∷ 5 ∷ 10 ∷ 8 ∷ 5 ∷ 7 ∷ 8 ∷ 5 ∷ 10 ∷ [])
    ∷ {- repeats count once -}
    small_site rdfs (0 ∷ 0 ∷ 0 ∷ 0 ∷ 0 ∷ 2 ∷ 1 ∷ 0 ∷ 0 ∷ []) (7 ∷ 5 ∷ 8 ∷ 7 ∷ 0 ∷ 6 ∷ 7 ∷ 5 ∷ 8 ∷ 7 ∷ 0 ∷ 6 ∷ []) 1 2
    (7 ∷ 0 ∷ 6 ∷ 7 ∷ 5 ∷ 8 ∷ [])
    ∷ {- each property has its own marked ends: 7 is one of 5, and 6 has none; repeats of data triples count once; a schema triple -}
    small_site rdfs (0 ∷ 0 ∷ 0 ∷ 0 ∷ 0 ∷ 2 ∷ 2 ∷ 1 ∷ 0 ∷ 0 ∷ 0 ∷ 0 ∷ []) (7 ∷ 5 ∷ 8 ∷ 7 ∷ 5 ∷ 8 ∷ 9 ∷ 6 ∷ 10 ∷ 11 ∷ 6 ∷ 10 ∷ 5 ∷ 3 ∷ 7 ∷ []) 2 3
    (5 ∷ 3 ∷ 7 ∷ 7 ∷ 5 ∷ 8 ∷ 9 ∷ 6 ∷ 10 ∷ [])
    ∷ {- type triples may become one: the bound counts both -}
    small_site rdfs (0 ∷ 0 ∷ 0 ∷ 0 ∷ 0 ∷ 1 ∷ 0 ∷ 0 ∷ []) (6 ∷ 0 ∷ 5 ∷ 7 ∷ 0 ∷ 5 ∷ []) 0 2
    (6 ∷ 0 ∷ 5 ∷ [])
    ∷ {- other reserved codes: 0 is a data property -}
    small_site (vocabulary 9 8 7 6 5) (2 ∷ 1 ∷ 0 ∷ 0 ∷ 0 ∷ 0 ∷ 0 ∷ 0 ∷ 0 ∷ 0 ∷ []) (3 ∷ 9 ∷ 1 ∷ 4 ∷ 0 ∷ 2 ∷ 4 ∷ 9 ∷ 1 ∷ []) 1 3
    (3 ∷ 9 ∷ 1 ∷ 4 ∷ 0 ∷ 2 ∷ 4 ∷ 9 ∷ 1 ∷ [])
    ∷ []

-- The bound is for the weak summary only: the strong one keeps more nodes apart. Here two slots are enough for the weak summary, and the strong
-- one has three lines, because only one of the two objects of 5 is also a subject.
abbrev pub chain : SmallSite
chain =
    small_site rdfs (0 ∷ 0 ∷ 0 ∷ 0 ∷ 0 ∷ 2 ∷ 2 ∷ 0 ∷ 0 ∷ 0 ∷ 0 ∷ 0 ∷ []) (7 ∷ 5 ∷ 9 ∷ 8 ∷ 5 ∷ 10 ∷ 10 ∷ 6 ∷ 11 ∷ []) 2 2
    (7 ∷ 5 ∷ 9 ∷ 9 ∷ 6 ∷ 11 ∷ [])

unfoldable pub strong_needs_more : Bool
strong_needs_more = site_right chain && eqb (length (strong_summary rdfs chain.roster (triples chain.table))) 3
