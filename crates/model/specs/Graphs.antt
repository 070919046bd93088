-- The small graphs of 01 that are marked to be proved, as one table: with the own roster, the saturation, the plain summary, the map and
-- both clique lists of each; the last two have reserved codes of their own (02). Behind it, the saturations of small schemas, for the rules of 02,
-- the strong summaries of small graphs, the weights of what an intake holds, and what is left of it when a triple is removed.
-- Assumes nothing.
use Rattle.std.specs.Prelude.{ℕ, Bool, true, false, not, ◌&&◌, List, [], ◌∷◌, eqb}
use Rattle.model.specs.declared.Triple.{Triple}
use Rattle.model.specs.declared.Vocabulary.{Vocabulary}
use Rattle.model.specs.Codes.{absent, rdfs, vocabulary}
use Rattle.model.specs.Lists.{any, all}
use Rattle.model.specs.Triples.{triple, triples, flat, sorted}
use Rattle.model.specs.Roster.{own_roster}
use Rattle.model.specs.Saturation.{saturation}
use Rattle.model.specs.declared.Side.TheVariants.{Source as source, Target as target}
use Rattle.model.specs.Cliques.{cliques}
use Rattle.model.specs.Classes.{map_of, strong_map_of}
use Rattle.model.specs.Summary.{summary, weights, strong_summary}
use Rattle.model.specs.Outcomes.{Check, place_of}
use Rattle.model.specs.Calls.{table_checks}
use Rattle.model.specs.Intake.{judged_removal, held_then}

unfoldable pub equal : List ℕ → List ℕ → Bool
equal [] [] = true
equal [] (y ∷ ys) = false
equal (x ∷ xs) [] = false
equal (x ∷ xs) (y ∷ ys) = eqb x y && equal xs ys

-- a graph: the reserved codes, the size, the table, and what is to come out with its own roster
pub record Example : Type 0 where
  pub words : Vocabulary
  pub size : ℕ
  pub table : List ℕ
  pub saturated : List ℕ
  pub plain : List ℕ
  pub representatives : List ℕ
  pub sources : List ℕ
  pub targets : List ℕ

unfoldable pub right : Example → Bool
right g =
    let v = g.words in
    let ts = triples g.table in
    let own = own_roster v g.size ts in
    not (any (λ (c : Check). c.fails) (table_checks v false g.table own))
    && (equal (flat (saturation v g.size ts)) g.saturated
    && (equal (flat (summary v own ts)) g.plain
    && (equal (map_of v own ts) g.representatives
    && (equal (cliques v own source ts) g.sources
    && equal (cliques v own target ts) g.targets))))

unfoldable pub all_right : List Example → Bool
all_right gs = all right gs

abbrev pub graph : Vocabulary → ℕ → List ℕ → List ℕ → List ℕ → List ℕ → List ℕ → List ℕ → Example
graph v n t s p m a b = record { words = v; size = n; table = t; saturated = s; plain = p; representatives = m; sources = a; targets = b }

abbrev pub graphs : List Example
graphs =
    {- no triples -}
    graph rdfs 5 []
    []
    []
    (absent ∷ absent ∷ absent ∷ absent ∷ absent ∷ [])
    (absent ∷ absent ∷ absent ∷ absent ∷ absent ∷ [])
    (absent ∷ absent ∷ absent ∷ absent ∷ absent ∷ [])
    ∷ {- the six triples of the site form; 02: "the saturation of its six triples has 17" -}
    graph rdfs 14 (5 ∷ 2 ∷ 7 ∷ 6 ∷ 2 ∷ 7 ∷ 7 ∷ 3 ∷ 8 ∷ 8 ∷ 1 ∷ 9 ∷ 10 ∷ 5 ∷ 12 ∷ 11 ∷ 6 ∷ 13 ∷ [])
    (5 ∷ 2 ∷ 7 ∷ 5 ∷ 3 ∷ 8 ∷ 5 ∷ 3 ∷ 9 ∷ 6 ∷ 2 ∷ 7 ∷ 6 ∷ 3 ∷ 8 ∷ 6 ∷ 3 ∷ 9 ∷ 7 ∷ 3 ∷ 8 ∷ 7 ∷ 3 ∷ 9 ∷ 8 ∷ 1 ∷ 9 ∷ 10 ∷ 0 ∷ 8 ∷ 10 ∷ 0 ∷ 9 ∷ 10 ∷ 5 ∷
    12 ∷ 10 ∷ 7 ∷ 12 ∷ 11 ∷ 0 ∷ 8 ∷ 11 ∷ 0 ∷ 9 ∷ 11 ∷ 6 ∷ 13 ∷ 11 ∷ 7 ∷ 13 ∷ [])
    (5 ∷ 2 ∷ 7 ∷ 6 ∷ 2 ∷ 7 ∷ 7 ∷ 3 ∷ 8 ∷ 8 ∷ 1 ∷ 9 ∷ 10 ∷ 5 ∷ 12 ∷ 11 ∷ 6 ∷ 13 ∷ [])
    (absent ∷ absent ∷ absent ∷ absent ∷ absent ∷ 5 ∷ 6 ∷ 7 ∷ 8 ∷ 9 ∷ 10 ∷ 11 ∷ 12 ∷ 13 ∷ [])
    (absent ∷ absent ∷ absent ∷ absent ∷ absent ∷ 5 ∷ 6 ∷ absent ∷ absent ∷ absent ∷ absent ∷ absent ∷ absent ∷ absent ∷ [])
    (absent ∷ absent ∷ absent ∷ absent ∷ absent ∷ 5 ∷ 6 ∷ absent ∷ absent ∷ absent ∷ absent ∷ absent ∷ absent ∷ absent ∷ [])
    ∷ {- a loop -}
    graph rdfs 11 (10 ∷ 5 ∷ 10 ∷ [])
    (10 ∷ 5 ∷ 10 ∷ [])
    (10 ∷ 5 ∷ 10 ∷ [])
    (absent ∷ absent ∷ absent ∷ absent ∷ absent ∷ absent ∷ absent ∷ absent ∷ absent ∷ absent ∷ 10 ∷ [])
    (absent ∷ absent ∷ absent ∷ absent ∷ absent ∷ 5 ∷ absent ∷ absent ∷ absent ∷ absent ∷ absent ∷ [])
    (absent ∷ absent ∷ absent ∷ absent ∷ absent ∷ 5 ∷ absent ∷ absent ∷ absent ∷ absent ∷ absent ∷ [])
    ∷ {- a chain -}
    graph rdfs 13 (10 ∷ 5 ∷ 11 ∷ 11 ∷ 5 ∷ 12 ∷ [])
    (10 ∷ 5 ∷ 11 ∷ 11 ∷ 5 ∷ 12 ∷ [])
    (10 ∷ 5 ∷ 10 ∷ [])
    (absent ∷ absent ∷ absent ∷ absent ∷ absent ∷ absent ∷ absent ∷ absent ∷ absent ∷ absent ∷ 10 ∷ 10 ∷ 10 ∷ [])
    (absent ∷ absent ∷ absent ∷ absent ∷ absent ∷ 5 ∷ absent ∷ absent ∷ absent ∷ absent ∷ absent ∷ absent ∷ absent ∷ [])
    (absent ∷ absent ∷ absent ∷ absent ∷ absent ∷ 5 ∷ absent ∷ absent ∷ absent ∷ absent ∷ absent ∷ absent ∷ absent ∷ [])
    ∷ {- types only -}
    graph rdfs 12 (10 ∷ 0 ∷ 8 ∷ 11 ∷ 0 ∷ 9 ∷ [])
    (10 ∷ 0 ∷ 8 ∷ 11 ∷ 0 ∷ 9 ∷ [])
    (10 ∷ 0 ∷ 8 ∷ 10 ∷ 0 ∷ 9 ∷ [])
    (absent ∷ absent ∷ absent ∷ absent ∷ absent ∷ absent ∷ absent ∷ absent ∷ 8 ∷ 9 ∷ 10 ∷ 10 ∷ [])
    (absent ∷ absent ∷ absent ∷ absent ∷ absent ∷ absent ∷ absent ∷ absent ∷ absent ∷ absent ∷ absent ∷ absent ∷ [])
    (absent ∷ absent ∷ absent ∷ absent ∷ absent ∷ absent ∷ absent ∷ absent ∷ absent ∷ absent ∷ absent ∷ absent ∷ [])
    ∷ {- types with a data triple -}
    graph rdfs 13 (10 ∷ 0 ∷ 8 ∷ 11 ∷ 0 ∷ 9 ∷ 11 ∷ 5 ∷ 12 ∷ [])
    (10 ∷ 0 ∷ 8 ∷ 11 ∷ 0 ∷ 9 ∷ 11 ∷ 5 ∷ 12 ∷ [])
    (10 ∷ 0 ∷ 8 ∷ 11 ∷ 0 ∷ 9 ∷ 11 ∷ 5 ∷ 12 ∷ [])
    (absent ∷ absent ∷ absent ∷ absent ∷ absent ∷ absent ∷ absent ∷ absent ∷ 8 ∷ 9 ∷ 10 ∷ 11 ∷ 12 ∷ [])
    (absent ∷ absent ∷ absent ∷ absent ∷ absent ∷ 5 ∷ absent ∷ absent ∷ absent ∷ absent ∷ absent ∷ absent ∷ absent ∷ [])
    (absent ∷ absent ∷ absent ∷ absent ∷ absent ∷ 5 ∷ absent ∷ absent ∷ absent ∷ absent ∷ absent ∷ absent ∷ absent ∷ [])
    ∷ {- one source clique -}
    graph rdfs 24 (10 ∷ 5 ∷ 20 ∷ 10 ∷ 6 ∷ 21 ∷ 11 ∷ 6 ∷ 22 ∷ 11 ∷ 7 ∷ 23 ∷ [])
    (10 ∷ 5 ∷ 20 ∷ 10 ∷ 6 ∷ 21 ∷ 11 ∷ 6 ∷ 22 ∷ 11 ∷ 7 ∷ 23 ∷ [])
    (10 ∷ 5 ∷ 20 ∷ 10 ∷ 6 ∷ 21 ∷ 10 ∷ 7 ∷ 23 ∷ [])
    (absent ∷ absent ∷ absent ∷ absent ∷ absent ∷ absent ∷ absent ∷ absent ∷ absent ∷ absent ∷ 10 ∷ 10 ∷ absent ∷ absent ∷ absent ∷ absent ∷ absent ∷ absent ∷ absent ∷ absent ∷ 20 ∷ 21 ∷ 21 ∷ 23 ∷ [])
    (absent ∷ absent ∷ absent ∷ absent ∷ absent ∷ 5 ∷ 5 ∷ 5 ∷ absent ∷ absent ∷ absent ∷ absent ∷ absent ∷ absent ∷ absent ∷ absent ∷ absent ∷ absent
    ∷ absent ∷ absent ∷ absent ∷ absent ∷ absent ∷ absent ∷ [])
    (absent ∷ absent ∷ absent ∷ absent ∷ absent ∷ 5 ∷ 6 ∷ 7 ∷ absent ∷ absent ∷ absent ∷ absent ∷ absent ∷ absent ∷ absent ∷ absent ∷ absent ∷ absent
    ∷ absent ∷ absent ∷ absent ∷ absent ∷ absent ∷ absent ∷ [])
    ∷ {- a class links nothing -}
    graph rdfs 14 (10 ∷ 0 ∷ 8 ∷ 8 ∷ 5 ∷ 12 ∷ 8 ∷ 6 ∷ 13 ∷ [])
    (8 ∷ 5 ∷ 12 ∷ 8 ∷ 6 ∷ 13 ∷ 10 ∷ 0 ∷ 8 ∷ [])
    (8 ∷ 5 ∷ 12 ∷ 8 ∷ 6 ∷ 13 ∷ 10 ∷ 0 ∷ 8 ∷ [])
    (absent ∷ absent ∷ absent ∷ absent ∷ absent ∷ absent ∷ absent ∷ absent ∷ 8 ∷ absent ∷ 10 ∷ absent ∷ 12 ∷ 13 ∷ [])
    (absent ∷ absent ∷ absent ∷ absent ∷ absent ∷ absent ∷ absent ∷ absent ∷ absent ∷ absent ∷ absent ∷ absent ∷ absent ∷ absent ∷ [])
    (absent ∷ absent ∷ absent ∷ absent ∷ absent ∷ 5 ∷ 6 ∷ absent ∷ absent ∷ absent ∷ absent ∷ absent ∷ absent ∷ absent ∷ [])
    ∷ {- a cycle of subclasses -}
    graph rdfs 10 (8 ∷ 1 ∷ 9 ∷ 9 ∷ 1 ∷ 8 ∷ [])
    (8 ∷ 1 ∷ 8 ∷ 8 ∷ 1 ∷ 9 ∷ 9 ∷ 1 ∷ 8 ∷ 9 ∷ 1 ∷ 9 ∷ [])
    (8 ∷ 1 ∷ 9 ∷ 9 ∷ 1 ∷ 8 ∷ [])
    (absent ∷ absent ∷ absent ∷ absent ∷ absent ∷ absent ∷ absent ∷ absent ∷ 8 ∷ 9 ∷ [])
    (absent ∷ absent ∷ absent ∷ absent ∷ absent ∷ absent ∷ absent ∷ absent ∷ absent ∷ absent ∷ [])
    (absent ∷ absent ∷ absent ∷ absent ∷ absent ∷ absent ∷ absent ∷ absent ∷ absent ∷ absent ∷ [])
    ∷ {- 02: the same six triples under another word table, every code below 5 written 10 more and every other 5 less -}
    graph (vocabulary 10 11 12 13 14) 24 (0 ∷ 12 ∷ 2 ∷ 1 ∷ 12 ∷ 2 ∷ 2 ∷ 13 ∷ 3 ∷ 3 ∷ 11 ∷ 4 ∷ 5 ∷ 0 ∷ 7 ∷ 6 ∷ 1 ∷ 8 ∷ [])
    (0 ∷ 12 ∷ 2 ∷ 0 ∷ 13 ∷ 3 ∷ 0 ∷ 13 ∷ 4 ∷ 1 ∷ 12 ∷ 2 ∷ 1 ∷ 13 ∷ 3 ∷ 1 ∷ 13 ∷ 4 ∷ 2 ∷ 13 ∷ 3 ∷ 2 ∷ 13 ∷ 4 ∷ 3 ∷ 11 ∷ 4 ∷ 5 ∷ 0 ∷ 7 ∷ 5 ∷ 2 ∷ 7 ∷ 5 ∷
    10 ∷ 3 ∷ 5 ∷ 10 ∷ 4 ∷ 6 ∷ 1 ∷ 8 ∷ 6 ∷ 2 ∷ 8 ∷ 6 ∷ 10 ∷ 3 ∷ 6 ∷ 10 ∷ 4 ∷ [])
    (0 ∷ 12 ∷ 2 ∷ 1 ∷ 12 ∷ 2 ∷ 2 ∷ 13 ∷ 3 ∷ 3 ∷ 11 ∷ 4 ∷ 5 ∷ 0 ∷ 7 ∷ 6 ∷ 1 ∷ 8 ∷ [])
    (0 ∷ 1 ∷ 2 ∷ 3 ∷ 4 ∷ 5 ∷ 6 ∷ 7 ∷ 8 ∷ absent ∷ absent ∷ absent ∷ absent ∷ absent ∷ absent ∷ absent ∷ absent ∷ absent ∷ absent ∷ absent ∷ absent ∷ absent ∷ absent ∷ absent ∷ [])
    (0 ∷ 1 ∷ absent ∷ absent ∷ absent ∷ absent ∷ absent ∷ absent ∷ absent ∷ absent ∷ absent ∷ absent ∷ absent ∷ absent ∷ absent ∷ absent ∷ absent ∷
    absent ∷ absent ∷ absent ∷ absent ∷ absent ∷ absent ∷ absent ∷ [])
    (0 ∷ 1 ∷ absent ∷ absent ∷ absent ∷ absent ∷ absent ∷ absent ∷ absent ∷ absent ∷ absent ∷ absent ∷ absent ∷ absent ∷ absent ∷ absent ∷ absent ∷
    absent ∷ absent ∷ absent ∷ absent ∷ absent ∷ absent ∷ absent ∷ [])
    ∷ {- a word table that falls; codes below 5 are nodes, a class and a property, and 0 represents -}
    graph (vocabulary 9 8 7 6 5) 10 (3 ∷ 9 ∷ 1 ∷ 0 ∷ 2 ∷ 4 ∷ 4 ∷ 2 ∷ 3 ∷ [])
    (0 ∷ 2 ∷ 4 ∷ 3 ∷ 9 ∷ 1 ∷ 4 ∷ 2 ∷ 3 ∷ [])
    (0 ∷ 2 ∷ 0 ∷ 0 ∷ 9 ∷ 1 ∷ [])
    (0 ∷ 1 ∷ absent ∷ 0 ∷ 0 ∷ absent ∷ absent ∷ absent ∷ absent ∷ absent ∷ [])
    (absent ∷ absent ∷ 2 ∷ absent ∷ absent ∷ absent ∷ absent ∷ absent ∷ absent ∷ absent ∷ [])
    (absent ∷ absent ∷ 2 ∷ absent ∷ absent ∷ absent ∷ absent ∷ absent ∷ absent ∷ absent ∷ [])
    ∷ []

-- a schema: the size, the table, and its saturation
pub record Closure : Type 0 where
  pub size : ℕ
  pub table : List ℕ
  pub saturated : List ℕ

unfoldable pub closed : Closure → Bool
closed g = equal (flat (saturation rdfs g.size (triples g.table))) g.saturated

unfoldable pub all_closed : List Closure → Bool
all_closed gs = all closed gs

abbrev pub closure : ℕ → List ℕ → List ℕ → Closure
closure n t s = record { size = n; table = t; saturated = s }

abbrev pub closures : List Closure
closures =
    {- rule 7 -}
    closure 9 (5 ∷ 2 ∷ 6 ∷ 6 ∷ 3 ∷ 8 ∷ [])
    (5 ∷ 2 ∷ 6 ∷ 5 ∷ 3 ∷ 8 ∷ 6 ∷ 3 ∷ 8 ∷ [])
    ∷ {- rule 8 -}
    closure 9 (5 ∷ 2 ∷ 6 ∷ 6 ∷ 4 ∷ 8 ∷ [])
    (5 ∷ 2 ∷ 6 ∷ 5 ∷ 4 ∷ 8 ∷ 6 ∷ 4 ∷ 8 ∷ [])
    ∷ {- rule 9 -}
    closure 10 (5 ∷ 3 ∷ 8 ∷ 8 ∷ 1 ∷ 9 ∷ [])
    (5 ∷ 3 ∷ 8 ∷ 5 ∷ 3 ∷ 9 ∷ 8 ∷ 1 ∷ 9 ∷ [])
    ∷ {- rule 10 -}
    closure 10 (5 ∷ 4 ∷ 8 ∷ 8 ∷ 1 ∷ 9 ∷ [])
    (5 ∷ 4 ∷ 8 ∷ 5 ∷ 4 ∷ 9 ∷ 8 ∷ 1 ∷ 9 ∷ [])
    ∷ {- a property's domain and range are not those of the property above it -}
    closure 9 (6 ∷ 2 ∷ 5 ∷ 6 ∷ 3 ∷ 8 ∷ 6 ∷ 4 ∷ 8 ∷ [])
    (6 ∷ 2 ∷ 5 ∷ 6 ∷ 3 ∷ 8 ∷ 6 ∷ 4 ∷ 8 ∷ [])
    ∷ {- a class that is domain or range does not make the class below it one -}
    closure 10 (5 ∷ 3 ∷ 8 ∷ 5 ∷ 4 ∷ 8 ∷ 9 ∷ 1 ∷ 8 ∷ [])
    (5 ∷ 3 ∷ 8 ∷ 5 ∷ 4 ∷ 8 ∷ 9 ∷ 1 ∷ 8 ∷ [])
    ∷ {- a chain -}
    closure 10 (5 ∷ 2 ∷ 6 ∷ 6 ∷ 2 ∷ 7 ∷ 7 ∷ 3 ∷ 8 ∷ 8 ∷ 1 ∷ 9 ∷ [])
    (5 ∷ 2 ∷ 6 ∷ 5 ∷ 2 ∷ 7 ∷ 5 ∷ 3 ∷ 8 ∷ 5 ∷ 3 ∷ 9 ∷ 6 ∷ 2 ∷ 7 ∷ 6 ∷ 3 ∷ 8 ∷ 6 ∷ 3 ∷ 9 ∷ 7 ∷ 3 ∷ 8 ∷ 7 ∷ 3 ∷ 9 ∷ 8 ∷ 1 ∷ 9 ∷ [])
    ∷ {- a cycle of subproperties -}
    closure 9 (5 ∷ 2 ∷ 6 ∷ 6 ∷ 2 ∷ 5 ∷ 5 ∷ 3 ∷ 8 ∷ [])
    (5 ∷ 2 ∷ 5 ∷ 5 ∷ 2 ∷ 6 ∷ 5 ∷ 3 ∷ 8 ∷ 6 ∷ 2 ∷ 5 ∷ 6 ∷ 2 ∷ 6 ∷ 6 ∷ 3 ∷ 8 ∷ [])
    ∷ {- a cycle of subclasses -}
    closure 10 (5 ∷ 3 ∷ 8 ∷ 8 ∷ 1 ∷ 9 ∷ 9 ∷ 1 ∷ 8 ∷ [])
    (5 ∷ 3 ∷ 8 ∷ 5 ∷ 3 ∷ 9 ∷ 8 ∷ 1 ∷ 8 ∷ 8 ∷ 1 ∷ 9 ∷ 9 ∷ 1 ∷ 8 ∷ 9 ∷ 1 ∷ 9 ∷ [])
    ∷ []

-- a graph with its own roster: its strong summary, the strong map, and its weak summary beside it
pub record StrongExample : Type 0 where
  pub words : Vocabulary
  pub size : ℕ
  pub table : List ℕ
  pub strong : List ℕ
  pub representatives : List ℕ
  pub plain : List ℕ

unfoldable pub strong_right : StrongExample → Bool
strong_right g =
    let v = g.words in
    let ts = triples g.table in
    let own = own_roster v g.size ts in
    not (any (λ (c : Check). c.fails) (table_checks v false g.table own))
    && (equal (flat (strong_summary v own ts)) g.strong
    && (equal (strong_map_of v own ts) g.representatives
    && equal (flat (summary v own ts)) g.plain))

unfoldable pub all_strong_right : List StrongExample → Bool
all_strong_right gs = all strong_right gs

abbrev pub strong_graph : Vocabulary → ℕ → List ℕ → List ℕ → List ℕ → List ℕ → StrongExample
strong_graph v n t s m p = record { words = v; size = n; table = t; strong = s; representatives = m; plain = p }

abbrev pub strong_graphs : List StrongExample
strong_graphs =
    {- no triples -}
    strong_graph rdfs 5 []
    []
    (absent ∷ absent ∷ absent ∷ absent ∷ absent ∷ [])
    []
    ∷ {- a loop -}
    strong_graph rdfs 11 (10 ∷ 5 ∷ 10 ∷ [])
    (10 ∷ 5 ∷ 10 ∷ [])
    (absent ∷ absent ∷ absent ∷ absent ∷ absent ∷ absent ∷ absent ∷ absent ∷ absent ∷ absent ∷ 10 ∷ [])
    (10 ∷ 5 ∷ 10 ∷ [])
    ∷ {- a chain: three nodes, no two with the same cliques -}
    strong_graph rdfs 13 (10 ∷ 5 ∷ 11 ∷ 11 ∷ 5 ∷ 12 ∷ [])
    (10 ∷ 5 ∷ 11 ∷ 11 ∷ 5 ∷ 12 ∷ [])
    (absent ∷ absent ∷ absent ∷ absent ∷ absent ∷ absent ∷ absent ∷ absent ∷ absent ∷ absent ∷ 10 ∷ 11 ∷ 12 ∷ [])
    (10 ∷ 5 ∷ 10 ∷ [])
    ∷ {- types only -}
    strong_graph rdfs 12 (10 ∷ 0 ∷ 8 ∷ 11 ∷ 0 ∷ 9 ∷ [])
    (10 ∷ 0 ∷ 8 ∷ 10 ∷ 0 ∷ 9 ∷ [])
    (absent ∷ absent ∷ absent ∷ absent ∷ absent ∷ absent ∷ absent ∷ absent ∷ 8 ∷ 9 ∷ 10 ∷ 10 ∷ [])
    (10 ∷ 0 ∷ 8 ∷ 10 ∷ 0 ∷ 9 ∷ [])
    ∷ {- types with a data triple -}
    strong_graph rdfs 13 (10 ∷ 0 ∷ 8 ∷ 11 ∷ 0 ∷ 9 ∷ 11 ∷ 5 ∷ 12 ∷ [])
    (10 ∷ 0 ∷ 8 ∷ 11 ∷ 0 ∷ 9 ∷ 11 ∷ 5 ∷ 12 ∷ [])
    (absent ∷ absent ∷ absent ∷ absent ∷ absent ∷ absent ∷ absent ∷ absent ∷ 8 ∷ 9 ∷ 10 ∷ 11 ∷ 12 ∷ [])
    (10 ∷ 0 ∷ 8 ∷ 11 ∷ 0 ∷ 9 ∷ 11 ∷ 5 ∷ 12 ∷ [])
    ∷ {- one source clique -}
    strong_graph rdfs 24 (10 ∷ 5 ∷ 20 ∷ 10 ∷ 6 ∷ 21 ∷ 11 ∷ 6 ∷ 22 ∷ 11 ∷ 7 ∷ 23 ∷ [])
    (10 ∷ 5 ∷ 20 ∷ 10 ∷ 6 ∷ 21 ∷ 10 ∷ 7 ∷ 23 ∷ [])
    (absent ∷ absent ∷ absent ∷ absent ∷ absent ∷ absent ∷ absent ∷ absent ∷ absent ∷ absent ∷ 10 ∷ 10 ∷ absent ∷ absent ∷ absent ∷ absent ∷ absent ∷ absent ∷ absent ∷ absent ∷ 20 ∷ 21 ∷ 21 ∷ 23 ∷ [])
    (10 ∷ 5 ∷ 20 ∷ 10 ∷ 6 ∷ 21 ∷ 10 ∷ 7 ∷ 23 ∷ [])
    ∷ {- one source clique; no target clique, and two different ones -}
    strong_graph rdfs 32 (10 ∷ 5 ∷ 20 ∷ 10 ∷ 6 ∷ 21 ∷ 11 ∷ 6 ∷ 22 ∷ 12 ∷ 6 ∷ 23 ∷ 13 ∷ 5 ∷ 24 ∷ 30 ∷ 7 ∷ 12 ∷ 31 ∷ 8 ∷ 13 ∷ [])
    (10 ∷ 5 ∷ 20 ∷ 10 ∷ 6 ∷ 21 ∷ 12 ∷ 6 ∷ 21 ∷ 13 ∷ 5 ∷ 20 ∷ 30 ∷ 7 ∷ 12 ∷ 31 ∷ 8 ∷ 13 ∷ [])
    (absent ∷ absent ∷ absent ∷ absent ∷ absent ∷ absent ∷ absent ∷ absent ∷ absent ∷ absent ∷ 10 ∷ 10 ∷ 12 ∷ 13 ∷ absent ∷ absent ∷ absent ∷ absent
    ∷ absent ∷ absent ∷ 20 ∷ 21 ∷ 21 ∷ 21 ∷ 20 ∷ absent ∷ absent ∷ absent ∷ absent ∷ absent ∷ 30 ∷ 31 ∷ [])
    (10 ∷ 5 ∷ 20 ∷ 10 ∷ 6 ∷ 21 ∷ 30 ∷ 7 ∷ 10 ∷ 31 ∷ 8 ∷ 10 ∷ [])
    ∷ {- one target clique, with and without a source clique -}
    strong_graph rdfs 15 (10 ∷ 5 ∷ 12 ∷ 11 ∷ 5 ∷ 13 ∷ 12 ∷ 6 ∷ 14 ∷ [])
    (10 ∷ 5 ∷ 12 ∷ 10 ∷ 5 ∷ 13 ∷ 12 ∷ 6 ∷ 14 ∷ [])
    (absent ∷ absent ∷ absent ∷ absent ∷ absent ∷ absent ∷ absent ∷ absent ∷ absent ∷ absent ∷ 10 ∷ 10 ∷ 12 ∷ 13 ∷ 14 ∷ [])
    (10 ∷ 5 ∷ 12 ∷ 12 ∷ 6 ∷ 14 ∷ [])
    ∷ {- a class links nothing -}
    strong_graph rdfs 14 (10 ∷ 0 ∷ 8 ∷ 8 ∷ 5 ∷ 12 ∷ 8 ∷ 6 ∷ 13 ∷ [])
    (8 ∷ 5 ∷ 12 ∷ 8 ∷ 6 ∷ 13 ∷ 10 ∷ 0 ∷ 8 ∷ [])
    (absent ∷ absent ∷ absent ∷ absent ∷ absent ∷ absent ∷ absent ∷ absent ∷ 8 ∷ absent ∷ 10 ∷ absent ∷ 12 ∷ 13 ∷ [])
    (8 ∷ 5 ∷ 12 ∷ 8 ∷ 6 ∷ 13 ∷ 10 ∷ 0 ∷ 8 ∷ [])
    ∷ {- and makes no two nodes alike that have a property of its own each -}
    strong_graph rdfs 14 (10 ∷ 0 ∷ 8 ∷ 8 ∷ 5 ∷ 12 ∷ 8 ∷ 6 ∷ 13 ∷ 10 ∷ 5 ∷ 12 ∷ 11 ∷ 6 ∷ 13 ∷ [])
    (8 ∷ 5 ∷ 12 ∷ 8 ∷ 6 ∷ 13 ∷ 10 ∷ 0 ∷ 8 ∷ 10 ∷ 5 ∷ 12 ∷ 11 ∷ 6 ∷ 13 ∷ [])
    (absent ∷ absent ∷ absent ∷ absent ∷ absent ∷ absent ∷ absent ∷ absent ∷ 8 ∷ absent ∷ 10 ∷ 11 ∷ 12 ∷ 13 ∷ [])
    (8 ∷ 5 ∷ 12 ∷ 8 ∷ 6 ∷ 13 ∷ 10 ∷ 0 ∷ 8 ∷ 10 ∷ 5 ∷ 12 ∷ 11 ∷ 6 ∷ 13 ∷ [])
    ∷ {- the smallest code represents, not the first seen -}
    strong_graph rdfs 14 (13 ∷ 5 ∷ 12 ∷ 11 ∷ 5 ∷ 10 ∷ [])
    (11 ∷ 5 ∷ 10 ∷ [])
    (absent ∷ absent ∷ absent ∷ absent ∷ absent ∷ absent ∷ absent ∷ absent ∷ absent ∷ absent ∷ 10 ∷ 11 ∷ 10 ∷ 11 ∷ [])
    (11 ∷ 5 ∷ 10 ∷ [])
    ∷ {- a word table that falls, and 0 represents -}
    strong_graph (vocabulary 9 8 7 6 5) 10 (3 ∷ 9 ∷ 1 ∷ 4 ∷ 9 ∷ 1 ∷ 0 ∷ 2 ∷ 3 ∷ 4 ∷ 2 ∷ 3 ∷ [])
    (0 ∷ 2 ∷ 3 ∷ 0 ∷ 9 ∷ 1 ∷ 3 ∷ 9 ∷ 1 ∷ [])
    (0 ∷ 1 ∷ absent ∷ 3 ∷ 0 ∷ absent ∷ absent ∷ absent ∷ absent ∷ absent ∷ [])
    (0 ∷ 2 ∷ 3 ∷ 0 ∷ 9 ∷ 1 ∷ 3 ∷ 9 ∷ 1 ∷ [])
    ∷ []

-- triples in rising order, as an intake holds them, with their own roster: the lines of the summary, and how many triples each stands for
pub record WeightExample : Type 0 where
  pub words : Vocabulary
  pub size : ℕ
  pub held : List ℕ
  pub lines : List ℕ
  pub counts : List ℕ

unfoldable pub weights_right : WeightExample → Bool
weights_right g =
    let v = g.words in
    let ts = triples g.held in
    let own = own_roster v g.size ts in
    not (any (λ (c : Check). c.fails) (table_checks v false g.held own))
    && (equal (flat (sorted ts)) g.held
    && (equal (flat (summary v own ts)) g.lines
    && equal (weights v own ts) g.counts))

unfoldable pub all_weights_right : List WeightExample → Bool
all_weights_right gs = all weights_right gs

abbrev pub weight_example : Vocabulary → ℕ → List ℕ → List ℕ → List ℕ → WeightExample
weight_example v n h l w = record { words = v; size = n; held = h; lines = l; counts = w }

abbrev pub weight_examples : List WeightExample
weight_examples =
    {- no triples -}
    weight_example rdfs 5 []
    [] []
    ∷ {- a chain -}
    weight_example rdfs 13 (10 ∷ 5 ∷ 11 ∷ 11 ∷ 5 ∷ 12 ∷ [])
    (10 ∷ 5 ∷ 10 ∷ []) (2 ∷ [])
    ∷ {- two sources apart -}
    weight_example rdfs 22 (10 ∷ 5 ∷ 20 ∷ 11 ∷ 6 ∷ 21 ∷ [])
    (10 ∷ 5 ∷ 20 ∷ 11 ∷ 6 ∷ 21 ∷ []) (1 ∷ 1 ∷ [])
    ∷ {- and with one triple more together -}
    weight_example rdfs 23 (10 ∷ 5 ∷ 20 ∷ 10 ∷ 6 ∷ 22 ∷ 11 ∷ 6 ∷ 21 ∷ [])
    (10 ∷ 5 ∷ 20 ∷ 10 ∷ 6 ∷ 21 ∷ []) (1 ∷ 2 ∷ [])
    ∷ {- two sources apart, with types: four lines -}
    weight_example rdfs 22 (10 ∷ 0 ∷ 8 ∷ 10 ∷ 5 ∷ 20 ∷ 11 ∷ 0 ∷ 8 ∷ 11 ∷ 6 ∷ 21 ∷ [])
    (10 ∷ 0 ∷ 8 ∷ 10 ∷ 5 ∷ 20 ∷ 11 ∷ 0 ∷ 8 ∷ 11 ∷ 6 ∷ 21 ∷ []) (1 ∷ 1 ∷ 1 ∷ 1 ∷ [])
    ∷ {- and with one triple more together: three -}
    weight_example rdfs 23 (10 ∷ 0 ∷ 8 ∷ 10 ∷ 5 ∷ 20 ∷ 10 ∷ 6 ∷ 22 ∷ 11 ∷ 0 ∷ 8 ∷ 11 ∷ 6 ∷ 21 ∷ [])
    (10 ∷ 0 ∷ 8 ∷ 10 ∷ 5 ∷ 20 ∷ 10 ∷ 6 ∷ 21 ∷ []) (2 ∷ 1 ∷ 2 ∷ [])
    ∷ {- types only -}
    weight_example rdfs 12 (10 ∷ 0 ∷ 8 ∷ 11 ∷ 0 ∷ 8 ∷ [])
    (10 ∷ 0 ∷ 8 ∷ []) (2 ∷ [])
    ∷ {- types with a data triple -}
    weight_example rdfs 13 (10 ∷ 0 ∷ 8 ∷ 10 ∷ 5 ∷ 12 ∷ 11 ∷ 0 ∷ 8 ∷ [])
    (10 ∷ 0 ∷ 8 ∷ 10 ∷ 5 ∷ 12 ∷ 11 ∷ 0 ∷ 8 ∷ []) (1 ∷ 1 ∷ 1 ∷ [])
    ∷ {- a class at an end -}
    weight_example rdfs 21 (10 ∷ 0 ∷ 8 ∷ 10 ∷ 5 ∷ 8 ∷ 11 ∷ 5 ∷ 8 ∷ 12 ∷ 5 ∷ 20 ∷ [])
    (10 ∷ 0 ∷ 8 ∷ 10 ∷ 5 ∷ 8 ∷ 10 ∷ 5 ∷ 20 ∷ []) (1 ∷ 2 ∷ 1 ∷ [])
    ∷ {- a class at a subject, and a schema triple -}
    weight_example rdfs 14 (8 ∷ 1 ∷ 9 ∷ 8 ∷ 5 ∷ 12 ∷ 8 ∷ 5 ∷ 13 ∷ 10 ∷ 0 ∷ 8 ∷ [])
    (8 ∷ 1 ∷ 9 ∷ 8 ∷ 5 ∷ 12 ∷ 10 ∷ 0 ∷ 8 ∷ []) (1 ∷ 2 ∷ 1 ∷ [])
    ∷ {- a word table that falls -}
    weight_example (vocabulary 9 8 7 6 5) 10 (0 ∷ 2 ∷ 3 ∷ 3 ∷ 9 ∷ 1 ∷ 4 ∷ 2 ∷ 3 ∷ 4 ∷ 9 ∷ 1 ∷ [])
    (0 ∷ 2 ∷ 3 ∷ 0 ∷ 9 ∷ 1 ∷ 3 ∷ 9 ∷ 1 ∷ []) (2 ∷ 1 ∷ 1 ∷ [])
    ∷ []

-- triples in rising order, as an intake holds them, with their own roster, and the removal of one of them: its place, and the lines of the summary
-- afterwards, how many triples each stands for, and the map. 02: "Classes may fall apart, nodes may vanish from the map, and a node may come back
-- to the typed-only class."
pub record RemovalExample : Type 0 where
  pub words : Vocabulary
  pub size : ℕ
  pub held : List ℕ
  pub removed : Triple
  pub place : ℕ
  pub lines : List ℕ
  pub counts : List ℕ
  pub representatives : List ℕ

unfoldable pub removal_right : RemovalExample → Bool
removal_right g =
    let v = g.words in
    let H = triples g.held in
    let own = own_roster v g.size H in
    let outcome = judged_removal H g.removed in
    let rest = held_then outcome g.removed H in
    not (any (λ (c : Check). c.fails) (table_checks v false g.held own))
    && (equal (flat (sorted H)) g.held
    && (eqb (place_of outcome) g.place
    && (equal (flat (summary v own rest)) g.lines
    && (equal (weights v own rest) g.counts
    && equal (map_of v own rest) g.representatives))))

unfoldable pub all_removals_right : List RemovalExample → Bool
all_removals_right gs = all removal_right gs

abbrev pub removal : Vocabulary → ℕ → List ℕ → Triple → ℕ → List ℕ → List ℕ → List ℕ → RemovalExample
removal v n h t k l w m = record { words = v; size = n; held = h; removed = t; place = k; lines = l; counts = w; representatives = m }

abbrev pub removals : List RemovalExample
removals =
    {- the middle of a chain: all four nodes were one class, whose line weighed 3; both ends stay nodes and the line keeps two, but the class falls apart -}
    removal rdfs 11 (5 ∷ 8 ∷ 7 ∷ 7 ∷ 8 ∷ 9 ∷ 9 ∷ 8 ∷ 10 ∷ []) (triple 7 8 9) 1
    (5 ∷ 8 ∷ 7 ∷ []) (2 ∷ [])
    (absent ∷ absent ∷ absent ∷ absent ∷ absent ∷ 5 ∷ absent ∷ 7 ∷ absent ∷ 5 ∷ 7 ∷ [])
    ∷ {- a loop: the line weighed 2, the subject keeps the property and both ends stay nodes, but 8 leaves the class of 5 -}
    removal rdfs 9 (5 ∷ 6 ∷ 5 ∷ 5 ∷ 6 ∷ 8 ∷ []) (triple 5 6 5) 0
    (5 ∷ 6 ∷ 8 ∷ []) (1 ∷ [])
    (absent ∷ absent ∷ absent ∷ absent ∷ absent ∷ 5 ∷ absent ∷ absent ∷ 8 ∷ [])
    ∷ {- the only data triple: 11 comes back to the typed-only class, and 12 vanishes -}
    removal rdfs 13 (10 ∷ 0 ∷ 8 ∷ 11 ∷ 0 ∷ 9 ∷ 11 ∷ 5 ∷ 12 ∷ []) (triple 11 5 12) 2
    (10 ∷ 0 ∷ 8 ∷ 10 ∷ 0 ∷ 9 ∷ []) (1 ∷ 1 ∷ [])
    (absent ∷ absent ∷ absent ∷ absent ∷ absent ∷ absent ∷ absent ∷ absent ∷ 8 ∷ 9 ∷ 10 ∷ 10 ∷ absent ∷ [])
    ∷ {- the last triple of the smallest code: another represents the class -}
    removal rdfs 13 (10 ∷ 5 ∷ 12 ∷ 11 ∷ 5 ∷ 12 ∷ []) (triple 10 5 12) 0
    (11 ∷ 5 ∷ 12 ∷ []) (1 ∷ [])
    (absent ∷ absent ∷ absent ∷ absent ∷ absent ∷ absent ∷ absent ∷ absent ∷ absent ∷ absent ∷ absent ∷ 11 ∷ 12 ∷ [])
    ∷ {- the last triple of all -}
    removal rdfs 12 (10 ∷ 5 ∷ 11 ∷ []) (triple 10 5 11) 0
    [] []
    (absent ∷ absent ∷ absent ∷ absent ∷ absent ∷ absent ∷ absent ∷ absent ∷ absent ∷ absent ∷ absent ∷ absent ∷ [])
    ∷ {- one of four with one image: its line weighs one less, and nothing else changes -}
    removal rdfs 10 (6 ∷ 5 ∷ 8 ∷ 6 ∷ 5 ∷ 9 ∷ 7 ∷ 5 ∷ 8 ∷ 7 ∷ 5 ∷ 9 ∷ []) (triple 6 5 9) 1
    (6 ∷ 5 ∷ 8 ∷ []) (3 ∷ [])
    (absent ∷ absent ∷ absent ∷ absent ∷ absent ∷ absent ∷ 6 ∷ 6 ∷ 8 ∷ 8 ∷ [])
    ∷ {- the only one with its image: the line goes, and the map stays -}
    removal rdfs 9 (6 ∷ 1 ∷ 7 ∷ 6 ∷ 1 ∷ 8 ∷ 7 ∷ 1 ∷ 8 ∷ []) (triple 6 1 8) 1
    (6 ∷ 1 ∷ 7 ∷ 7 ∷ 1 ∷ 8 ∷ []) (1 ∷ 1 ∷ [])
    (absent ∷ absent ∷ absent ∷ absent ∷ absent ∷ absent ∷ 6 ∷ 7 ∷ 8 ∷ [])
    ∷ {- other reserved codes: 4 comes back to the typed-only class, and 2 vanishes -}
    removal (vocabulary 9 8 7 6 5) 10 (3 ∷ 9 ∷ 1 ∷ 4 ∷ 0 ∷ 2 ∷ 4 ∷ 9 ∷ 1 ∷ []) (triple 4 0 2) 1
    (3 ∷ 9 ∷ 1 ∷ []) (2 ∷ [])
    (absent ∷ 1 ∷ absent ∷ 3 ∷ 3 ∷ absent ∷ absent ∷ absent ∷ absent ∷ absent ∷ [])
    ∷ []
