-- Queries as lists of numbers.
-- A flat query has 41 numbers: the count, and for each of eight patterns the kind and value of its subject, its property, and the
-- kind and value of its object. Kind 0 is a variable, kind 1 a code.
-- Assumes nothing.
use Rattle.std.specs.Prelude.{ℕ, ◌+◌, ◌*◌, ◌<◌, ◌≡◌, cond, List, [], ◌∷◌, ◌++◌, eqb, length, get_or, take, drop}
use Rattle.model.specs.Lists.{collect, tabulate}
use Rattle.query.specs.declared.End.{End}
use Rattle.query.specs.declared.End.TheVariants.{Var, Code}
use Rattle.query.specs.declared.Pattern.{Pattern}
use Rattle.query.specs.declared.Query.{Query}
use Rattle.query.specs.Ask.{pattern_at}
use Rattle.site_form.specs.Reading.{read_site}

-- ── numbers to a query ──
-- Another kind than 0 and 1 gives a variable over 7, so that ask refuses it in a counted pattern, with 6 and in its place.
unfoldable pub end_of : ℕ → ℕ → End
end_of kind value = cond (eqb kind 0) (Var value) (cond (eqb kind 1) (Code value) (Var 8))

-- the pattern whose five numbers begin at index i
unfoldable pub pattern_from : List ℕ → ℕ → Pattern
pattern_from l i =
    record {
      subject = end_of (get_or l i 0) (get_or l (i + 1) 0);
      property = get_or l (i + 2) 0;
      object = end_of (get_or l (i + 3) 0) (get_or l (i + 4) 0);
    }

-- the pattern at place k of a flat query
abbrev pub flat_pattern : List ℕ → ℕ → Pattern
flat_pattern l k = pattern_from l (5 * k + 1)

-- the query that 41 numbers stand for
unfoldable pub flat_query : List ℕ → Query
flat_query l = record { patterns = tabulate (flat_pattern l) 0 8; count = get_or l 0 0 }

-- ── a query to numbers ──
-- the two numbers of an end, the five of a pattern, the 41 of a query
unfoldable pub end_numbers : End → List ℕ
end_numbers (Var v) = 0 ∷ v ∷ []
end_numbers (Code c) = 1 ∷ c ∷ []

unfoldable pub pattern_numbers : Pattern → List ℕ
pattern_numbers p = end_numbers p.subject ++ p.property ∷ end_numbers p.object

unfoldable pub query_numbers : Query → List ℕ
query_numbers q = q.count ∷ collect pattern_numbers (tabulate (pattern_at q) 0 8)

-- the k-th of some queries
abbrev pub query_at : List Query → ℕ → Query
query_at qs k = get_or qs k (record { patterns = []; count = 0 })

-- sixteen queries, 656 numbers
unfoldable pub flat_queries : List Query → List ℕ
flat_queries qs = collect query_numbers (tabulate (query_at qs) 0 16)

-- ── nothing is lost ──
-- the query of a query's numbers is the query
abbrev pub FlatIsFaithful : Type 0
FlatIsFaithful = (q : Query) → length q.patterns ≡ 8 → flat_query (query_numbers q) ≡ q

-- what was read can be asked: the k-th 41 numbers that reading leaves are the k-th query of the text
abbrev pub ReadCanBeAsked : Type 0
ReadCanBeAsked = (text list : List ℕ) (k : ℕ) → k < 16
    → flat_query (take 41 (drop (41 * k) (flat_queries (read_site text list).queries))) ≡ query_at (read_site text list).queries k
