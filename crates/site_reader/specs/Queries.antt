-- The contracts of the readers of queries.
-- Assumes nothing.
use Rattle.std.specs.Prelude.{ℕ, ◌+◌, ◌≡◌, List, ◌∷◌, length, set}
use Rattle.query.specs.declared.Pattern.{Pattern}
use Rattle.query.specs.declared.Query.{Query}
use Rattle.site_form.specs.Text.{most_asks}
use Rattle.site_form.specs.Reading.{Step, many, next_reader, ask_reader, query_of, queries_of}
use Rattle.site_tokens.specs.declared.Read.{Read}
use Rattle.site_tokens.specs.Steps.{items, after}

-- the query with one pattern more
abbrev pub with_pattern : Query → Pattern → Query
with_pattern q p = record { patterns = set q.patterns q.count p; count = q.count + 1 }

-- up to seven patterns behind the first
abbrev pub more_patterns : List ℕ → ℕ → Step (List Pattern)
more_patterns text at = many 7 next_reader text at

pub record PatternsFrom (text : List ℕ) (at : ℕ) (first : Pattern) (r : Read Query) : Type 0 where
  pub query : r.value ≡ query_of (first ∷ items (more_patterns text at))
  pub next : r.next ≡ after (more_patterns text at)

abbrev pub ask_lines : List ℕ → ℕ → Step (List (List Pattern))
ask_lines text at = many most_asks ask_reader text at

pub record AsksFrom (text : List ℕ) (at : ℕ) (r : Read ℕ) (left : List Query) : Type 0 where
  pub count : r.value ≡ length (items (ask_lines text at))
  pub next : r.next ≡ after (ask_lines text at)
  pub queries : left ≡ queries_of (items (ask_lines text at))
