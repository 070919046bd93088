-- The examples of the site printer: 01's text, printed with the triples that 02 adds, and texts with retired queries.
-- Assumes nothing.
use Rattle.std.specs.Prelude.{ℕ, ◌≡◌, true, false, List, [], ◌∷◌, ◌++◌}
use Prim.Native.String.{String}
use Rattle.model.specs.Codes.{absent, rdfs}
use Rattle.model.specs.Lists.{collect}
use Rattle.model.specs.Outcomes.{accepted}
use Rattle.query.specs.declared.End.TheVariants.{Var}
use Rattle.query.specs.declared.Pattern.{Pattern}
use Rattle.query.specs.Ask.{ask_outcome}
use Rattle.site_form.specs.Text.{bytes}
use Rattle.site_form.specs.Reading.{pattern, query_of}
use Rattle.site_form.specs.Printing.{printed}

-- "each line ended by byte 10"
unfoldable pub lines : List String → List ℕ
lines ls = collect (λ l. bytes l ++ bytes "\n") ls

-- the bytes of the signs and letters that the site form and the printer use
abbrev pub SignBytes : Type 0
SignBytes =
    bytes "() 0123456789\nabcdefghijklmnopqrstuvwxyz"
    ≡ 40 ∷ 41 ∷ 32 ∷ 48 ∷ 49 ∷ 50 ∷ 51 ∷ 52 ∷ 53 ∷ 54 ∷ 55 ∷ 56 ∷ 57 ∷ 10
    ∷ 97 ∷ 98 ∷ 99 ∷ 100 ∷ 101 ∷ 102 ∷ 103 ∷ 104 ∷ 105 ∷ 106 ∷ 107 ∷ 108 ∷ 109 ∷ 110 ∷ 111 ∷ 112 ∷ 113 ∷ 114 ∷ 115 ∷ 116 ∷ 117 ∷ 118 ∷ 119 ∷ 120 ∷ 121 ∷ 122 ∷ []

-- 01: "Given"
abbrev pub given_lines : List String
given_lines =
    "(site 14)"
    ∷ "(t 5 2 7)"
    ∷ "(t 6 2 7)"
    ∷ "(t 7 3 8)"
    ∷ "(t 8 1 9)"
    ∷ "(t 10 5 12)"
    ∷ "(t 11 6 13)"
    ∷ []

abbrev pub first_query : String
first_query = "(ask ((v 0) 5 (v 1)) ((v 0) 6 (v 2)))"

abbrev pub second_query : String
second_query = "(ask ((v 0) 7 (v 1)) ((v 1) 7 (v 2)))"

abbrev pub given_queries : List String
given_queries = first_query ∷ second_query ∷ []

-- 01: "it prints the triple count, the triples, for each node in rising order its code with its representative"
-- 02: "The printed example now has 14 triples in its summary, the new ones being 5 3 8, 5 3 9, 6 3 8, 6 3 9 and 7 3 9"
abbrev pub printed_lines : List String
printed_lines =
    "(summary 14)"
    ∷ "(t 5 2 7)"
    ∷ "(t 5 3 8)"
    ∷ "(t 5 3 9)"
    ∷ "(t 6 2 7)"
    ∷ "(t 6 3 8)"
    ∷ "(t 6 3 9)"
    ∷ "(t 7 3 8)"
    ∷ "(t 7 3 9)"
    ∷ "(t 8 1 9)"
    ∷ "(t 10 0 8)"
    ∷ "(t 10 0 9)"
    ∷ "(t 10 5 12)"
    ∷ "(t 10 6 12)"
    ∷ "(t 10 7 12)"
    ∷ "(rep 5 5)"
    ∷ "(rep 6 6)"
    ∷ "(rep 7 7)"
    ∷ "(rep 8 8)"
    ∷ "(rep 9 9)"
    ∷ "(rep 10 10)"
    ∷ "(rep 11 10)"
    ∷ "(rep 12 12)"
    ∷ "(rep 13 12)"
    ∷ []

-- 01: "and the answers in the queries' order"
abbrev pub answer_lines : List String
answer_lines = "(ask maybe)" ∷ "(ask none)" ∷ []

-- the summary and the map of the example
abbrev pub example_summary : List ℕ
example_summary =
    5 ∷ 2 ∷ 7 ∷ 5 ∷ 3 ∷ 8 ∷ 5 ∷ 3 ∷ 9 ∷ 6 ∷ 2 ∷ 7 ∷ 6 ∷ 3 ∷ 8 ∷ 6 ∷ 3 ∷ 9 ∷ 7 ∷ 3 ∷ 8 ∷ 7 ∷ 3 ∷ 9 ∷ 8 ∷ 1 ∷ 9 ∷ 10 ∷ 0 ∷ 8 ∷ 10 ∷ 0 ∷ 9 ∷ 10 ∷ 5 ∷ 12 ∷ 10 ∷ 6 ∷ 12 ∷ 10 ∷ 7 ∷ 12 ∷ []

abbrev pub example_map : List ℕ
example_map = absent ∷ absent ∷ absent ∷ absent ∷ absent ∷ 5 ∷ 6 ∷ 7 ∷ 8 ∷ 9 ∷ 10 ∷ 10 ∷ 12 ∷ 12 ∷ []

abbrev pub variables : ℕ → ℕ → ℕ → Pattern
variables s p o = pattern (Var s) p (Var o)

abbrev pub first_ask : List Pattern
first_ask = variables 0 5 1 ∷ variables 0 6 2 ∷ []

abbrev pub second_ask : List Pattern
second_ask = variables 0 7 1 ∷ variables 1 7 2 ∷ []

-- what ask says of the two queries
pub record ExampleAnswers : Type 0 where
  pub first : ask_outcome rdfs example_summary example_map (query_of first_ask) ≡ accepted true
  pub second : ask_outcome rdfs example_summary example_map (query_of second_ask) ≡ accepted false

-- 01's example without its queries
abbrev pub PrintsGraph : Type 0
PrintsGraph = printed (lines given_lines) ≡ lines printed_lines

-- 01's example
abbrev pub PrintsExample : Type 0
PrintsExample = printed (lines (given_lines ++ given_queries)) ≡ lines (printed_lines ++ answer_lines)

-- The same with queries between the two: about subclass, about type, and with domain as the second pattern's property.
abbrev pub retired_queries : List String
retired_queries =
    first_query
    ∷ "(ask ((v 0) 1 (v 1)))"
    ∷ "(ask ((v 0) 0 (v 1)))"
    ∷ "(ask ((v 0) 5 (v 1)) ((v 1) 3 (v 2)))"
    ∷ second_query
    ∷ []

-- 02: "the printer writes `(ask retired)` for it and goes on with the next, in the same sequence"
abbrev pub retired_answers : List String
retired_answers = "(ask maybe)" ∷ "(ask retired)" ∷ "(ask maybe)" ∷ "(ask retired)" ∷ "(ask none)" ∷ []

-- And with a wrong query behind them, which 6 finds before anything is printed.
abbrev pub wrong_queries : List String
wrong_queries = retired_queries ++ "(ask ((v 9) 5 (v 1)))" ∷ []

-- A text that loads subclass at 0, which is the property of uncounted patterns, and type at 4.
abbrev pub loaded_lines : List String
loaded_lines =
    "(site 12)"
    ∷ "(words 4 0 1 2 3)"
    ∷ "(t 10 5 11)"
    ∷ "(ask ((v 0) 5 (v 1)))"
    ∷ "(ask ((v 0) 0 (v 1)))"
    ∷ "(ask ((v 0) 4 (v 1)))"
    ∷ []

abbrev pub loaded_printed : List String
loaded_printed =
    "(summary 1)"
    ∷ "(t 10 5 11)"
    ∷ "(rep 10 10)"
    ∷ "(rep 11 11)"
    ∷ "(ask maybe)"
    ∷ "(ask retired)"
    ∷ "(ask none)"
    ∷ []

pub record PrintsRetired : Type 0 where
  pub goes_on : printed (lines (given_lines ++ retired_queries)) ≡ lines (printed_lines ++ retired_answers)
  pub wrong_first : printed (lines (given_lines ++ wrong_queries)) ≡ lines ("(refused 6)" ∷ [])
  pub by_loaded_words : printed (lines loaded_lines) ≡ lines loaded_printed
