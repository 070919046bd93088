-- The example is printed as the papers say, by computation.
-- Assumes nothing.
use Prim.Native.Nat.{ℕ}
use mathlib.Core.Path.{◌≡◌, refl, ◌∙◌}
use mathlib.Core.Bool.{Bool, true, false, cond}
use mathlib.Core.List.{List, [], ◌∷◌, ◌++◌}
use mathlib.Core.Option.{none, some}
use lib.Dec.{ltb}
use lib.ListN.{length}
use Rattle.model.specs.declared.Triple.{Triple}
use Rattle.model.specs.Codes.{rdfs, kind, reserved, schema_property, repeated, wrong_words}
use Rattle.model.specs.Lists.{any, all, collect, among, tabulate}
use Rattle.model.specs.Triples.{triples, flat, is_data, before, same, insert, sorted}
use Rattle.model.specs.Roster.{is_class, is_property, unmarked, class_roles, property_roles, class_in, property_in, own_roster, is_node, wrong_end, wrong_triple, wrong_codes}
use Rattle.model.specs.Rules.{place, fits, gives}
use Rattle.model.specs.Saturation.{conclusions, round, rounds, saturation}
use Rattle.model.specs.Partition.{union, merged, pairs}
use Rattle.model.specs.Cliques.{links, shares, has_clique, cliques}
use Rattle.model.specs.Classes.{together, clique_of, placed, map_by, map_of}
use Rattle.model.specs.Summary.{condensed, summary}
use Rattle.model.specs.Outcomes.{Outcome, refused, accepted, decided, wrong_size, wrong_length}
use Rattle.query.specs.declared.Pattern.{Pattern}
use Rattle.query.specs.Ask.{ask_outcome, ask_checks, wrong_query, wrong_pattern, wrong_pattern_end, counted_patterns, retired, search, tried, fit_triple, fit_end}
use Rattle.site_form.specs.Text.{digits, numeral, triple_line}
use Rattle.site_form.specs.Reading.{◌>>=◌, give, ◌or◌, optional, many, begins, word, text_end, digit, digit_first, more_of, number_of, number}
use Rattle.site_form.specs.Reading.{line_end, site_reader, words_reader, triple_reader, end_in, end_reader, pattern_reader, next_reader, ask_reader}
use Rattle.site_form.specs.Reading.{forms, forms_reader, read_forms, query_of}
use Rattle.site_form.specs.Printing.{summary_line, pair_line, node_line, node_lines, answer_line, report, refused_line, shown, is_wrong, print_checked, query_answers, print_forms, print_outcome, printed}
use Rattle.site_form.specs.Example.{SignBytes, lines, given_lines, given_queries, printed_lines, answer_lines, example_summary, example_map, first_ask}
use Rattle.site_form.specs.Example.{second_ask, variables, ExampleAnswers, PrintsGraph, PrintsExample, retired_queries, retired_answers, wrong_queries}
use Rattle.site_form.specs.Example.{loaded_lines, loaded_printed, PrintsRetired}

pub sign_bytes : SignBytes
sign_bytes = refl

-- the triples that the text gives
given : List Triple
unfolding triples
given = triples (5 ∷ 2 ∷ 7 ∷ 6 ∷ 2 ∷ 7 ∷ 7 ∷ 3 ∷ 8 ∷ 8 ∷ 1 ∷ 9 ∷ 10 ∷ 5 ∷ 12 ∷ 11 ∷ 6 ∷ 13 ∷ [])

-- ── reading ──
read-graph : read_forms (lines given_lines) ≡ some (forms 14 none given [])
unfolding lines collect given triples ◌>>=◌ give optional many begins word text_end digit digit_first more_of number_of number line_end site_reader words_reader triple_reader ask_reader forms_reader read_forms
read-graph = refl

read-example : read_forms (lines (given_lines ++ given_queries)) ≡ some (forms 14 none given (first_ask ∷ second_ask ∷ []))
unfolding lines collect given triples ◌>>=◌ give ◌or◌ optional many begins word text_end digit digit_first more_of number_of number line_end site_reader words_reader triple_reader end_in end_reader pattern_reader next_reader ask_reader forms_reader read_forms
read-example = refl

-- ── the graph ──
own : List ℕ
own = own_roster rdfs 14 given

saturated : List Triple
saturated = saturation rdfs 14 given

summarised : List Triple
unfolding triples
summarised = triples example_summary

summary-is : summary rdfs own saturated ≡ summarised
unfolding own saturated summarised given kind reserved any all collect among tabulate triples is_data before same insert sorted is_class is_property unmarked class_roles property_roles class_in property_in own_roster is_node place fits gives conclusions round rounds saturation union merged pairs links shares has_clique cliques together clique_of placed map_by map_of condensed
summary-is = refl

map_is : map_of rdfs own saturated ≡ example_map
unfolding own saturated given kind reserved any all collect among tabulate triples is_data before same insert sorted is_class is_property unmarked class_roles property_roles class_in property_in own_roster is_node place fits gives conclusions round rounds saturation union merged pairs links shares has_clique cliques together clique_of placed map_by map_of
map_is = refl

-- ── printing ──
-- the checks before 6 pass
checks_are : (answers : List (Outcome Bool)) → print_checked rdfs 14 given saturated summarised example_map answers ≡ cond (any is_wrong answers) (refused 6) (accepted (report summarised example_map answers))
unfolding print_checked decided wrong_size wrong_words repeated wrong_codes wrong_triple wrong_end any saturated given triples kind reserved collect before same insert sorted place fits gives conclusions round rounds saturation
checks_are answers = refl

graph-report : report summarised example_map [] ≡ lines printed_lines
unfolding report lines collect tabulate summarised triples triple_line summary_line pair_line node_line node_lines answer_line numeral digits
graph-report = refl

example-report : report summarised example_map (accepted true ∷ accepted false ∷ []) ≡ lines (printed_lines ++ answer_lines)
unfolding report lines collect tabulate summarised triples triple_line summary_line pair_line node_line node_lines answer_line numeral digits
example-report = refl

forms-printed : (qs : List (List Pattern)) → print_forms (forms 14 none given qs) ≡ print_checked rdfs 14 given saturated summarised example_map (query_answers rdfs summarised example_map qs)
unfolding print_forms own saturated
forms-printed qs = rw (summary-is, map_is)

text_printed : (text : List ℕ) (qs : List (List Pattern)) (answers : List (Outcome Bool)) (wrong : Bool) → ltb 32768 (length text) ≡ false
    → read_forms text ≡ some (forms 14 none given qs) → query_answers rdfs summarised example_map qs ≡ answers → any is_wrong answers ≡ wrong
    → printed text ≡ shown (cond wrong (refused 6) (accepted (report summarised example_map answers)))
unfolding printed print_outcome
text_printed text qs answers wrong short r a e = rw (short, r, forms-printed qs, a, checks_are answers, e)

pub prints_graph : PrintsGraph
unfolding query_answers any lines collect shown
prints_graph = text_printed (lines given_lines) [] [] false refl read-graph refl refl ∙ graph-report

answers : ExampleAnswers
unfolding ask_outcome ask_checks decided wrong_size wrong_words repeated wrong_length wrong_codes wrong_triple wrong_end any kind reserved triples wrong_query wrong_pattern wrong_pattern_end counted_patterns retired schema_property tabulate query_of search tried fit_triple fit_end
answers = record { first = refl; second = refl }

pub prints_example : PrintsExample
unfolding query_answers any lines collect shown summarised flat triples
prints_example =
    text_printed (lines (given_lines ++ given_queries)) (first_ask ∷ second_ask ∷ []) (accepted true ∷ accepted false ∷ []) false refl read-example
    (rw (answers.first, answers.second)) refl
    ∙ example-report

-- ── retired queries ──
abbrev retired_asks : List (List Pattern)
retired_asks = first_ask ∷ (variables 0 1 1 ∷ []) ∷ (variables 0 0 1 ∷ []) ∷ (variables 0 5 1 ∷ variables 1 3 2 ∷ []) ∷ second_ask ∷ []

abbrev wrong_ask : List Pattern
wrong_ask = variables 9 5 1 ∷ []

-- what ask says of them
abbrev said : List (Outcome Bool)
said = accepted true ∷ refused 12 ∷ accepted true ∷ refused 12 ∷ accepted false ∷ []

-- the two texts, read
record Read : Type 0 where
  goes_on : read_forms (lines (given_lines ++ retired_queries)) ≡ some (forms 14 none given retired_asks)
  wrong_first : read_forms (lines (given_lines ++ wrong_queries)) ≡ some (forms 14 none given (retired_asks ++ wrong_ask ∷ []))

read : Read
unfolding lines collect given triples ◌>>=◌ give ◌or◌ optional many begins word text_end digit digit_first more_of number_of number line_end site_reader words_reader triple_reader end_in end_reader pattern_reader next_reader ask_reader forms_reader read_forms
read = record { goes_on = refl; wrong_first = refl }

-- and asked
record Asked : Type 0 where
  goes_on : query_answers rdfs summarised example_map retired_asks ≡ said
  wrong_first : query_answers rdfs summarised example_map (retired_asks ++ wrong_ask ∷ []) ≡ said ++ refused 6 ∷ []

asked : Asked
unfolding query_answers summarised flat ask_outcome ask_checks decided wrong_size wrong_words repeated wrong_length wrong_codes wrong_triple wrong_end any kind reserved triples wrong_query wrong_pattern wrong_pattern_end counted_patterns retired schema_property tabulate query_of search tried fit_triple fit_end
asked = record { goes_on = refl; wrong_first = refl }

retired-report : report summarised example_map said ≡ lines (printed_lines ++ retired_answers)
unfolding report lines collect tabulate summarised triples triple_line summary_line pair_line node_line node_lines answer_line numeral digits
retired-report = refl

-- a small text with words of its own, computed whole
loaded-printed : printed (lines loaded_lines) ≡ lines loaded_printed
unfolding lines collect triples ◌>>=◌ give ◌or◌ optional many begins word text_end digit digit_first more_of number_of number line_end site_reader words_reader triple_reader end_in end_reader pattern_reader next_reader ask_reader forms_reader read_forms kind reserved any all among tabulate is_data before same insert sorted is_class is_property unmarked class_roles property_roles class_in property_in own_roster is_node place fits gives conclusions round rounds saturation union merged pairs links shares has_clique cliques together clique_of placed map_by map_of condensed print_checked decided wrong_size wrong_words repeated wrong_codes wrong_triple wrong_end report triple_line summary_line pair_line node_line node_lines answer_line numeral digits print_forms query_answers flat ask_outcome ask_checks wrong_length wrong_query wrong_pattern wrong_pattern_end counted_patterns retired schema_property query_of search tried fit_triple fit_end printed print_outcome shown
loaded-printed = refl

pub prints_retired : PrintsRetired
unfolding any lines collect shown refused_line numeral digits
prints_retired = record {
  goes_on = text_printed (lines (given_lines ++ retired_queries)) retired_asks said false refl read.goes_on asked.goes_on refl ∙ retired-report;
  wrong_first = text_printed (lines (given_lines ++ wrong_queries)) (retired_asks ++ wrong_ask ∷ []) (said ++ refused 6 ∷ []) true refl read.wrong_first asked.wrong_first refl;
  by_loaded_words = loaded-printed;
}
