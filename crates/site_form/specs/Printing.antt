-- What the site printer prints of a text.
-- Assumes nothing.
use Rattle.std.specs.Prelude.{ℕ, Bool, true, false, cond, not, ◌||◌, ◌≡◌, List, [], ◌∷◌, ◌++◌, map, eqb, ltb, length}
use Rattle.std.proofs.Math.Option.{Option, none, some}
use Rattle.model.specs.declared.Triple.{Triple}
use Rattle.model.specs.declared.Vocabulary.{Vocabulary}
use Rattle.model.specs.Codes.{absent, wrong_words}
use Rattle.model.specs.Lists.{any, collect, tabulate}
use Rattle.model.specs.Triples.{flat}
use Rattle.model.specs.Roster.{own_roster, wrong_codes}
use Rattle.model.specs.Saturation.{saturation}
use Rattle.model.specs.Partition.{label}
use Rattle.model.specs.Classes.{map_of}
use Rattle.model.specs.Summary.{summary}
use Rattle.model.specs.Outcomes.{Outcome, refused, accepted, check, checked, wrong_size}
use Rattle.query.specs.declared.Pattern.{Pattern}
use Rattle.query.specs.Ask.{ask_outcome}
use Rattle.site_form.specs.Text.{bytes, numeral, triple_line}
use Rattle.site_form.specs.Reading.{Forms, loaded, read_forms, query_of}

-- 01: "reads at most 32,768 bytes from standard input (more is 8)"
abbrev pub most_bytes : ℕ
most_bytes = 32768

-- 01: "N at most 512 (else 1)"
abbrev pub largest_printed : ℕ
largest_printed = 512

-- 01: "saturates into 2,048 slots with the own roster"
abbrev pub printer_slots : ℕ
printer_slots = 2048

-- ── lines ──
-- 01: "it prints the triple count"
unfoldable pub summary_line : ℕ → List ℕ
summary_line count = bytes "(summary " ++ (numeral count ++ bytes ")\n")

-- a code with its representative
unfoldable pub pair_line : ℕ → ℕ → List ℕ
pair_line c r = bytes "(rep " ++ (numeral c ++ (bytes " " ++ (numeral r ++ bytes ")\n")))

-- 01: "for each node in rising order its code with its representative"
unfoldable pub node_line : List ℕ → ℕ → List ℕ
node_line representatives c = cond (eqb (label representatives c) absent) [] (pair_line c (label representatives c))

unfoldable pub node_lines : List ℕ → List ℕ
node_lines representatives = collect (node_line representatives) (tabulate (λ c. c) 0 (length representatives))

-- 01: "The answer is "maybe" exactly if some choice of nodes for the variables puts every pattern in the table, else "none"."
abbrev pub maybe_line : List ℕ
maybe_line = bytes "(ask maybe)\n"

abbrev pub none_line : List ℕ
none_line = bytes "(ask none)\n"

-- 02: "the printer writes `(ask retired)` for it"
abbrev pub retired_line : List ℕ
retired_line = bytes "(ask retired)\n"

-- the line of what ask says of a query; with any other refusal than 12 the text is refused with 6 and no line is printed
unfoldable pub answer_line : Outcome Bool → List ℕ
answer_line (refused r) = cond (eqb r 12) retired_line []
answer_line (accepted true) = maybe_line
answer_line (accepted false) = none_line

-- 01: "prints the summary, its map and the query answers"
unfoldable pub report : List Triple → List ℕ → List (Outcome Bool) → List ℕ
report triples representatives answers =
    summary_line (length triples) ++ (collect triple_line triples ++ (node_lines representatives ++ collect answer_line answers))

unfoldable pub refused_line : ℕ → List ℕ
refused_line r = bytes "(refused " ++ (numeral r ++ bytes ")\n")

-- 01: "or `(refused R)` alone"
unfoldable pub shown : Outcome (List ℕ) → List ℕ
shown (refused r) = refused_line r
shown (accepted lines) = lines

-- ── checks ──
-- ask refuses the query, and not because it is retired: 02, "Stored site files that hold one are still read"
abbrev pub is_wrong : Outcome Bool → Bool
is_wrong (refused r) = not (eqb r 12)
is_wrong (accepted b) = false

-- 01: "It checks in the order 8, 1, 3, 5, 6."; 02: 10 straight after 1
-- 1, 10, 3, 5 and 6, with the saturation, its summary and map, and what ask says of each query
unfoldable pub print_checked : Vocabulary → ℕ → (triples saturated summarised : List Triple) → List ℕ → List (Outcome Bool) → Outcome (List ℕ)
print_checked v n triples saturated summarised representatives answers =
    checked
    (check 1 (wrong_size n || ltb largest_printed n)
    ∷ check 10 (wrong_words v n)
    ∷ check 3 (wrong_codes v n triples)
    ∷ check 5 (ltb printer_slots (length saturated))
    ∷ check 6 (any is_wrong answers)
    ∷ [])
    (report summarised representatives answers)

-- the queries are asked of the summary and its map
unfoldable pub query_answers : Vocabulary → List Triple → List ℕ → List (List Pattern) → List (Outcome Bool)
query_answers v summarised representatives qs = map (λ ps. ask_outcome v (flat summarised) representatives (query_of ps)) qs

-- the saturation of a text's triples, its summary and its map, with the own roster
abbrev pub saturated_of : Forms → List Triple
saturated_of f = saturation (loaded f.words) f.size f.triples

abbrev pub own_roster_of : Forms → List ℕ
own_roster_of f = own_roster (loaded f.words) f.size f.triples

abbrev pub summary_of : Forms → List Triple
summary_of f = summary (loaded f.words) (own_roster_of f) (saturated_of f)

abbrev pub representatives_of : Forms → List ℕ
representatives_of f = map_of (loaded f.words) (own_roster_of f) (saturated_of f)

-- what ask says of each query of a text
abbrev pub answers_of : Forms → List (Outcome Bool)
answers_of f = query_answers (loaded f.words) (summary_of f) (representatives_of f) f.asks

unfoldable pub print_forms : Forms → Outcome (List ℕ)
print_forms f = print_checked (loaded f.words) f.size f.triples (saturated_of f) (summary_of f) (representatives_of f) (answers_of f)

abbrev pub print_read : Option Forms → Outcome (List ℕ)
print_read none = refused 8
print_read (some f) = print_forms f

unfoldable pub print_outcome : List ℕ → Outcome (List ℕ)
print_outcome text = cond (ltb most_bytes (length text)) (refused 8) (print_read (read_forms text))

-- what is printed of the text on standard input
unfoldable pub printed : List ℕ → List ℕ
printed text = shown (print_outcome text)

-- 3 comes before 5 and 6: with a wrong code neither the saturation nor the queries matter
abbrev pub CodesBeforeQueries : Type 0
CodesBeforeQueries =
    (v : Vocabulary) (n : ℕ) (triples saturated summarised : List Triple) (representatives : List ℕ) (answers : List (Outcome Bool))
    → (wrong_size n || ltb largest_printed n) ≡ false
    → wrong_words v n ≡ false
    → wrong_codes v n triples ≡ true
    → print_checked v n triples saturated summarised representatives answers ≡ refused 3
