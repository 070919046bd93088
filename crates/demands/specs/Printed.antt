-- The queries of a text that the site printer gets as far as.
-- Assumes nothing.
use Rattle.std.specs.Prelude.{ℕ, ◌≤◌, ◌≡◌, Bool, false, cond, List, length}
use Rattle.std.proofs.Math.Option.{some}
use Rattle.model.specs.Codes.{wrong_words}
use Rattle.model.specs.Lists.{any}
use Rattle.model.specs.Triples.{flat}
use Rattle.model.specs.Roster.{wrong_codes}
use Rattle.model.specs.Outcomes.{wrong_size}
use Rattle.query.specs.Ask.{wrong_query}
use Rattle.site_form.specs.Reading.{Forms, loaded, read_forms, query_of}
use Rattle.site_form.specs.Printing.{most_bytes, largest_printed, printer_slots, report, refused_line}
use Rattle.site_form.specs.Printing.{saturated_of, summary_of, representatives_of, answers_of, printed}
use Rattle.site_form.specs.Answers.{AnswerLines}
use Rattle.demands.specs.Routes.{Asks}

-- N, the words, the codes and the saturation's length are right
pub record RightForms (f : Forms) : Type 0 where
  pub size : wrong_size f.size ≡ false
  pub words : wrong_words (loaded f.words) f.size ≡ false
  pub codes : wrong_codes (loaded f.words) f.size f.triples ≡ false
  pub slots : length (saturated_of f) ≤ printer_slots

-- 01: "It checks in the order 8, 1, 3, 5, 6.": a text of which 8, 1, 10, 3 and 5 have passed
pub record ReachesQueries (text : List ℕ) (f : Forms) : Type 0 where
  pub short : length text ≤ most_bytes
  pub reads : read_forms text ≡ some f
  pub printable : f.size ≤ largest_printed
  pub right : RightForms f

-- one of all the queries is wrong
abbrev pub any_wrong : Forms → Bool
any_wrong f = any (λ ps. wrong_query f.size (query_of ps)) f.asks

-- Of right forms ask refuses a query with 6 or 12 only.
abbrev pub AskRefusesQueries : Type 0
AskRefusesQueries = (f : Forms) → RightForms f → Asks (loaded f.words) (flat (summary_of f)) (representatives_of f)

-- Of a text that gets as far `(refused 6)` alone is printed where one of all the queries is wrong, and else the report: a retired query
-- refuses no text.
abbrev pub SixForWrong : Type 0
SixForWrong =
    (text : List ℕ) (f : Forms) → ReachesQueries text f
    → printed text ≡ cond (any_wrong f) (refused_line 6) (report (summary_of f) (representatives_of f) (answers_of f))

-- 02: "Stored site files that hold one are still read: the printer writes `(ask retired)` for it and goes on with the next, in the same
-- sequence." A text that gets as far, and has no wrong query, is printed with one line for each query, whichever of them are retired.
abbrev pub RetiredRead : Type 0
RetiredRead = (text : List ℕ) (f : Forms) → ReachesQueries text f → any_wrong f ≡ false → AnswerLines f (printed text)
