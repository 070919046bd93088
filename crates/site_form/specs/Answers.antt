-- The answers in what the site printer prints: one line a query.
-- Assumes nothing.
use Rattle.std.specs.Prelude.{ℕ, ◌<◌, ◌≡◌, ◌↔◌, true, false, List, [], ◌++◌, length, get_or}
use Rattle.std.proofs.Math.Option.{some}
use Rattle.model.specs.declared.Triple.{Triple}
use Rattle.model.specs.declared.Vocabulary.{Vocabulary}
use Rattle.model.specs.Lists.{collect}
use Rattle.model.specs.Outcomes.{accepted}
use Rattle.query.specs.declared.Query.{Query}
use Rattle.query.specs.Ask.{retired}
use Rattle.query.specs.Match.{Choice}
use Rattle.site_form.specs.Reading.{Forms, loaded, read_forms, query_of}
use Rattle.site_form.specs.Printing.{maybe_line, none_line, retired_line, report, summary_of, representatives_of, print_outcome}

-- the line printed for a query
pub record QueryLine (v : Vocabulary) (ts : List Triple) (map : List ℕ) (q : Query) (line : List ℕ) : Type 0 where
  pub retires : (line ≡ retired_line) ↔ (retired v q ≡ true)
  -- 02: "Whatever is shown of maybe, none, .. holds for the queries left."
  pub maybe : retired v q ≡ false → (line ≡ maybe_line) ↔ Choice ts map q
  pub none : retired v q ≡ false → (line ≡ none_line) ↔ (Choice ts map q → ⊥)

-- behind the summary and the map stands one line for each query, in the queries' order
pub record AnswerLines (f : Forms) (out : List ℕ) : Type 0 where
  pub answers : List (List ℕ)
  pub one_each : length answers ≡ length f.asks
  pub behind : out ≡ report (summary_of f) (representatives_of f) [] ++ collect (λ line. line) answers
  pub lines : (k : ℕ) → k < length f.asks
      → QueryLine (loaded f.words) (summary_of f) (representatives_of f) (query_of (get_or f.asks k [])) (get_or answers k [])

-- 02: "the printer writes `(ask retired)` for it and goes on with the next, in the same sequence"
-- whatever is printed but a refusal has these lines
abbrev pub RetiredPrinted : Type 0
RetiredPrinted = (text out : List ℕ) → print_outcome text ≡ accepted out → (f : Forms) × (read_forms text ≡ some f) × AnswerLines f out
