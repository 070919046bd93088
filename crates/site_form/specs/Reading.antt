-- The reader of the site form, and what the call `read` returns and leaves.
-- Assumes nothing.
use Rattle.std.specs.Prelude.{ℕ, zero, suc, ◌+◌, ◌-◌, ◌*◌, ◌≡◌, ◌↔◌, Bool, true, false, cond, ◌&&◌, List, [], ◌∷◌, ◌++◌, map, eqb, leb, ltb, length, drop, replicate, Result, Ok, Err}
use Rattle.std.proofs.Math.Option.{Option, none, some}
use Rattle.model.specs.declared.Triple.{Triple}
use Rattle.model.specs.declared.Refusal.{Refusal}
use Rattle.model.specs.declared.Vocabulary.{Vocabulary}
use Rattle.model.specs.Codes.{rdfs, vocabulary}
use Rattle.model.specs.Triples.{triple, slots, listed}
use Rattle.model.specs.Outcomes.{Outcome, refused, accepted, refusal_number, check, checked, left}
use Rattle.query.specs.declared.End.{End}
use Rattle.query.specs.declared.End.TheVariants.{Var, Code}
use Rattle.query.specs.declared.Pattern.{Pattern}
use Rattle.query.specs.declared.Query.{Query}
use Rattle.query.specs.Ask.{blank, counted_patterns}
use Rattle.site_form.specs.declared.Site.{Site}
use Rattle.site_form.specs.Text.{bytes, largest, most_lines, most_asks, most_patterns, SiteForm}

-- what a reader answers: no form, or a form and the place after it
pub data Step (A : Type 0) : Type 0 where
  bad : Step A
  got : A → ℕ → Step A

-- a reader takes the text and a place in it
abbrev pub Reader : Type 0 → Type 0
Reader A = List ℕ → ℕ → Step A

module _ {A B : Type 0} where
  abbrev pub and_then : Step A → (A → ℕ → Step B) → Step B
  and_then bad k = bad
  and_then (got x i) k = k x i

  infixl 20 ◌>>=◌
  infixl 20 ◌>>◌
  -- one form, then what follows it
  unfoldable pub ◌>>=◌ : Reader A → (A → Reader B) → Reader B
  ◌>>=◌ r k text at = and_then (r text at) (λ x i. k x text i)

  abbrev pub ◌>>◌ : Reader A → Reader B → Reader B
  r >> k = r >>= (λ x. k)

module _ {A : Type 0} where
  unfoldable pub give : A → Reader A
  give x text at = got x at

  abbrev pub or_else : Step A → Step A → Step A
  or_else bad s = s
  or_else (got x i) s = got x i

  infixl 15 ◌or◌
  -- the first form, or else the second
  unfoldable pub ◌or◌ : Reader A → Reader A → Reader A
  ◌or◌ r s text at = or_else (r text at) (s text at)

  abbrev pub given_else : Step A → ℕ → Step (Option A)
  given_else bad at = got none at
  given_else (got x i) at = got (some x) i

  -- the form, if it stands here
  unfoldable pub optional : Reader A → Reader (Option A)
  optional r text at = given_else (r text at) at

  abbrev pub while_got : Step A → (A → ℕ → Step (List A)) → Step (List A) → Step (List A)
  while_got bad k stop = stop
  while_got (got x i) k stop = k x i

  -- the forms that follow one another, at most so many
  unfoldable pub many : ℕ → Reader A → Reader (List A)
  many zero r text at = got [] at
  many (suc k) r text at = while_got (r text at) (λ x i. and_then (many k r text i) (λ xs j. got (x ∷ xs) j)) (got [] at)

-- ── bytes and numbers ──
unfoldable pub begins : List ℕ → List ℕ → Bool
begins [] s = true
begins (w ∷ ws) [] = false
begins (w ∷ ws) (b ∷ bs) = eqb w b && begins ws bs

-- these bytes
unfoldable pub word : List ℕ → Reader (Unit {0})
word w text at = cond (begins w (drop at text)) (got tt (at + length w)) bad

-- the end of the text
unfoldable pub text_end : Reader (Unit {0})
text_end text at = cond (leb (length text) at) (got tt at) bad

unfoldable pub digit : ℕ → Bool
digit b = leb 48 b && ltb b 58

unfoldable pub digit_first : List ℕ → Bool
digit_first [] = false
digit_first (b ∷ bs) = digit b

-- the digits that follow the value v; the next byte stands at a place
unfoldable pub more_of : ℕ → ℕ → List ℕ → Step ℕ
more_of v at [] = got v at
more_of v at (b ∷ bs) =
    let longer = more_of (v * 10 + (b - 48)) (suc at) bs in
    cond (digit b) (cond (ltb largest (v * 10 + (b - 48))) bad longer) (got v at)

-- a number whose first byte is the list's, at a place; a 0 that a digit follows is none
unfoldable pub number_of : ℕ → List ℕ → Step ℕ
number_of at [] = bad
number_of at (b ∷ bs) = cond (digit b) (cond (eqb b 48) (cond (digit_first bs) bad (got 0 (suc at))) (more_of (b - 48) (suc at) bs)) bad

-- 01: "numbers of u32 without leading zeros"
unfoldable pub number : Reader ℕ
number text at = number_of at (drop at text)

-- ── the forms ──
-- 01: "each line ended by byte 10"
unfoldable pub line_end : Reader (Unit {0})
line_end = word (bytes ")\n")

-- 01: "a line `(site N)`"
unfoldable pub site_reader : Reader ℕ
site_reader = do
  word (bytes "(site ")
  n ← number
  line_end
  give n

-- 02: "`(words A B C D E)` in that sequence"
unfoldable pub words_reader : Reader Vocabulary
words_reader = do
  word (bytes "(words ")
  a ← number
  word (bytes " ")
  b ← number
  word (bytes " ")
  c ← number
  word (bytes " ")
  d ← number
  word (bytes " ")
  e ← number
  line_end
  give (vocabulary a b c d e)

-- 01: "`(t S P O)`"
unfoldable pub triple_reader : Reader Triple
triple_reader = do
  word (bytes "(t ")
  s ← number
  word (bytes " ")
  p ← number
  word (bytes " ")
  o ← number
  line_end
  give (triple s p o)

unfoldable pub end_in : List ℕ → (ℕ → End) → Reader End
end_in opening make = do
  word opening
  k ← number
  word (bytes ")")
  give (make k)

-- 01: "an end `(v K)` or `(c CODE)`"
unfoldable pub end_reader : Reader End
end_reader = end_in (bytes "(v ") Var or end_in (bytes "(c ") Code

abbrev pub pattern : End → ℕ → End → Pattern
pattern s p o = record { subject = s; property = p; object = o }

-- 01: "A pattern is `(END P END)`"
unfoldable pub pattern_reader : Reader Pattern
pattern_reader = do
  word (bytes "(")
  s ← end_reader
  word (bytes " ")
  p ← number
  word (bytes " ")
  o ← end_reader
  word (bytes ")")
  give (pattern s p o)

unfoldable pub next_reader : Reader Pattern
next_reader = do
  word (bytes " ")
  pattern_reader

-- 01: "`(ask PATTERN ...)` with one to eight patterns": one, and up to seven more
unfoldable pub ask_reader : Reader (List Pattern)
ask_reader = do
  word (bytes "(ask")
  p ← next_reader
  ps ← many 7 next_reader
  line_end
  give (p ∷ ps)

-- what a text says: the reserved codes if they stand, the triples as they stand, and the counted patterns of each query
pub record Forms : Type 0 where
  pub size : ℕ
  pub words : Option Vocabulary
  pub triples : List Triple
  pub asks : List (List Pattern)

abbrev pub forms : ℕ → Option Vocabulary → List Triple → List (List Pattern) → Forms
forms n w ts qs = record { size = n; words = w; triples = ts; asks = qs }

-- 01: "In this sequence: a line `(site N)`, up to 1,000 `(t S P O)`, up to 16 `(ask PATTERN ...)`"
-- 02: "The site form takes a second line `(words A B C D E)` in that sequence"
unfoldable pub forms_reader : Reader Forms
forms_reader = do
  n ← site_reader
  w ← optional words_reader
  ts ← many most_lines triple_reader
  qs ← many most_asks ask_reader
  text_end
  give (forms n w ts qs)

abbrev pub value : {A : Type 0} → Step A → Option A
value bad = none
value (got x i) = some x

-- 01: "The reader takes each form or refuses the text."
unfoldable pub read_forms : List ℕ → Option Forms
read_forms text = value (forms_reader text 0)

-- The reader takes exactly the texts of the site form, and gives what they say.
pub record ReadsExactly : Type 0 where
  pub takes : (text : List ℕ) (n : ℕ) (w : Option Vocabulary) (ts : List Triple) (qs : List (List Pattern)) → (read_forms text ≡ some (forms n w ts qs)) ↔ SiteForm text n w ts qs
  pub refuses : (text : List ℕ) → (read_forms text ≡ none) ↔ ((n : ℕ) (w : Option Vocabulary) (ts : List Triple) (qs : List (List Pattern)) → SiteForm text n w ts qs → ⊥)

-- ── the call ──
-- 01: "the queries by value, uncounted patterns being `((v 0) 0 (v 0))`"
unfoldable pub query_of : List Pattern → Query
query_of ps = record { patterns = ps ++ replicate (most_patterns - length ps) blank; count = length ps }

unfoldable pub queries_of : List (List Pattern) → List Query
queries_of qs = map query_of qs ++ replicate (most_asks - length qs) (query_of [])

-- a query by value counts the patterns of its line
abbrev pub CountsPatterns : Type 0
CountsPatterns = (ps : List Pattern) → counted_patterns (query_of ps) ≡ ps

-- 02: "without it 0 to 4 hold"
abbrev pub loaded : Option Vocabulary → Vocabulary
loaded none = rdfs
loaded (some v) = v

unfoldable pub site_of : Forms → Site
site_of f = record { size = f.size; words = loaded f.words; count = length f.triples; asks = length f.asks; queries = queries_of f.asks }

-- 01: "with a refusal N is 0 and there are no queries", and 02: the codes are 0 to 4
abbrev pub no_forms : Forms
no_forms = forms 0 none [] []

-- 01: "reading 8, then 5"
abbrev pub outcome_of : Option Forms → List ℕ → Outcome Site
outcome_of none list = refused 8
outcome_of (some f) list = checked (check 5 (ltb (slots list) (length f.triples)) ∷ []) (site_of f)

unfoldable pub read_outcome : List ℕ → List ℕ → Outcome Site
read_outcome text list = outcome_of (read_forms text) list

-- the outcome that an answer of the call stands for
abbrev pub answered : Result Site Refusal → Outcome Site
answered (Ok site) = accepted site
answered (Err r) = refused (refusal_number r)

abbrev pub site_in : Outcome Site → Site
site_in (refused r) = site_of no_forms
site_in (accepted s) = s

unfoldable pub read_site : List ℕ → List ℕ → Site
read_site text list = site_in (read_outcome text list)

abbrev pub triples_in : Option Forms → List Triple
triples_in none = []
triples_in (some f) = f.triples

-- 01: "the triples as they stand in the text, repeats too"
unfoldable pub read_list : List ℕ → List ℕ → List ℕ
read_list text list = left (read_outcome text list) list (listed (length list) (triples_in (read_forms text)))
