-- The site form: what the text of a size, reserved codes, triples and queries is.
-- Assumes nothing.
use Rattle.std.specs.Prelude.{ℕ, zero, suc, ◌+◌, ◌/◌, ◌%◌, ◌≤◌, ◌≡◌, cond, ltb, length}
use Prim.Native.Char.{code}
use Prim.Native.String.{String}
use mathlib.Core.List.{List, [], ◌∷◌, ◌++◌, Memᴰ as Mem}
use Rattle.std.proofs.Math.Option.{Option, none, some}
use Rattle.model.specs.declared.Triple.{Triple}
use Rattle.model.specs.declared.Vocabulary.{Vocabulary}
use Rattle.model.specs.Lists.{collect}
use Rattle.query.specs.declared.End.{End}
use Rattle.query.specs.declared.End.TheVariants.{Var, Code}
use Rattle.query.specs.declared.Pattern.{Pattern}

-- the bytes of a text in ASCII: 40 is "(", 41 is ")", 32 is a space, 48 is "0", "\n" is byte 10
abbrev pub bytes : String → List ℕ
bytes String.[] = []
bytes (String.◌∷◌ c s) = code c ∷ bytes s

-- the decimal digits of n, at most so many
unfoldable pub digits : ℕ → ℕ → List ℕ
digits zero n = []
digits (suc k) n =
    let longer = digits k (n / 10) ++ ((48 + n % 10) ∷ []) in
    cond (ltb n 10) ((48 + n) ∷ []) longer

-- 01: "numbers of u32 without leading zeros"
unfoldable pub numeral : ℕ → List ℕ
numeral n = digits (suc n) n

abbrev pub largest : ℕ
largest = 4294967295

-- 01: "One bracketed form a line, single spaces as shown, each line ended by byte 10"
-- 01: "a line `(site N)`"
unfoldable pub site_line : ℕ → List ℕ
site_line n = bytes "(site " ++ (numeral n ++ bytes ")\n")

-- 02: "a second line `(words A B C D E)` in that sequence"
unfoldable pub words_line : Vocabulary → List ℕ
words_line v =
    bytes "(words "
    ++ (numeral v.instance
    ++ (bytes " "
    ++ (numeral v.subclass
    ++ (bytes " " ++ (numeral v.subproperty ++ (bytes " " ++ (numeral v.domain ++ (bytes " " ++ (numeral v.range ++ bytes ")\n")))))))))

-- the line may be left out
unfoldable pub words_text : Option Vocabulary → List ℕ
words_text none = []
words_text (some v) = words_line v

-- 01: "`(t S P O)`"
unfoldable pub triple_line : Triple → List ℕ
triple_line t =
    bytes "(t " ++ (numeral t.subject ++ (bytes " " ++ (numeral t.property ++ (bytes " " ++ (numeral t.object ++ bytes ")\n")))))

-- 01: "an end `(v K)` or `(c CODE)`"
unfoldable pub end_text : End → List ℕ
end_text (Var k) = bytes "(v " ++ (numeral k ++ bytes ")")
end_text (Code c) = bytes "(c " ++ (numeral c ++ bytes ")")

-- 01: "A pattern is `(END P END)`"
unfoldable pub pattern_text : Pattern → List ℕ
pattern_text p =
    bytes "(" ++ (end_text p.subject ++ (bytes " " ++ (numeral p.property ++ (bytes " " ++ (end_text p.object ++ bytes ")")))))

-- a pattern with the space before it
unfoldable pub next_pattern : Pattern → List ℕ
next_pattern p = bytes " " ++ pattern_text p

-- 01: "`(ask PATTERN ...)`"
unfoldable pub ask_line : List Pattern → List ℕ
ask_line ps = bytes "(ask" ++ (collect next_pattern ps ++ bytes ")\n")

-- 01: "In this sequence: a line `(site N)`, up to 1,000 `(t S P O)`, up to 16 `(ask PATTERN ...)`"
-- 02: and the line of the reserved codes behind the first, if it stands
unfoldable pub site_text : ℕ → Option Vocabulary → List Triple → List (List Pattern) → List ℕ
site_text n w ts qs = site_line n ++ (words_text w ++ (collect triple_line ts ++ collect ask_line qs))

abbrev pub most_lines : ℕ
most_lines = 1000

abbrev pub most_asks : ℕ
most_asks = 16

abbrev pub most_patterns : ℕ
most_patterns = 8

-- 01: "numbers of u32"
abbrev pub U32 : ℕ → Type 0
U32 n = n ≤ largest

pub record WordsU32 (v : Vocabulary) : Type 0 where
  pub instance : U32 v.instance
  pub subclass : U32 v.subclass
  pub subproperty : U32 v.subproperty
  pub domain : U32 v.domain
  pub range : U32 v.range

-- the codes of a line that stands
abbrev pub LineU32 : Option Vocabulary → Type 0
LineU32 w = (v : Vocabulary) → w ≡ some v → WordsU32 v

pub record TripleU32 (t : Triple) : Type 0 where
  pub subject : U32 t.subject
  pub property : U32 t.property
  pub object : U32 t.object

abbrev pub EndU32 : End → Type 0
EndU32 (Var k) = U32 k
EndU32 (Code c) = U32 c

pub record PatternU32 (p : Pattern) : Type 0 where
  pub subject : EndU32 p.subject
  pub property : U32 p.property
  pub object : EndU32 p.object

-- 01: "`(ask PATTERN ...)` with one to eight patterns"
pub record AskForm (ps : List Pattern) : Type 0 where
  pub some : 1 ≤ length ps
  pub few : length ps ≤ most_patterns
  pub numbers : (p : Pattern) → Mem p ps → PatternU32 p

-- the text is in the site form, and says this size, these reserved codes (none: it has no such line), these triples and these queries
pub record SiteForm (text : List ℕ) (n : ℕ) (w : Option Vocabulary) (ts : List Triple) (qs : List (List Pattern)) : Type 0 where
  pub says : text ≡ site_text n w ts qs
  pub size : U32 n
  pub words : LineU32 w
  pub few_triples : length ts ≤ most_lines
  pub triples : (t : Triple) → Mem t ts → TripleU32 t
  pub few_asks : length qs ≤ most_asks
  pub asks : (ps : List Pattern) → Mem ps qs → AskForm ps
