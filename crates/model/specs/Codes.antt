-- Codes, and the vocabulary of reserved codes.
-- Assumes nothing.
use Rattle.std.specs.Prelude.{ℕ, Bool, false, cond, not, ◌&&◌, ◌||◌, List, [], ◌∷◌, eqb, leb, ltb, get_or}
use Rattle.model.specs.Lists.{any}
use Rattle.std.specs.declared.option.Option.{Option}
use Rattle.std.specs.declared.option.Option.TheVariants.{None, Some}
use Rattle.model.specs.declared.Vocabulary.{Vocabulary}
use Rattle.model.specs.declared.Word.{Word}
use Rattle.model.specs.declared.Word.TheVariants.{Instance, Subclass, Subproperty, Domain, Range}

-- The five reserved codes are loaded by the customer: 02, "Replace the fixed five codes by a table the customer supplies: five codes for
-- type, subclass, subproperty, domain and range". Every definition that depends on them takes them first. (`instance` is the code of type.)

abbrev pub vocabulary : ℕ → ℕ → ℕ → ℕ → ℕ → Vocabulary
vocabulary a b c d e = record { instance = a; subclass = b; subproperty = c; domain = d; range = e }

-- 01's own: "0 type, 1 subclass, 2 subproperty, 3 domain, 4 range"
abbrev pub rdfs : Vocabulary
rdfs = vocabulary 0 1 2 3 4

abbrev pub codes : Vocabulary → List ℕ
codes v = v.instance ∷ v.subclass ∷ v.subproperty ∷ v.domain ∷ v.range ∷ []

-- 01: "The absent mark is 4,294,967,295, a constant that belongs to the code's own type."
abbrev pub absent : ℕ
absent = 4294967295

-- The kind of a triple with the property p: 0 to 4 for the reserved codes in the vocabulary's order, 5 for any other.
-- 01: "A triple with property 5 or more is a data triple, with 1 to 4 a schema triple."; 02: "a data triple is one whose property is none of
-- them".
unfoldable pub kind : Vocabulary → ℕ → ℕ
kind v p =
    cond (eqb p v.instance) 0
    (cond (eqb p v.subclass) 1
    (cond (eqb p v.subproperty) 2
    (cond (eqb p v.domain) 3
    (cond (eqb p v.range) 4 5))))

-- the kind that a word stands for, and none for data
unfoldable pub word_number : Word → ℕ
word_number Instance = 0
word_number Subclass = 1
word_number Subproperty = 2
word_number Domain = 3
word_number Range = 4

unfoldable pub kind_number : Option Word → ℕ
kind_number None = 5
kind_number (Some w) = word_number w

unfoldable pub reserved : Vocabulary → ℕ → Bool
reserved v c = ltb (kind v c) 5

-- subclass, subproperty, domain or range: 01, "with 1 to 4 a schema triple", by kind
unfoldable pub schema_property : Vocabulary → ℕ → Bool
schema_property v p = not (eqb (kind v p) 0) && reserved v p

-- the reserved code of a kind below 5
unfoldable pub code_of : Vocabulary → ℕ → ℕ
code_of v k = get_or (codes v) k v.instance

-- 02, refusal 10: "a word table in which two codes are equal or one is not below N"
unfoldable pub repeated : List ℕ → Bool
repeated [] = false
repeated (c ∷ cs) = any (λ x. eqb c x) cs || repeated cs

unfoldable pub wrong_words : Vocabulary → ℕ → Bool
wrong_words v n = any (λ c. leb n c) (codes v) || repeated (codes v)

-- 01: "N, the site size, is the roster's length, 5 to 65,536; valid codes are below N."
abbrev pub smallest_size : ℕ
smallest_size = 5

abbrev pub largest_size : ℕ
largest_size = 65536

-- 01: "at most 1,048,576 triples"
abbrev pub most_triples : ℕ
most_triples = 1048576
