-- The ten rules as one table of small records, and what the rules derive.
-- 01: "Six rules, each a line of one constant table"
-- 02: "Four rules join the six. Rule 7: a subproperty b, b domain c give a domain c. Rule 8: the same for range. Rule 9: a domain c,
-- c subclass d give a domain d. Rule 10: the same for range."
-- Assumes nothing.
use Rattle.std.specs.Prelude.{ℕ, ◌≡◌, Bool, true, ◌&&◌, ◌||◌, eqb, get_or}
use mathlib.Core.List.{List, [], ◌∷◌, Memᴰ as Mem}
use Rattle.model.specs.declared.Rule as walked
use Rattle.model.specs.declared.Place.{Place}
use Rattle.model.specs.declared.Place.TheVariants.{FirstSubject, FirstProperty, FirstObject, SecondSubject, SecondProperty, SecondObject, Instance}
use Rattle.model.specs.declared.Triple.{Triple}
use Rattle.model.specs.declared.Vocabulary.{Vocabulary}
use Rattle.model.specs.Codes.{kind, word_number, kind_number}
use Rattle.model.specs.Triples.{triple}

-- first premise's kind, second premise's kind (5: any), the two places that hold one code,
-- and the places of the conclusion's subject, property and object
pub record Rule : Type 0 where
  pub first : ℕ
  pub second : ℕ
  pub left : ℕ
  pub right : ℕ
  pub subject : ℕ
  pub property : ℕ
  pub object : ℕ

abbrev pub rule : ℕ → ℕ → ℕ → ℕ → ℕ → ℕ → ℕ → Rule
rule f g l r s p o = record { first = f; second = g; left = l; right = r; subject = s; property = p; object = o }

-- the number of a place
unfoldable pub place_number : Place → ℕ
place_number FirstSubject = 0
place_number FirstProperty = 1
place_number FirstObject = 2
place_number SecondSubject = 3
place_number SecondProperty = 4
place_number SecondObject = 5
place_number Instance = 6

-- the code's line of the table in numbers
unfoldable pub numbered : walked.Rule → Rule
numbered r =
    record {
      first = word_number r.first;
      second = kind_number r.second;
      left = place_number r.left;
      right = place_number r.right;
      subject = place_number r.subject;
      property = place_number r.property;
      object = place_number r.object;
    }

--     rule      first             second            gives
-- 1 rdfs2   a domain c        s a o             s type c
-- 2 rdfs3   a range c         s a o             o type c
-- 3 rdfs5   a subproperty b   b subproperty c   a subproperty c
-- 4 rdfs7   a subproperty b   s a o             s b o
-- 5 rdfs9   c subclass d      s type c          s type d
-- 6 rdfs11  c subclass d      d subclass e      c subclass e
-- 7         a subproperty b   b domain c        a domain c
-- 8         a subproperty b   b range c         a range c
-- 9         a domain c        c subclass d      a domain d
-- 10        a range c         c subclass d      a range d
abbrev pub rules : List Rule
rules =
    rule 3 5 0 4 3 6 2
    ∷ rule 4 5 0 4 5 6 2
    ∷ rule 2 2 2 3 0 1 5
    ∷ rule 2 5 0 4 3 2 5
    ∷ rule 1 0 0 5 3 4 2
    ∷ rule 1 1 2 3 0 1 5
    ∷ rule 2 3 2 3 0 4 5
    ∷ rule 2 4 2 3 0 4 5
    ∷ rule 3 1 2 3 0 1 5
    ∷ rule 4 1 2 3 0 1 5
    ∷ []

module _ (v : Vocabulary) where
  -- the code at a place: 0 1 2 are the first premise's subject, property, object, 3 4 5 the second's, 6 is the code of type
  unfoldable pub place : Triple → Triple → ℕ → ℕ
  place a b k =
      get_or (a.subject ∷ a.property ∷ a.object ∷ b.subject ∷ b.property ∷ b.object ∷ []) k v.instance

  -- the two triples are premises of the rule, in this order
  unfoldable pub fits : Rule → Triple → Triple → Bool
  fits r a b =
      eqb (kind v a.property) r.first
      && ((eqb r.second 5 || eqb (kind v b.property) r.second)
      && eqb (place a b r.left) (place a b r.right))

  -- what the rule then gives
  unfoldable pub gives : Rule → Triple → Triple → Triple
  gives r a b = triple (place a b r.subject) (place a b r.property) (place a b r.object)

  -- 01: "Saturation is the least set that contains the table and is closed under them."
  -- 02: "Saturation means the closure under all ten from here on"
  -- A triple is derived if it is given, or a line of the table gives it from two derived triples.
  pub data Derives (G : Triple → Type 0) : Triple → Type 0 where
    given : {t : Triple} → G t → Derives G t
    by_rule : {t : Triple} (r : Rule) (a b : Triple) → Mem r rules → fits r a b ≡ true → t ≡ gives r a b → Derives G a → Derives G b → Derives G t
