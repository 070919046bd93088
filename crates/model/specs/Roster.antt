-- Rosters: marks, what covers a table, the own roster, and nodes.
-- 01: "The roster holds one byte per code: 0 unmarked, 1 class, 2 property, 3 both; entries 0 to 4 are 0."; 02: "Every place that named 0 to 4 reads
-- the loaded five, the roster's zero entries .. too"
-- Assumes nothing.
use Rattle.std.specs.Prelude.{ℕ, ◌+◌, Bool, cond, not, ◌&&◌, ◌||◌, List, [], ◌∷◌, eqb, leb, ltb, get_or}
use Rattle.model.specs.declared.Triple.{Triple}
use Rattle.model.specs.declared.Vocabulary.{Vocabulary}
use Rattle.model.specs.Codes.{codes, kind, reserved}
use Rattle.model.specs.Lists.{any, all, among, tabulate}

abbrev pub mark : List ℕ → ℕ → ℕ
mark roster c = get_or roster c 0

unfoldable pub is_class : ℕ → Bool
is_class m = eqb m 1 || eqb m 3

unfoldable pub is_property : ℕ → Bool
is_property m = eqb m 2 || eqb m 3

unfoldable pub unmarked : List ℕ → ℕ → Bool
unmarked roster c = eqb (mark roster c) 0

-- 01's table of roles: for each kind, type, subclass, subproperty, domain, range, and data after them, the codes that stand in a
-- class role and in a property role
abbrev pub class_row : Triple → ℕ → List ℕ
class_row t k =
    get_or
    ((t.object ∷ [])
    ∷ (t.subject ∷ t.object ∷ [])
    ∷ []
    ∷ (t.object ∷ [])
    ∷ (t.object ∷ [])
    ∷ [])
    k []

abbrev pub property_row : Triple → ℕ → List ℕ
property_row t k =
    get_or
    ([]
    ∷ []
    ∷ (t.subject ∷ t.object ∷ [])
    ∷ (t.subject ∷ [])
    ∷ (t.subject ∷ [])
    ∷ [])
    k (t.property ∷ [])

module _ (v : Vocabulary) where
  unfoldable pub class_roles : Triple → List ℕ
  class_roles t = class_row t (kind v t.property)

  unfoldable pub property_roles : Triple → List ℕ
  property_roles t = property_row t (kind v t.property)

  -- 01: "It covers a table if each role below is marked, and may mark more."
  unfoldable pub covers_triple : List ℕ → Triple → Bool
  covers_triple roster t =
      all (λ c. is_class (mark roster c)) (class_roles t)
      && all (λ c. is_property (mark roster c)) (property_roles t)

  unfoldable pub covers : List ℕ → List Triple → Bool
  covers roster ts = all (covers_triple roster) ts

  unfoldable pub class_in : List Triple → ℕ → Bool
  class_in ts c = any (λ t. among c (class_roles t)) ts

  unfoldable pub property_in : List Triple → ℕ → Bool
  property_in ts c = any (λ t. among c (property_roles t)) ts

  -- 01: "the smallest roster covering a table"
  unfoldable pub own_roster : ℕ → List Triple → List ℕ
  own_roster n ts = tabulate (λ c. cond (class_in ts c) 1 0 + cond (property_in ts c) 2 0) 0 n

  -- 01, refusal 2: "a roster value over 3, or a reserved code marked"
  unfoldable pub wrong_roster : List ℕ → Bool
  wrong_roster roster = any (λ m. ltb 3 m) roster || any (λ c. not (unmarked roster c)) (codes v)

  -- 01, refusal 3: "a code of a triple not below N, or reserved as subject or object"
  unfoldable pub wrong_end : ℕ → ℕ → Bool
  wrong_end n c = leb n c || reserved v c

  unfoldable pub wrong_triple : ℕ → Triple → Bool
  wrong_triple n t = wrong_end n t.subject || (leb n t.property || wrong_end n t.object)

  unfoldable pub wrong_codes : ℕ → List Triple → Bool
  wrong_codes n ts = any (wrong_triple n) ts

-- 01: "A node is a code that is subject or object of a triple."
unfoldable pub is_node : List Triple → ℕ → Bool
is_node ts c = any (λ t. eqb c t.subject || eqb c t.object) ts
