-- Marks and how they grow.
-- Assumes nothing.
use Rattle.std.specs.Prelude.{ℕ, cond, List, [], ◌∷◌, eqb, get_or, set}
use Rattle.model.specs.declared.Triple.{Triple}
use Rattle.model.specs.declared.Vocabulary.{Vocabulary}
use Rattle.model.specs.Roster.{class_roles, property_roles}

-- a mark that also says class, or property
unfoldable pub with_class : ℕ → ℕ
with_class m = cond (eqb m 0) 1 (cond (eqb m 2) 3 m)

unfoldable pub with_property : ℕ → ℕ
with_property m = cond (eqb m 0) 2 (cond (eqb m 1) 3 m)

-- the roster with one more class, or property
unfoldable pub class_marked : List ℕ → ℕ → List ℕ
class_marked roster c = set roster c (with_class (get_or roster c 0))

unfoldable pub property_marked : List ℕ → ℕ → List ℕ
property_marked roster c = set roster c (with_property (get_or roster c 0))

-- with each of a list of codes
unfoldable pub all_marked : (List ℕ → ℕ → List ℕ) → List ℕ → List ℕ → List ℕ
all_marked mark roster [] = roster
all_marked mark roster (c ∷ cs) = mark (all_marked mark roster cs) c

module _ (v : Vocabulary) where
  -- with each role of a triple, and of a list of triples
  unfoldable pub roles_marked : List ℕ → Triple → List ℕ
  roles_marked roster t = all_marked property_marked (all_marked class_marked roster (class_roles v t)) (property_roles v t)

  unfoldable pub table_marked : List ℕ → List Triple → List ℕ
  table_marked roster [] = roster
  table_marked roster (t ∷ ts) = table_marked (roles_marked roster t) ts
