-- What a clique list holds while the triples of a table are gone through: the entries of marked codes are a forest of the
-- properties seen, and the entry of an unmarked code is a property that this node has.
-- Assumes nothing.
use Rattle.std.specs.Prelude.{ℕ, ◌<◌, ◌≡◌, ◌⊎◌, Bool, true, false, cond, List, eqb, length, get_or, set}
use Rattle.model.specs.declared.Vocabulary.{Vocabulary}
use Rattle.model.specs.Codes.{absent}
use Rattle.model.specs.Roster.{unmarked}
use Rattle.model.specs.declared.Side.{Side}
use Rattle.model.specs.Cliques.{Graph, Has, Clique}
use Rattle.lists.specs.Flat.{Before}
use Rattle.union_find.specs.Roots.{Forest, root}
use Rattle.union_find.specs.Calls.{ActivePair, United}

-- a property that is seen for the first time is a group of its own
unfoldable pub group_opened : List ℕ → ℕ → List ℕ
group_opened l p = cond (eqb (get_or l p 0) absent) (set l p p) l

-- the property p can be linked at the node n
pub record Linkable (l : List ℕ) (n p : ℕ) : Type 0 where
  pub inside : n < length l
  pub pair : (get_or l n 0 ≡ absent → ⊥) → ActivePair l (get_or l n 0) p

-- the first property of a node is held there, and each later one joins its group
pub record NodeLinked (l l' : List ℕ) (n p : ℕ) : Type 0 where
  pub first : get_or l n 0 ≡ absent → l' ≡ set l n p
  pub later : (get_or l n 0 ≡ absent → ⊥) → United l l' (get_or l n 0) p

-- the entries of the unmarked codes below i are absent, and those of the marked codes as they were
pub record NodesCleared (roster l l' : List ℕ) (i : ℕ) : Type 0 where
  pub size : length l' ≡ length l
  pub nodes : (x : ℕ) → x < i → unmarked roster x ≡ true → get_or l' x 0 ≡ absent
  pub rest : (x : ℕ) → unmarked roster x ≡ false → get_or l' x 0 ≡ get_or l x 0

module _ (v : Vocabulary) where
  -- A are the properties of G at this side; those of one node have one root, and a property and its root are in one clique of H
  pub record Grouping (roster : List ℕ) (e : Side) (A : ℕ → Bool) (H G : Graph) (l : List ℕ) : Type 0 where
    pub size : length l ≡ length roster
    pub forest : Forest A l
    pub marked : (p : ℕ) → A p ≡ true → unmarked roster p ≡ false
    pub sound : (p : ℕ) → A p ≡ true → Clique v roster H e p (root l p)
    pub none : (p : ℕ) → p < length l → unmarked roster p ≡ false → A p ≡ false → get_or l p 0 ≡ absent
    pub first : (n p : ℕ) → Has v roster G e n p → (A p ≡ true) × (A (get_or l n 0) ≡ true) × (root l (get_or l n 0) ≡ root l p)
    pub held : (n : ℕ) → n < length l → unmarked roster n ≡ true → (get_or l n 0 ≡ absent) ⊎ Has v roster G e n (get_or l n 0)

  -- the list after the first i triples
  pub record Grouped (table roster : List ℕ) (e : Side) (i : ℕ) (l : List ℕ) : Type 0 where
    pub active : ℕ → Bool
    pub state : Grouping roster e active (Before table i) (Before table i) l
