-- What the list of a side holds on the way from the groups of the properties to the cliques of the data nodes.
-- Assumes nothing.
use Rattle.std.specs.Prelude.{ℕ, ◌<◌, ◌≤◌, ◌≡◌, ◌⊎◌, Bool, true, false, cond, List, eqb, length, get_or}
use Rattle.model.specs.Codes.{absent}
use Rattle.model.specs.Roster.{unmarked}
use Rattle.union_find.specs.Roots.{Forest, root}

-- the entries below i that pass the test are x, and those that do not are as they were
pub record EntriesFilled (test : ℕ → Bool) (x : ℕ) (l l' : List ℕ) (i : ℕ) : Type 0 where
  pub size : length l' ≡ length l
  pub passed : (c : ℕ) → c < i → test c ≡ true → get_or l' c 0 ≡ x
  pub rest : (c : ℕ) → test c ≡ false → get_or l' c 0 ≡ get_or l c 0

-- marked codes are a forest of properties, and the entry of an unmarked code is one of them or absent
pub record FirstProperties (A : ℕ → Bool) (roster l : List ℕ) : Type 0 where
  pub size : length l ≡ length roster
  pub forest : Forest A l
  pub marked : (p : ℕ) → A p ≡ true → unmarked roster p ≡ false
  pub held : (c : ℕ) → c < length l → unmarked roster c ≡ true → (get_or l c 0 ≡ absent) ⊎ (A (get_or l c 0) ≡ true)

-- the label of an unmarked code: the root of its property, or none
unfoldable pub label_of : ℕ → List ℕ → ℕ → ℕ
label_of none l c = cond (eqb (get_or l c 0) absent) none (root l (get_or l c 0))

-- the unmarked codes below i have their labels, and the others are as they were; so are the roots
pub record NodesLabelled (A : ℕ → Bool) (roster : List ℕ) (none : ℕ) (l l' : List ℕ) (i : ℕ) : Type 0 where
  pub size : length l' ≡ length l
  pub forest : Forest A l'
  pub roots : (x : ℕ) → A x ≡ true → root l' x ≡ root l x
  pub done : (c : ℕ) → c < i → unmarked roster c ≡ true → get_or l' c 0 ≡ label_of none l c
  pub rest : (c : ℕ) → i ≤ c → unmarked roster c ≡ true → get_or l' c 0 ≡ get_or l c 0

-- the state in which the codes below i have their labels
pub record Labelling (A : ℕ → Bool) (roster : List ℕ) (none : ℕ) (l₀ l : List ℕ) (i : ℕ) : Type 0 where
  pub start : FirstProperties A roster l₀
  pub state : NodesLabelled A roster none l₀ l i

pub record SomeLabelling (roster : List ℕ) (none : ℕ) (l : List ℕ) (i : ℕ) : Type 0 where
  pub A : ℕ → Bool
  pub before : List ℕ
  pub labelling : Labelling A roster none before l i

pub record SomeProperties (roster l : List ℕ) : Type 0 where
  pub A : ℕ → Bool
  pub start : FirstProperties A roster l
