-- What the functions require and ensure: find and union require some test A with a forest; each ensures its result for every such A.
-- Assumes nothing.
use Rattle.std.specs.Prelude.{ℕ, ◌<◌, ◌≤◌, Bool, true, false, ◌≡◌, List, length, get_or}
use Rattle.union_find.specs.Roots.{Forest, Kept, root, merge}

-- x is a code of a forest in l
pub record Active (l : List ℕ) (x : ℕ) : Type 0 where
  pub A : ℕ → Bool
  pub forest : Forest A l
  pub active : A x ≡ true

-- r is the root of x, and all roots are kept
pub record RootFound (l l' : List ℕ) (x r : ℕ) : Type 0 where
  pub result : r ≡ root l x
  pub keeps : (A : ℕ → Bool) → Forest A l → A x ≡ true → Kept A l l' (root l)

-- a and b are codes of one forest in l
pub record ActivePair (l : List ℕ) (a b : ℕ) : Type 0 where
  pub A : ℕ → Bool
  pub forest : Forest A l
  pub left : A a ≡ true
  pub right : A b ≡ true

-- the classes of a and b are one, and the others are kept
pub record United (l l' : List ℕ) (a b : ℕ) : Type 0 where
  pub keeps : (A : ℕ → Bool) → Forest A l → A a ≡ true → A b ≡ true → Kept A l l' (merge (root l) a b)

-- a forest in which no other entry is less than its index
pub record Apart (A : ℕ → Bool) (l : List ℕ) : Type 0 where
  pub forest : Forest A l
  pub rest : (x : ℕ) → x < length l → A x ≡ false → x ≤ get_or l x 0

-- each code's parent is its root, and the other entries are the same
pub record Flattened (l l' : List ℕ) : Type 0 where
  pub len : length l' ≡ length l
  pub roots : (A : ℕ → Bool) → Apart A l → (x : ℕ) → A x ≡ true → get_or l' x 0 ≡ root l x
  pub others : (A : ℕ → Bool) → Apart A l → (x : ℕ) → A x ≡ false → get_or l' x 0 ≡ get_or l x 0
