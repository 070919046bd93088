-- A list of parents in which the codes of a test A are a forest. The other entries hold other numbers.
-- Assumes nothing.
use Rattle.std.specs.Prelude.{ℕ, zero, suc, ◌<◌, ◌≤◌, min, max, Bool, true, false, cond, ◌≡◌, List, eqb, ltb, length, get_or}
use Rattle.model.specs.Codes.{absent}

unfoldable pub climb : ℕ → List ℕ → ℕ → ℕ
climb zero l x = x
climb (suc k) l x = cond (ltb (get_or l x 0) x) (climb k l (get_or l x 0)) x

-- the last code on the way from x along smaller and smaller parents; x steps are enough
unfoldable pub root : List ℕ → ℕ → ℕ
root l x = climb x l x

-- two classes become one: the codes whose root was the larger of the two now have the smaller
unfoldable pub merge : (ℕ → ℕ) → ℕ → ℕ → ℕ → ℕ
merge f a b y = cond (eqb (f y) (max (f a) (f b))) (min (f a) (f b)) (f y)

-- the parent of a code of A is a code of A, and not greater
pub record Forest (A : ℕ → Bool) (l : List ℕ) : Type 0 where
  pub size : length l ≤ absent
  pub inside : (x : ℕ) → A x ≡ true → x < length l
  pub falls : (x : ℕ) → A x ≡ true → get_or l x 0 ≤ x
  pub links : (x : ℕ) → A x ≡ true → A (get_or l x 0) ≡ true

-- l' is l with other parents: f gives the roots, and the entries outside A are the same
pub record Kept (A : ℕ → Bool) (l l' : List ℕ) (f : ℕ → ℕ) : Type 0 where
  pub forest : Forest A l'
  pub len : length l' ≡ length l
  pub others : (x : ℕ) → A x ≡ false → get_or l' x 0 ≡ get_or l x 0
  pub roots : (x : ℕ) → A x ≡ true → root l' x ≡ f x
