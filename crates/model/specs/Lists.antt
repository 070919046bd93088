-- Lists: tests over all elements, how many pass, lists cut where one passes, all results of a function, the elements that pass, the values of a
-- function at 0, 1, .., sums, and the first number that passes a test.
-- Assumes nothing.
use Rattle.std.specs.Prelude.{ℕ, zero, suc, ◌+◌, ◌-◌, ◌<◌, ◌≤◌, ◌≡◌, Bool, true, false, cond, ◌&&◌, ◌||◌, List, [], ◌∷◌, ◌++◌, eqb, length, replicate}

module _ {A : Type 0} where
  unfoldable pub any : (A → Bool) → List A → Bool
  any f [] = false
  any f (x ∷ xs) = f x || any f xs

  unfoldable pub all : (A → Bool) → List A → Bool
  all f [] = true
  all f (x ∷ xs) = f x && all f xs

  -- how many elements pass the test
  unfoldable pub how_many : (A → Bool) → List A → ℕ
  how_many f [] = 0
  how_many f (x ∷ xs) = cond (f x) 1 0 + how_many f xs

  -- the elements before the first that passes; all where none does
  unfoldable pub take_until : (A → Bool) → List A → List A
  take_until f [] = []
  take_until f (x ∷ xs) = cond (f x) [] (x ∷ take_until f xs)

  -- the elements from the first that passes on; none where none does
  unfoldable pub drop_until : (A → Bool) → List A → List A
  drop_until f [] = []
  drop_until f (x ∷ xs) = cond (f x) (x ∷ xs) (drop_until f xs)

module _ {A B : Type 0} where
  -- what f gives of each element, one after the other
  unfoldable pub collect : (A → List B) → List A → List B
  collect f [] = []
  collect f (x ∷ xs) = f x ++ collect f xs

-- a list of one, or of none
abbrev pub when : {A : Type 0} → Bool → A → List A
when b x = cond b (x ∷ []) []

-- the elements that pass, in their order
unfoldable pub filter : {A : Type 0} → (A → Bool) → List A → List A
filter f xs = collect (λ x. when (f x) x) xs

unfoldable pub among : ℕ → List ℕ → Bool
among c xs = any (λ x. eqb c x) xs

-- f i, f (i + 1), .., n values
unfoldable pub tabulate : {A : Type 0} → (ℕ → A) → ℕ → ℕ → List A
tabulate f i zero = []
tabulate f i (suc n) = f i ∷ tabulate f (suc i) n

unfoldable pub total : List ℕ → ℕ
total [] = 0
total (x ∷ xs) = x + total xs

unfoldable pub zeros : ℕ → List ℕ
zeros n = replicate n 0

-- a lent list of that length that begins with xs: 01, "the rest of a result list is zero"
unfoldable pub padded : ℕ → List ℕ → List ℕ
padded n xs = xs ++ zeros (n - length xs)

-- r is the first number from a to before b at which the test holds, or b
pub record First (test : ℕ → Bool) (a b r : ℕ) : Type 0 where
  pub low : a ≤ r
  pub high : r ≤ b
  pub others : (i : ℕ) → a ≤ i → i < r → test i ≡ false
  pub holds : r < b → test r ≡ true
