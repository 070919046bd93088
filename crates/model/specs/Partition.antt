-- Classes in a list of labels: the label of a code is the smallest code of its class, or absent.
-- Assumes nothing.
use Rattle.std.specs.Prelude.{ℕ, min, max, Bool, cond, List, [], ◌∷◌, map, eqb, get_or}
use Rattle.model.specs.Codes.{absent}
use Rattle.model.specs.Lists.{collect, when}

abbrev pub label : List ℕ → ℕ → ℕ
label m c = get_or m c absent

pub record Pair : Type 0 where
  pub one : ℕ
  pub two : ℕ

-- the classes of two codes become one, under the smaller label
unfoldable pub union : Pair → List ℕ → List ℕ
union p m =
    let a = label m p.one in
    let b = label m p.two in
    map (λ x. cond (eqb x (max a b)) (min a b) x) m

unfoldable pub merged : List Pair → List ℕ → List ℕ
merged [] m = m
merged (p ∷ ps) m = union p (merged ps m)

-- the codes of any two elements that the test puts together
unfoldable pub pairs : {A : Type 0} → (A → A → Bool) → (A → ℕ) → List A → List Pair
pairs test code xs = collect (λ a. collect (λ b. when (test a b) (record { one = code a; two = code b })) xs) xs
