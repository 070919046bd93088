-- The step of the definitions that each answer of a reader stands for.
-- Assumes nothing.
use Rattle.std.specs.Prelude.{ℕ, List, [], Option, Some, None}
use Rattle.std.proofs.Math.Option.{Option as Optional, none}
use Rattle.query.specs.declared.End.{End}
use Rattle.site_form.specs.Text.{bytes}
use Rattle.site_form.specs.Reading.{Step, bad, got, Reader, ◌>>=◌, ◌>>◌, give, word, number, line_end, end_reader}
use Rattle.site_tokens.specs.declared.Read.{Read}

abbrev pub step : {A : Type 0} → Option (Read A) → Step A
step (Some r) = got r.value r.next
step None = bad

-- the same where only the place is answered
abbrev pub place_step : Option ℕ → Step (Unit {0})
place_step (Some i) = got tt i
place_step None = bad

-- the value of a step put through a function
abbrev pub mapped : {A B : Type 0} → (A → B) → Step A → Step B
mapped f bad = bad
mapped f (got x i) = got (f x) i

-- what forms that follow one another give: the forms, and the place after them
abbrev pub items : {A : Type 0} → Step (List A) → List A
items bad = []
items (got xs i) = xs

abbrev pub after : {A : Type 0} → Step (List A) → ℕ
after bad = 0
after (got xs i) = i

-- what a form that may stand gives: the form, and the place after it
abbrev pub standing : {A : Type 0} → Step (Optional A) → Optional A
standing bad = none
standing (got o i) = o

abbrev pub behind : {A : Type 0} → Step (Optional A) → ℕ
behind bad = 0
behind (got o i) = i

-- a number behind the bytes w
abbrev pub number_after : List ℕ → Reader ℕ
number_after w = word w >> number

-- an end behind the bytes w
abbrev pub end_after : List ℕ → Reader End
end_after w = word w >> end_reader

-- three numbers with single spaces between them, the first behind the bytes w, and the line's end
unfoldable pub three_in : {A : Type 0} → List ℕ → (ℕ → ℕ → ℕ → A) → Reader A
three_in w make = do
  word w
  a ← number
  word (bytes " ")
  b ← number
  word (bytes " ")
  c ← number
  line_end
  give (make a b c)
