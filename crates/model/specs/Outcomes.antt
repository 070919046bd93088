-- What a call returns and what it leaves in the lists that it was lent: 01, "Refused calls, in order of checking".
-- Assumes nothing.
use Rattle.std.specs.Prelude.{ℕ, ◌%◌, ◌*◌, ◌≡◌, Bool, true, false, cond, not, ◌||◌, List, [], ◌∷◌, eqb, ltb, length}
use Rattle.model.specs.declared.Refusal.{Refusal}
use Rattle.model.specs.declared.Refusal.TheVariants.{Length, Roster, Code, Cover, Slots, Query, Full, Form, Missing, Words, Retired}
use Rattle.std.specs.declared.result.Result.{Result}
use Rattle.std.specs.declared.result.Result.TheVariants.{Ok, Err}
use Rattle.model.specs.declared.Found.{Found}
use Rattle.model.specs.declared.Found.TheVariants.{Yes, No}
use Rattle.model.specs.declared.Reply.{Reply}
use Rattle.model.specs.declared.Reply.TheVariants.{New, NotNew, Removed}
use Rattle.model.specs.Codes.{smallest_size, largest_size, most_triples}
use Rattle.model.specs.Lists.{any, zeros}

-- a refusal by its number in the papers, or the values that an accepted call returns
pub data Outcome (A : Type 0) : Type 0 where
  refused : ℕ → Outcome A
  accepted : A → Outcome A

-- the papers' number of each refusal that the code can give
unfoldable pub refusal_number : Refusal → ℕ
refusal_number Length = 1
refusal_number Roster = 2
refusal_number Code = 3
refusal_number Cover = 4
refusal_number Slots = 5
refusal_number Query = 6
refusal_number Full = 7
refusal_number Form = 8
refusal_number Missing = 9
refusal_number Words = 10
refusal_number Retired = 12

-- the outcome that an answer stands for, where an accepted call's values are read by f
unfoldable pub outcome_by : {A B : Type 0} → (A → B) → Result A Refusal → Outcome B
outcome_by f (Ok x) = accepted (f x)
outcome_by f (Err r) = refused (refusal_number r)

-- the outcome of a call that returns its values as they are: nothing, or a count
abbrev pub outcome_of : {A : Type 0} → Result A Refusal → Outcome A
outcome_of = outcome_by (λ x. x)

-- 02: "yes or no and a place": what an accepted call says, and the place that it reports
pub record Answer (A : Type 0) : Type 0 where
  pub says : A
  pub place : ℕ

abbrev pub answer : {A : Type 0} → A → ℕ → Answer A
answer x k = record { says = x; place = k }

-- look up: whether the triple is in the list, and its place
unfoldable pub seen : Found → Answer Bool
seen (Yes k) = answer true k
seen (No k) = answer false k

abbrev pub found : Result Found Refusal → Outcome (Answer Bool)
found = outcome_by seen

-- what an accepted call of the intake says
pub data Said : Type 0 where
  new not_new removed : Said

-- feeding and removing: whether the triple was new or has left, and its place
unfoldable pub reply : Reply → Answer Said
reply (New k) = answer new k
reply (NotNew k) = answer not_new k
reply (Removed k) = answer removed k

abbrev pub replied : Result Reply Refusal → Outcome (Answer Said)
replied = outcome_by reply

-- 02: "A refused call reports place 0."
unfoldable pub place_of : {A : Type 0} → Outcome (Answer A) → ℕ
place_of (refused r) = 0
place_of (accepted x) = x.place

-- 01: "Each check runs over all its input before the next"
pub record Check : Type 0 where
  pub returns : ℕ
  pub fails : Bool

abbrev pub check : ℕ → Bool → Check
check r b = record { returns = r; fails = b }

-- the first check that fails decides; where none does, the rest of the call
unfoldable pub decided : {A : Type 0} → List Check → Outcome A → Outcome A
decided [] rest = rest
decided (c ∷ cs) rest = cond c.fails (refused c.returns) (decided cs rest)

-- a call that is accepted where no check fails
abbrev pub checked : {A : Type 0} → List Check → A → Outcome A
checked cs x = decided cs (accepted x)

-- no check fails
abbrev pub Passes : List Check → Type 0
Passes cs = any (λ (c : Check). c.fails) cs ≡ false

-- 01, the column "left behind": after these refusals the lists are zero, after any other nothing is altered
abbrev pub zeroing : List ℕ
zeroing = 5 ∷ 8 ∷ []

-- a refusal is one of them
unfoldable pub zeroed : ℕ → Bool
zeroed r = any (λ n. eqb r n) zeroing

-- what a call leaves in a list: its contents at the call, and what it holds where the call is accepted
unfoldable pub left : {A : Type 0} → Outcome A → List ℕ → List ℕ → List ℕ
left (refused r) entry after = cond (zeroed r) (zeros (length entry)) entry
left (accepted x) entry after = after

-- 01, refusal 1: N is not 5 to 65,536
unfoldable pub wrong_size : ℕ → Bool
wrong_size n = ltb n smallest_size || ltb largest_size n

-- 01, refusal 1: "a table, or list looked up in, not a multiple of 3 or too long"
unfoldable pub wrong_length : ℕ → Bool
wrong_length l = not (eqb (l % 3) 0) || ltb (3 * most_triples) l

-- 01: summarise "borrows a work list of 2 × N u32"
unfoldable pub wrong_work : ℕ → ℕ → Bool
wrong_work n work = not (eqb work (2 * n))
