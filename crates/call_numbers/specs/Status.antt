-- An outcome as numbers: the status that a call answers, and the lent numbers that it stores.
-- Assumes nothing.
use Rattle.std.specs.Prelude.{ℕ, ◌-◌, ◌≡◌, Bool, cond}
use Rattle.model.specs.Outcomes.{Outcome, refused, accepted, Answer, Said, new, not_new, removed, place_of}
use Rattle.subject_lines.specs.declared.Part.{Part}

-- 01, the column "returned": the refusal's number; 0 for an accepted call
unfoldable pub status_of : {A : Type 0} → Outcome A → ℕ
status_of (refused r) = r
status_of (accepted x) = 0

-- a lent number after the call: the accepted value, and after a refusal what it was before
unfoldable pub value_or : ℕ → Outcome ℕ → ℕ
value_or before (refused r) = before
value_or before (accepted x) = x

-- an accepted answer as a number
unfoldable pub numbered : {A : Type 0} → (A → ℕ) → Outcome A → Outcome ℕ
numbered f (refused r) = refused r
numbered f (accepted x) = accepted (f x)

-- yes is 1 and no is 0; maybe is 1 and none 0
abbrev pub bit : Bool → ℕ
bit b = cond b 1 0

abbrev pub bits : Outcome Bool → Outcome ℕ
bits o = numbered bit o

-- new is 1, and what is not new 0
abbrev pub new_bit : Said → ℕ
new_bit new = 1
new_bit not_new = 0
new_bit removed = 0

-- the status of a call, and a lent number before and after it
pub record Stores (outcome : Outcome ℕ) (before status after : ℕ) : Type 0 where
  pub answer : status ≡ status_of outcome
  pub value : after ≡ value_or before outcome

-- the same of a call that reports a place, with the lent number for it after the call. 02: "A refused call reports place 0"; so every call stores it.
pub record Reports {A : Type 0} (number : A → ℕ) (outcome : Outcome (Answer A)) (before status after place : ℕ) : Type 0 where
  pub stores : Stores (numbered (λ x. number x.says) outcome) before status after
  pub stores_place : place ≡ place_of outcome

-- the status and the place alone
pub record ReportsPlace {A : Type 0} (outcome : Outcome (Answer A)) (status place : ℕ) : Type 0 where
  pub answer : status ≡ status_of outcome
  pub stores_place : place ≡ place_of outcome

-- a part of the summary or of the table, of a call that refuses nothing: which list, 1 for the summary and 0 for the table, the index of the
-- part's first number, and how many numbers it has
pub record StoresPart (p : Part) (status own start count : ℕ) : Type 0 where
  pub answer : status ≡ 0
  pub list : own ≡ bit p.own
  pub first : start ≡ p.start
  pub numbers : count ≡ p.end - p.start
