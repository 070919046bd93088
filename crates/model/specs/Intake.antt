-- The intake: the plain intake that 01 sets it against, and what opening, feeding and removing return and leave.
-- Assumes nothing.
use Rattle.std.specs.Prelude.{ℕ, ◌+◌, ◌≤◌, ◌≡◌, Bool, true, false, cond, not, ◌||◌, ◌⊎◌, List, [], ◌∷◌, eqb, leb, ltb, length, replicate}
use Rattle.model.specs.declared.Triple.{Triple}
use Rattle.model.specs.declared.Vocabulary.{Vocabulary}
use Rattle.model.specs.Codes.{wrong_words, absent, most_triples}
use Rattle.model.specs.Lists.{any, zeros, padded}
use Rattle.model.specs.Triples.{slots, holds, place, insert, without, listed}
use Rattle.model.specs.Order.{Rising}
use Rattle.model.specs.Roster.{covers_triple, covers, wrong_roster, wrong_triple, wrong_codes}
use Rattle.model.specs.Classes.{map_of}
use Rattle.model.specs.Summary.{summary, weights}
use Rattle.model.specs.Outcomes.{Outcome, refused, accepted, Answer, answer, Said, new, not_new, removed, place_of, Check, check, decided, checked, Passes, left, wrong_size, wrong_work}

-- what is lent to every call of an intake: two triple lists, the weights of the summary's triples, the map and the record of two counts
pub record State : Type 0 where
  pub triples : List ℕ
  pub summary : List ℕ
  pub weights : List ℕ
  pub map : List ℕ
  pub held : ℕ
  pub summarised : ℕ

-- the two calls on an open intake
pub data Kind : Type 0 where
  feeding removing : Kind

-- 01: "each feed's triple and work list length"; 02: removal "borrows what a feed does"
pub record Call : Type 0 where
  pub kind : Kind
  pub triple : Triple
  pub work : ℕ

-- the refusal that only this kind of call gives: 01, "feeding 1 to 4 and 7"; 02: "It refuses with 9 a removal of a triple not held"
abbrev pub own_refusal : Kind → ℕ
own_refusal feeding = 7
own_refusal removing = 9

-- the kind of call that says so
abbrev pub said_by : Said → Kind
said_by new = feeding
said_by not_new = feeding
said_by removed = removing

-- where no check fails: refused with the call's own refusal, or accepted with an answer of its own
abbrev pub OwnOrAccepted : Kind → Outcome (Answer Said) → Type 0
OwnOrAccepted kind outcome = (outcome ≡ refused (own_refusal kind)) ⊎ ((x : Answer Said) × (outcome ≡ accepted x) × (said_by x.says ≡ kind))

-- the answer is "new"
unfoldable pub is_new : Outcome (Answer Said) → Bool
is_new (refused r) = false
is_new (accepted x) = says_new x.says
  where
    says_new : Said → Bool
    says_new new = true
    says_new not_new = false
    says_new removed = false

-- the answer is "removed"
unfoldable pub is_removed : Outcome (Answer Said) → Bool
is_removed (refused r) = false
is_removed (accepted x) = says_removed x.says
  where
    says_removed : Said → Bool
    says_removed new = false
    says_removed not_new = false
    says_removed removed = true

-- the answers after which other triples are held than before
unfoldable pub alters : Outcome (Answer Said) → Bool
alters outcome = is_new outcome || is_removed outcome

-- every list of the state keeps its length
pub record Kept (s after : State) : Type 0 where
  pub in_triples : length after.triples ≡ length s.triples
  pub in_summary : length after.summary ≡ length s.summary
  pub in_weights : length after.weights ≡ length s.weights
  pub in_map : length after.map ≡ length s.map

-- What holds of a call's outcome, the state after it and the work list after it whatever the state was, altered by hand or not.
pub record InAnyState (s : State) (work : List ℕ) (outcome : Outcome (Answer Said)) (after : State) (work-after : List ℕ) : Type 0 where
  -- only a triple that is new or removed alters the state
  pub unaltered : alters outcome ≡ false → after ≡ s
  -- the work list is zero after "new", "not new" and "removed", and as it was after a refusal (no call of an intake gives 5 or 8)
  pub work_is : work-after ≡ left outcome work (zeros (length work))
  -- with a new triple one more is held; with a removed one one less, and its place is at most the number held afterwards
  pub one_more : is_new outcome ≡ true → after.held ≡ s.held + 1
  pub one_less : is_removed outcome ≡ true → (after.held + 1 ≡ s.held) × (place_of outcome ≤ after.held)
  -- where the state is altered, both counts are at most the slots
  pub counts_fit : alters outcome ≡ true → (after.held ≤ slots s.triples) × (after.summarised ≤ slots s.summary)
  -- the place is at most the number of triples held before the call
  pub place_fits : place_of outcome ≤ s.held
  pub kept : Kept s after

-- ── the plain intake, once its checks have passed ──
-- 01: "the triple in H, "not new"; H as large as the slots, 7; else the triple joins H, "new"" (H is kept in rising order)
-- 02: "The plain intake's answers carry the place too, counted in H."
unfoldable pub judged : ℕ → List Triple → Triple → Outcome (Answer Said)
judged room H t =
    cond (holds t H) (accepted (answer not_new (place t H)))
    (cond (leb room (length H)) (refused 7) (accepted (answer new (place t H))))

-- 02: "then 9, else its triple leaves H and the answer is "removed" with its place in H" (with the triple still in it)
unfoldable pub judged_removal : List Triple → Triple → Outcome (Answer Said)
judged_removal H t = cond (holds t H) (accepted (answer removed (place t H))) (refused 9)

abbrev pub judged_as : Kind → ℕ → List Triple → Triple → Outcome (Answer Said)
judged_as feeding room H t = judged room H t
judged_as removing room H t = judged_removal H t

-- 01: "else the triple joins H, .. Every other feed leaves H alone."; 02: "else its triple leaves H"
unfoldable pub after_saying : Said → Triple → List Triple → List Triple
after_saying new t H = insert t H
after_saying not_new t H = H
after_saying removed t H = without t H

-- what is held after a call
unfoldable pub held_then : Outcome (Answer Said) → Triple → List Triple → List Triple
held_then (refused r) t H = H
held_then (accepted x) t H = after_saying x.says t H

module _ (v : Vocabulary) (roster : List ℕ) where
  -- ── the plain intake ──
  -- 01: "A feed is judged in this order: work list length not 2 × N, answer 1; a code not below N, or reserved as subject or object, 3;
  -- the triple not covered, 4; .."; 02: "a removal is judged 1, 3, 4, then 9, .."
  abbrev pub plain_checks : Call → List Check
  plain_checks c =
      check 1 (wrong_work (length roster) c.work)
      ∷ check 3 (wrong_triple v (length roster) c.triple)
      ∷ check 4 (not (covers_triple v roster c.triple))
      ∷ []

  unfoldable pub reply_to : ℕ → List Triple → Call → Outcome (Answer Said)
  reply_to room H c = decided (plain_checks c) (judged_as c.kind room H c.triple)

  -- the answers to a list of calls, and what is held after it
  unfoldable pub answers : ℕ → List Call → List Triple → List (Outcome (Answer Said))
  answers room [] H = []
  answers room (c ∷ cs) H = reply_to room H c ∷ answers room cs (held_then (reply_to room H c) c.triple H)

  unfoldable pub held_after : ℕ → List Call → List Triple → List Triple
  held_after room [] H = H
  held_after room (c ∷ cs) H = held_after room cs (held_then (reply_to room H c) c.triple H)

  -- ── the lists and the record of an intake that holds H, both triple lists and the weights as long as in s; nothing else of s enters ──
  -- 01: "the triple list is H in rising order, the summary list H's summary, both zero beyond, the map is H's, and the record's two
  -- counts are the sizes of H and of its summary"
  -- 02: "beside each summary triple, the count of held triples whose image it is, .. zero past the last summary triple"
  unfoldable pub state_of : State → List Triple → State
  state_of s H =
      record {
        triples = listed (length s.triples) H;
        summary = listed (length s.summary) (summary v roster H);
        weights = padded (length s.weights) (weights v roster H);
        map = map_of v roster H;
        held = length H;
        summarised = length (summary v roster H);
      }

  -- 01, refusal 1: "intake lists of unequal slots or over 1,048,576", and N and the map's size; 02: "a further lent list of as many u32 as there
  -- are slots .. A further list of the wrong size falls under refusal 1."
  unfoldable pub wrong_lists : State → Bool
  wrong_lists s =
      wrong_size (length roster)
      || (not (eqb (length s.map) (length roster))
      || (not (eqb (slots s.triples) (slots s.summary))
      || (ltb most_triples (slots s.triples) || not (eqb (length s.weights) (slots s.triples)))))

  -- ── opening: 01, "opening 1 and 2"; 02: 10 straight after 1 ──
  unfoldable pub open_outcome : State → Outcome (Unit {0})
  open_outcome s = checked (check 1 (wrong_lists s) ∷ check 10 (wrong_words v (length roster)) ∷ check 2 (wrong_roster v roster) ∷ []) tt

  -- 01: "Opening zeroes the lists and makes the map absent"
  unfoldable pub opened : State → State
  opened s =
      record {
        triples = zeros (length s.triples);
        summary = zeros (length s.summary);
        weights = zeros (length s.weights);
        map = replicate (length s.map) absent;
        held = 0;
        summarised = 0;
      }

  unfoldable pub open_leaves : Outcome (Unit {0}) → State → State
  open_leaves (refused r) s = s
  open_leaves (accepted x) s = opened s

  -- ── feeding: 01, "feeding 1 to 4 and 7"; removing: 02, "9 .. after 1 to 4"; 10 straight after 1 ──
  -- (by the triple and the length of the work list)
  unfoldable pub intake_checks : State → Triple → ℕ → List Check
  intake_checks s t work =
      check 1 (wrong_lists s || wrong_work (length roster) work)
      ∷ check 10 (wrong_words v (length roster))
      ∷ check 2 (wrong_roster v roster)
      ∷ check 3 (wrong_triple v (length roster) t)
      ∷ check 4 (not (covers_triple v roster t))
      ∷ []

  -- the state is the one that opening with this word table and roster and calls leave, and it holds H; 02: another word table "than at
  -- opening counts as altered state of an intake"
  pub record Valid (s : State) (H : List Triple) : Type 0 where
    pub rising : Rising H
    pub fits : length H ≤ slots s.triples
    pub codes : wrong_codes v (length roster) H ≡ false
    pub covered : covers v roster H ≡ true
    pub is_state : s ≡ state_of s H

  -- What a call promises.
  pub record Promises (kind : Kind) (s : State) (work : List ℕ) (t : Triple) (outcome : Outcome (Answer Said)) (after : State) (work-after : List ℕ) : Type 0 where
    -- the refusals 1, 10, 2, 3, 4, for every state; by `in_any_state` they alter nothing (a check fails, so the last refusal is never reached)
    pub refuses : any (λ (c : Check). c.fails) (intake_checks s t (length work)) ≡ true
        → outcome ≡ decided (intake_checks s t (length work)) (refused (own_refusal kind))
    -- where no check fails, for every state: no refusal but the call's own, 7 or 9, and no answer of the other kind of call
    pub passes : Passes (intake_checks s t (length work)) → OwnOrAccepted kind outcome
    -- Open for an altered state that passes the checks: which of the outcomes of `passes` it is, with which place; and after "new" and "removed" the
    -- contents of the two triple lists, the weights and the map, and the count of the summary. What holds of every state, altered or not:
    pub in_any_state : InAnyState s work outcome after work-after
    -- what holds besides of a state that holds H
    pub steps : (H : List Triple) → Valid s H
        → (outcome ≡ decided (intake_checks s t (length work)) (judged_as kind (slots s.triples) H t)) × (after ≡ state_of s (held_then outcome t H))

  abbrev pub Fed : State → List ℕ → Triple → Outcome (Answer Said) → State → List ℕ → Type 0
  Fed = Promises feeding

  -- 02: "removal of a held triple, which borrows what a feed does and leaves the work list zero when accepted"
  abbrev pub Removes : State → List ℕ → Triple → Outcome (Answer Said) → State → List ℕ → Type 0
  Removes = Promises removing

  -- ── a list of calls, each lent what the call before left ──
  pub data Run : State → List Call → List (Outcome (Answer Said)) → State → Type 0 where
    none : {s : State} → Run s [] [] s
    then_called : {s after end : State} {kind : Kind} {t : Triple} {outcome : Outcome (Answer Said)} {cs : List Call} {os : List (Outcome (Answer Said))} (work work-after : List ℕ)
        → Promises kind s work t outcome after work-after → Run after cs os end
        → Run s (record { kind = kind; triple = t; work = length work } ∷ cs) (outcome ∷ os) end
