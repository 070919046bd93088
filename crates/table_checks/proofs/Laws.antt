-- The verdict of the checks 1, 10, 2, 3, 4, and what a call that goes on after them has of it.
-- Assumes nothing.
use Prim.Native.Nat.{ℕ, ◌<◌, ◌≤◌}
use mathlib.Core.Path.{◌≡◌, refl, sym, ◌∙◌, ap, subst}
use mathlib.Core.Logic.{⊎_elim}
use mathlib.Core.Bool.{Bool, true, false, cond, not, ◌||◌}
use mathlib.Core.List.{List, [], ◌∷◌, ◌++◌}
use lib.ListN.{length}
use lib.Dec.{ltb}
use borrow.Author.Tests.{lt-ltb, le-ltb}
use Rattle.model.specs.Lists.{any, zeros}
use Rattle.std.specs.declared.result.Result.{Result}
use Rattle.std.specs.declared.result.Result.TheVariants.{Ok, Err}
use Rattle.model.specs.declared.Refusal.{Refusal}
use Rattle.model.specs.declared.Refusal.TheVariants.{Length, Words, Roster, Code, Cover}
use Rattle.model.specs.declared.Vocabulary.{Vocabulary}
use Rattle.model.specs.Codes.{wrong_words}
use Rattle.model.specs.Triples.{triples}
use Rattle.model.specs.Roster.{covers, wrong_roster, wrong_codes}
use Rattle.model.specs.Outcomes.{Outcome, refused, accepted, refusal_number, outcome_by, outcome_of, Check, check, decided, checked, Passes, zeroed, left, wrong_size, wrong_length}
use Rattle.model.specs.Calls.{table_checks, Accepted}
use Rattle.theory.proofs.Tests.{or_left, or_right, or-false, or_neither, bool_cases}
use Rattle.theory.proofs.Checks.{passes-first, first-decides, not_accepted, accepted-passes}
use Rattle.theory.specs.Tables.{AllBelow, Right}
use Rattle.theory.proofs.Covered.{all_codes}
use Rattle.theory.proofs.Accepted.{accepted-right}

-- ── the checks in order ──
-- the outcome, by what the five checks say
abbrev pub first_of : Bool → Bool → Bool → Bool → Bool → Outcome (Unit {0})
first_of a w b c d = cond a (refused 1) (cond w (refused 10) (cond b (refused 2) (cond c (refused 3) (cond d (refused 4) (accepted tt)))))

-- ── a call that goes on after the checks ──
-- checks that pass make no difference to those after them
pub passed-more : {A : Type 0} (cs more : List Check) (rest : Outcome A) → Passes cs → decided (cs ++ more) rest ≡ decided more rest
unfolding decided
passed-more [] more rest h = refl
passed-more (c ∷ cs) more rest h =
    let x = passes-first c cs h in
    first-decides c (cs ++ more) rest x.0 ∙ passed-more cs more rest x.1

-- a check that fails decides, whatever comes after
pub refused-any : {A B : Type 0} (cs more : List Check) (x : B) (r : ℕ) (rest : Outcome A) → checked cs x ≡ refused r → decided (cs ++ more) rest ≡ refused r
unfolding decided
refused-any [] more x r rest e = absurd (not_accepted (sym e))
refused-any {A} {B} (c ∷ cs) more x r rest e =
    ⊎_elim
    (λ (t : c.fails ≡ true). first-decides c (cs ++ more) rest t ∙ same (sym (first-decides c cs (accepted x) t) ∙ e))
    (λ (t : c.fails ≡ false). first-decides c (cs ++ more) rest t ∙ refused-any cs more x r rest (sym (first-decides c cs (accepted x) t) ∙ e))
    (bool_cases c.fails)
  where
    same : ◌≡◌ {A = Outcome B} (refused c.returns) (refused r) → ◌≡◌ {A = Outcome A} (refused c.returns) (refused r)
    same q = let n : c.returns ≡ r = cc in ap (λ (k : ℕ). refused k) n

-- check 5 after checks that pass
module _ (cs : List Check) (slots n : ℕ) (h : Passes cs) where
  after-slots : {b : Bool} → ltb slots n ≡ b → checked (cs ++ check 5 (ltb slots n) ∷ []) n ≡ cond b (refused 5) (accepted n)
  unfolding decided
  after-slots e = passed-more cs (check 5 (ltb slots n) ∷ []) (accepted n) h ∙ ap (λ (b : Bool). cond b (refused 5) (accepted n)) e

  pub too_few : slots < n → checked (cs ++ check 5 (ltb slots n) ∷ []) n ≡ refused 5
  too_few l = after-slots (lt-ltb slots n l)

  pub enough : n ≤ slots → checked (cs ++ check 5 (ltb slots n) ∷ []) n ≡ accepted n
  enough l = after-slots (le-ltb slots n l)

-- what stays in a lent list after refusal 5, and after an accepted call
pub left-zeros : {A : Type 0} (o : Outcome A) (entry after : List ℕ) → o ≡ refused 5 → left o entry after ≡ zeros (length entry)
unfolding left zeroed any
left-zeros o entry after e = rw e

pub left_after : {A : Type 0} (o : Outcome A) (x : A) (entry after : List ℕ) → o ≡ accepted x → left o entry after ≡ after
unfolding left
left_after o x entry after e = rw e

-- the checks 1, 10, 2, 3, 4 leave every list as it is
pub kept_by : (a w b c d : Bool) (n : ℕ) → refused n ≡ first_of a w b c d → zeroed n ≡ false
unfolding zeroed any
kept_by true w b c d n e = let k : n ≡ 1 = cc in rw k
kept_by false true b c d n e = let k : n ≡ 10 = cc in rw k
kept_by false false true c d n e = let k : n ≡ 2 = cc in rw k
kept_by false false false true d n e = let k : n ≡ 3 = cc in rw k
kept_by false false false false true n e = let k : n ≡ 4 = cc in rw k
kept_by false false false false false n e = absurd (not_accepted e)

pub left-kept : {A : Type 0} (n : ℕ) (o : Outcome A) (entry after : List ℕ) → zeroed n ≡ false → o ≡ refused n → left o entry after ≡ entry
unfolding left
left-kept n o entry after z e = rw (e, z)

module _ (v : Vocabulary) where
  module _ (lengths : Bool) (table roster : List ℕ) where
    abbrev first : Bool
    first = wrong_size (length roster) || (wrong_length (length table) || lengths)

    abbrev Is : Result (Unit {0}) Refusal → Type 0
    Is r = outcome_of r ≡ checked (table_checks v lengths table roster) tt

    outcome-is : {a w b c d : Bool} → first ≡ a → wrong_words v (length roster) ≡ w → wrong_roster v roster ≡ b
        → wrong_codes v (length roster) (triples table) ≡ c → not (covers v roster (triples table)) ≡ d
        → checked (table_checks v lengths table roster) tt ≡ first_of a w b c d
    unfolding table_checks decided
    outcome-is p w q r s = λ i. first_of (p i) (w i) (q i) (r i) (s i)

    by_length : first ≡ true → Is (Err Length)
    unfolding outcome_by refusal_number
    by_length p = sym (outcome-is p refl refl refl refl)

    pub by_size : wrong_size (length roster) ≡ true → Is (Err Length)
    by_size p = by_length (or_left (wrong_size (length roster)) _ p)

    pub by-table : wrong_length (length table) ≡ true → Is (Err Length)
    by-table p = by_length (or_right (wrong_size (length roster)) _ (or_left (wrong_length (length table)) _ p))

    pub by-list : lengths ≡ true → Is (Err Length)
    by-list p = by_length (or_right (wrong_size (length roster)) _ (or_right (wrong_length (length table)) _ p))

    module _ (p : wrong_size (length roster) ≡ false) (q : wrong_length (length table) ≡ false) (l : lengths ≡ false) where
      sizes : first ≡ false
      sizes = or_neither (wrong_size (length roster)) _ p (or_neither (wrong_length (length table)) _ q l)

      pub by-words : wrong_words v (length roster) ≡ true → Is (Err Words)
      unfolding outcome_by refusal_number
      by-words w = sym (outcome-is sizes w refl refl refl)

      pub by-roster : wrong_words v (length roster) ≡ false → wrong_roster v roster ≡ true → Is (Err Roster)
      unfolding outcome_by refusal_number
      by-roster w a = sym (outcome-is sizes w a refl refl)

      pub by_codes : wrong_words v (length roster) ≡ false → wrong_roster v roster ≡ false → wrong_codes v (length roster) (triples table) ≡ true → Is (Err Code)
      unfolding outcome_by refusal_number
      by_codes w a b = sym (outcome-is sizes w a b refl)

      pub by-cover : wrong_words v (length roster) ≡ false → wrong_roster v roster ≡ false → wrong_codes v (length roster) (triples table) ≡ false
          → not (covers v roster (triples table)) ≡ true → Is (Err Cover)
      unfolding outcome_by refusal_number
      by-cover w a b d = sym (outcome-is sizes w a b d)

      pub by_none : wrong_words v (length roster) ≡ false → wrong_roster v roster ≡ false → wrong_codes v (length roster) (triples table) ≡ false
          → not (covers v roster (triples table)) ≡ false → Is (Ok tt)
      unfolding outcome_by
      by_none w a b d = sym (outcome-is sizes w a b d)

  pub codes-below : (table roster : List ℕ) → wrong_codes v (length roster) (triples table) ≡ false → AllBelow (length roster) (triples table)
  codes-below table roster h t m = (all_codes v (length roster) (triples table) h t m).below

  module _ (lengths : Bool) (table roster : List ℕ) where
    -- passed: no check fails, the table is accepted with the roster, and the other lists have right lengths
    pub passed : Is lengths table roster (Ok tt) → Passes (table_checks v lengths table roster)
    unfolding outcome_by
    passed e = accepted-passes (table_checks v lengths table roster) tt tt (sym e)

    pub passed-lengths : Passes (table_checks v lengths table roster) → lengths ≡ false
    unfolding table_checks
    passed-lengths h = (or-false (wrong_length (length table)) _ (or-false (wrong_size (length roster)) _ (passes-first _ _ h).0).1).1

    pub passed-accepted : Passes (table_checks v lengths table roster) → Accepted v table roster
    passed-accepted h = subst (λ (b : Bool). Passes (table_checks v b table roster)) (passed-lengths h) h

    pub passed-right : Passes (table_checks v lengths table roster) → Right v roster (triples table)
    passed-right h = accepted-right v table roster (passed-accepted h)

    module _ (r : Refusal) (e : Is lengths table roster (Err r)) where
      -- refused: so is the call, whatever it checks afterwards
      pub refused-more : {A : Type 0} (more : List Check) (rest : Outcome A) → decided (table_checks v lengths table roster ++ more) rest ≡ refused (refusal_number r)
      unfolding outcome_by
      refused-more more rest = refused-any (table_checks v lengths table roster) more tt (refusal_number r) rest (sym e)

      refused-kept : zeroed (refusal_number r) ≡ false
      unfolding outcome_by
      refused-kept =
          kept_by (first lengths table roster) (wrong_words v (length roster)) (wrong_roster v roster) (wrong_codes v (length roster) (triples table))
          (not (covers v roster (triples table))) (refusal_number r)
          (e ∙ outcome-is lengths table roster refl refl refl refl refl)

      -- and nothing is altered
      pub refused-left : {A : Type 0} (o : Outcome A) → o ≡ refused (refusal_number r) → (entry after : List ℕ) → left o entry after ≡ entry
      refused-left o q entry after = left-kept (refusal_number r) o entry after refused-kept q
