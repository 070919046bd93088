-- Own roster, answer by answer.
-- Assumes nothing.
use Prim.Native.Nat.{ℕ}
use mathlib.Core.Path.{◌≡◌, refl, sym, ◌∙◌, ap, subst}
use mathlib.Core.Bool.{Bool, true, false, cond, ◌||◌}
use mathlib.Core.List.{List}
use lib.ListN.{length, replicate, length-replicate}
use Rattle.std.specs.declared.result.Result.TheVariants.{Ok, Err}
use Rattle.model.specs.declared.Refusal.TheVariants.{Length, Code, Words}
use Rattle.model.specs.declared.Vocabulary.{Vocabulary}
use Rattle.model.specs.Codes.{wrong_words}
use Rattle.model.specs.Lists.{any, zeros}
use Rattle.model.specs.Triples.{triples}
use Rattle.model.specs.Roster.{own_roster, wrong_codes}
use Rattle.model.specs.Outcomes.{Outcome, refused, accepted, refusal_number, decided, left, zeroed, wrong_size, wrong_length, outcome_by, outcome_of}
use Rattle.model.specs.Calls.{own_roster_outcome, own_roster_leaves}
use Rattle.theory.proofs.Tests.{or_left, or_right, or_neither}
use Rattle.theory.specs.Tables.{AllBelow}
use Rattle.theory.proofs.Covered.{all_codes}
use Rattle.roster.specs.Calls.{OwnRosterCall}
use Rattle.roster.specs.Marks.{table_marked}
use Rattle.roster.proofs.Marking.{marked-own}

-- the roster, filled with zeros
pub filled : (l m : List ℕ) → m ≡ replicate (length l) 0 → m ≡ zeros (length l)
unfolding zeros
filled l m e = e

module _ (v : Vocabulary) where
  module _ (table roster : List ℕ) where
    abbrev first : Bool
    first = wrong_size (length roster) || wrong_length (length table)

    abbrev third : Bool
    third = wrong_codes v (length roster) (triples table)

    outcome-is : {a w b : Bool} → first ≡ a → wrong_words v (length roster) ≡ w → third ≡ b
        → own_roster_outcome v table roster ≡ cond a (refused 1) (cond w (refused 10) (cond b (refused 3) (accepted tt)))
    unfolding own_roster_outcome decided
    outcome-is p w q = λ i. cond (p i) (refused 1) (cond (w i) (refused 10) (cond (q i) (refused 3) (accepted tt)))

    leaves-is : {o : Outcome (Unit {0})} → own_roster_outcome v table roster ≡ o → own_roster_leaves v table roster ≡ left o roster (own_roster v (length roster) (triples table))
    unfolding own_roster_leaves
    leaves-is e = ap (λ (o : Outcome (Unit {0})). left o roster (own_roster v (length roster) (triples table))) e

    by_length : first ≡ true → OwnRosterCall v table roster (Err Length) roster
    unfolding outcome_by refusal_number left zeroed any
    by_length p = let e = outcome-is p refl refl in record { answer = sym e; leaves = sym (leaves-is e) }

    pub by_size : wrong_size (length roster) ≡ true → OwnRosterCall v table roster (Err Length) roster
    by_size p = by_length (or_left (wrong_size (length roster)) _ p)

    pub by-table : wrong_length (length table) ≡ true → OwnRosterCall v table roster (Err Length) roster
    by-table p = by_length (or_right (wrong_size (length roster)) _ p)

    module _ (p : wrong_size (length roster) ≡ false) (q : wrong_length (length table) ≡ false) where
      passed : first ≡ false
      passed = or_neither (wrong_size (length roster)) _ p q

      pub by-words : wrong_words v (length roster) ≡ true → OwnRosterCall v table roster (Err Words) roster
      unfolding outcome_by refusal_number left zeroed any
      by-words h = let e = outcome-is passed h refl in record { answer = sym e; leaves = sym (leaves-is e) }

      pub by_codes : wrong_words v (length roster) ≡ false → third ≡ true → OwnRosterCall v table roster (Err Code) roster
      unfolding outcome_by refusal_number left zeroed any
      by_codes w h = let e = outcome-is passed w h in record { answer = sym e; leaves = sym (leaves-is e) }

      pub by_marking : wrong_words v (length roster) ≡ false → third ≡ false → (a b : List ℕ) → a ≡ zeros (length roster) → b ≡ table_marked v a (triples table) → OwnRosterCall v table roster (Ok tt) b
      unfolding outcome_by left
      by_marking w h a b x y =
          let e = outcome-is passed w h in
          record {
            answer = sym e;
            leaves = y ∙ ap (λ (l : List ℕ). table_marked v l (triples table)) x ∙ marked-own v (length roster) (triples table) (below h) ∙ sym (leaves-is e);
          }
        where
          below : third ≡ false → AllBelow (length roster) (triples table)
          below h t m = (all_codes v (length roster) (triples table) h t m).below

    -- a cleared roster has the same length
    pub codes-below : third ≡ false → (a : List ℕ) → a ≡ zeros (length roster) → AllBelow (length a) (triples table)
    unfolding zeros
    codes-below h a e =
        let l : length roster ≡ length a = sym (ap {B = ℕ} (λ (x : List ℕ). length x) e ∙ length-replicate (length roster) 0) in
        subst (λ (n : ℕ). AllBelow n (triples table)) l (λ t m. (all_codes v (length roster) (triples table) h t m).below)
