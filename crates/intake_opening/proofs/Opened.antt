-- Opening, answer by answer.
-- Assumes nothing.
use Prim.Native.Nat.{ℕ}
use mathlib.Core.Path.{◌≡◌, refl, sym, subst, ◌∙◌}
use mathlib.Core.Bool.{Bool, true, false, cond}
use mathlib.Core.List.{List}
use native.Mathlib.Omega.{arith}
use lib.ListN.{length, replicate, length-replicate, get_or-replicate}
use lib.Seq.{ext_get_or}
use Rattle.std.specs.declared.result.Result.{Result}
use Rattle.std.specs.declared.result.Result.TheVariants.{Ok, Err}
use Rattle.model.specs.declared.Refusal.{Refusal}
use Rattle.model.specs.declared.Refusal.TheVariants.{Length, Words, Roster}
use Rattle.model.specs.declared.Vocabulary.{Vocabulary}
use Rattle.model.specs.Codes.{wrong_words, absent}
use Rattle.model.specs.Triples.{slots}
use Rattle.model.specs.Roster.{wrong_roster}
use Rattle.model.specs.Outcomes.{Outcome, refused, accepted, refusal_number, decided, outcome_by, outcome_of}
use Rattle.model.specs.Intake.{State, wrong_lists, open_outcome, opened, open_leaves}
use Rattle.lists.specs.Flat.{Cleared}
use Rattle.lists.proofs.Search.{cleared-all}
use Rattle.lists.specs.Flat.{Emptied}
use Rattle.intake_opening.specs.Opening.{wrong_lengths, state_with, OpenCall, Opens}

-- ── the answers ──
emptied_all : (l m : List ℕ) → Emptied l m (length l) → m ≡ replicate (length l) absent
emptied_all l m e =
    ext_get_or 0 m (replicate (length l) absent) (e.size ∙ sym (length-replicate (length l) absent))
    (λ k q. e.absents k (omega (arith, e.size)) ∙ sym (get_or-replicate (length l) k absent 0 (omega (arith, e.size))))

module _ (v : Vocabulary) where
  module _ (roster triples summary weights map : List ℕ) where
    abbrev wrong : Bool
    wrong = wrong_lengths (length roster) (length triples) (length summary) (length weights) (length map)

    abbrev first_of : Bool → Bool → Bool → Outcome (Unit {0})
    first_of a w b = cond a (refused 1) (cond w (refused 10) (cond b (refused 2) (accepted tt)))

    outcome-is : (a w b : Bool) → wrong ≡ a → wrong_words v (length roster) ≡ w → wrong_roster v roster ≡ b → (held summarised : ℕ)
        → open_outcome v roster (state_with triples summary weights map held summarised) ≡ first_of a w b
    unfolding open_outcome decided wrong_lists wrong_lengths slots
    outcome-is a w b p x q held summarised = λ i. first_of (p i) (x i) (q i)

    pub opened-length : wrong ≡ true → OpenCall v roster triples summary weights map (Err Length) triples summary weights map
    unfolding outcome_by refusal_number open_leaves
    opened-length p =
        record {
          answer = λ h s. sym (outcome-is true (wrong_words v (length roster)) (wrong_roster v roster) p refl refl h s);
          in_triples = λ h s. refl;
          in_summary = λ h s. refl;
          in_weights = λ h s. refl;
          in_map = λ h s. refl;
        }

    pub opened-words : wrong ≡ false → wrong_words v (length roster) ≡ true → OpenCall v roster triples summary weights map (Err Words) triples summary weights map
    unfolding outcome_by refusal_number open_leaves
    opened-words p q =
        record {
          answer = λ h s. sym (outcome-is false true (wrong_roster v roster) p q refl h s);
          in_triples = λ h s. refl;
          in_summary = λ h s. refl;
          in_weights = λ h s. refl;
          in_map = λ h s. refl;
        }

    pub opened-roster : wrong ≡ false → wrong_words v (length roster) ≡ false → wrong_roster v roster ≡ true → OpenCall v roster triples summary weights map (Err Roster) triples summary weights map
    unfolding outcome_by refusal_number open_leaves
    opened-roster p k q =
        record {
          answer = λ h s. sym (outcome-is false false true p k q h s);
          in_triples = λ h s. refl;
          in_summary = λ h s. refl;
          in_weights = λ h s. refl;
          in_map = λ h s. refl;
        }

    pub opened-all : wrong ≡ false → wrong_words v (length roster) ≡ false → wrong_roster v roster ≡ false → (x y w z : List ℕ)
        → Cleared triples x 0 (length triples) → Cleared summary y 0 (length summary) → Cleared weights w 0 (length weights) → Emptied map z (length map)
        → OpenCall v roster triples summary weights map (Ok tt) x y w z
    unfolding outcome_by open_leaves opened
    opened-all p k q x y w z a b c d =
        record {
          answer = λ h s. sym (outcome-is false false false p k q h s);
          in_triples = λ h s. cleared-all triples x (length triples) a (omega arith);
          in_summary = λ h s. cleared-all summary y (length summary) b (omega arith);
          in_weights = λ h s. cleared-all weights w (length weights) c (omega arith);
          in_map = λ h s. emptied_all map z d;
        }

    -- ── with the counts ──
    module _ (held summarised : ℕ) (d : Result (Unit {0}) Refusal) (x y w z : List ℕ) (C : OpenCall v roster triples summary weights map d x y w z) where
      abbrev s : State
      s = state_with triples summary weights map held summarised

      pub opens-refused : (r : Refusal) → d ≡ Err r → Opens v roster s (outcome_of (Err r)) (state_with x y w z held summarised)
      unfolding outcome_by open_leaves
      opens-refused r e =
          let K = subst (λ (d : Result (Unit {0}) Refusal). OpenCall v roster triples summary weights map d x y w z) e C in
          record { answer = K.answer held summarised; leaves = λ i. state_with (K.in_triples held summarised i) (K.in_summary held summarised i) (K.in_weights held summarised i) (K.in_map held summarised i) held summarised }

      pub opens-accepted : d ≡ (Ok tt) → Opens v roster s (outcome_of (Ok tt)) (state_with x y w z 0 0)
      unfolding outcome_by open_leaves opened
      opens-accepted e =
          let K = subst (λ (d : Result (Unit {0}) Refusal). OpenCall v roster triples summary weights map d x y w z) e C in
          record { answer = K.answer held summarised; leaves = λ i. state_with (K.in_triples held summarised i) (K.in_summary held summarised i) (K.in_weights held summarised i) (K.in_map held summarised i) 0 0 }
