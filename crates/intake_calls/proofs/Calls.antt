-- The verdict of a call's checks, and the whole call, whatever kind it is.
-- Assumes nothing.
use Prim.Native.Nat.{ℕ, ◌/◌}
use mathlib.Core.Path.{◌≡◌, refl, sym, ◌∙◌, ap, subst}
use mathlib.Core.Bool.{Bool, true, false, not, ◌||◌, true≢false}
use mathlib.Core.List.{List, []}
use lib.Dec.{eqb, ltb}
use lib.ListN.{length}
use borrow.Author.Tests.{ltb-false, eqb-true, not-false}
use Rattle.std.specs.declared.result.Result.{Result}
use Rattle.std.specs.declared.result.Result.TheVariants.{Ok, Err}
use Rattle.model.specs.declared.Triple.{Triple}
use Rattle.model.specs.declared.Refusal.{Refusal}
use Rattle.model.specs.declared.Refusal.TheVariants.{Length, Words, Roster, Code, Cover}
use Rattle.model.specs.declared.Reply.{Reply}
use Rattle.model.specs.declared.Vocabulary.{Vocabulary}
use Rattle.model.specs.Codes.{wrong_words}
use Rattle.model.specs.Triples.{slots}
use Rattle.model.specs.Roster.{covers_triple, wrong_roster, wrong_triple}
use Rattle.model.specs.Outcomes.{Outcome, refused, accepted, refusal_number, Answer, Said, replied, Check, decided, checked, Passes, zeroed, wrong_size, wrong_work, outcome_by, outcome_of, reply}
use Rattle.model.specs.Intake.{State, Kind, own_refusal, judged_as, held_then, wrong_lists, intake_checks, Promises}
use Rattle.theory.proofs.Tests.{or_left, or_right, or-false, or_neither}
use Rattle.theory.proofs.Checks.{passes-first, decided-passes, not_accepted, accepted-passes}
use Rattle.table_checks.proofs.Laws.{first_of, refused-any, kept_by}
use Rattle.intake_opening.specs.Opening.{wrong_lengths, state_with, state_in}
use Rattle.intake_opening.specs.declared.Counts.{Counts}
use Rattle.intake_opening.specs.declared.Lists.{Lists}
use Rattle.intake_calls.specs.declared.CalledCounts.{CalledCounts}
use Rattle.intake_calls.specs.Calls.{with_counts, CallVerdict, Ready, Passing}
use Rattle.intake_calls.proofs.AnyState.{alters_nothing}

-- an answer as `with_counts` gives it, in any promise of an answer, the state after it and the work list after it
pub as_counted : (P : Outcome (Answer Said) → State → List ℕ → Type 0) (y : CalledCounts) (x : Result Reply Refusal) (n k : ℕ) → y ≡ with_counts x n k
    → (triples sums weighed map₀ w : List ℕ) → P (replied x) (state_with triples sums weighed map₀ n k) w
    → P (replied y.answer) (state_with triples sums weighed map₀ y.counts.held y.counts.summarised) w
as_counted P y x n k e triples sums weighed map₀ w A =
    subst (λ (y : CalledCounts). P (replied y.answer) (state_with triples sums weighed map₀ y.counts.held y.counts.summarised) w) (sym e) A

module _ (v : Vocabulary) where
  -- ── the checks ──
  module _ (roster triples sums weighed map₀ work : List ℕ) (t : Triple) where
    abbrev lengths : Bool
    lengths = wrong_lengths (length roster) (length triples) (length sums) (length weighed) (length map₀)

    abbrev tests : ℕ → ℕ → List Check
    tests held summarised = intake_checks v roster (state_with triples sums weighed map₀ held summarised) t (length work)

    abbrev Is : Result (Unit {0}) Refusal → Type 0
    Is = CallVerdict v roster triples sums weighed map₀ work t

    outcome-is : {a w b c d : Bool} → (lengths || wrong_work (length roster) (length work)) ≡ a → wrong_words v (length roster) ≡ w
        → wrong_roster v roster ≡ b → wrong_triple v (length roster) t ≡ c → not (covers_triple v roster t) ≡ d
        → (held summarised : ℕ) → checked (tests held summarised) tt ≡ first_of a w b c d
    unfolding intake_checks decided wrong_lists wrong_lengths slots
    outcome-is p w q r s held summarised = λ i. first_of (p i) (w i) (q i) (r i) (s i)

    by_length : (lengths || wrong_work (length roster) (length work)) ≡ true → Is (Err Length)
    unfolding outcome_by refusal_number
    by_length p held summarised = sym (outcome-is p refl refl refl refl held summarised)

    pub by_lengths : lengths ≡ true → Is (Err Length)
    by_lengths p = by_length (or_left lengths _ p)

    pub by-work : wrong_work (length roster) (length work) ≡ true → Is (Err Length)
    by-work p = by_length (or_right lengths _ p)

    module _ (l : lengths ≡ false) (k : wrong_work (length roster) (length work) ≡ false) where
      sizes : (lengths || wrong_work (length roster) (length work)) ≡ false
      sizes = or_neither lengths _ l k

      pub by-words : wrong_words v (length roster) ≡ true → Is (Err Words)
      unfolding outcome_by refusal_number
      by-words w held summarised = sym (outcome-is sizes w refl refl refl held summarised)

      pub by-roster : wrong_words v (length roster) ≡ false → wrong_roster v roster ≡ true → Is (Err Roster)
      unfolding outcome_by refusal_number
      by-roster w a held summarised = sym (outcome-is sizes w a refl refl held summarised)

      pub by_codes : wrong_words v (length roster) ≡ false → wrong_roster v roster ≡ false → wrong_triple v (length roster) t ≡ true → Is (Err Code)
      unfolding outcome_by refusal_number
      by_codes w a b held summarised = sym (outcome-is sizes w a b refl held summarised)

      pub by-cover : wrong_words v (length roster) ≡ false → wrong_roster v roster ≡ false → wrong_triple v (length roster) t ≡ false → covers_triple v roster t ≡ false → Is (Err Cover)
      unfolding outcome_by refusal_number
      by-cover w a b d held summarised = sym (outcome-is sizes w a b (ap not d) held summarised)

      pub by_none : wrong_words v (length roster) ≡ false → wrong_roster v roster ≡ false → wrong_triple v (length roster) t ≡ false → covers_triple v roster t ≡ true → Is (Ok tt)
      unfolding outcome_by
      by_none w a b d held summarised = sym (outcome-is sizes w a b (ap not d) held summarised)

  module _ (roster triples sums weighed map₀ work : List ℕ) (held summarised : ℕ) (t : Triple) where
    abbrev s : State
    s = state_with triples sums weighed map₀ held summarised

    -- ── the whole call ──
    abbrev cs : List Check
    cs = tests roster triples sums weighed map₀ work t held summarised

    module _ (x : Result (Unit {0}) Refusal) (J : CallVerdict v roster triples sums weighed map₀ work t x) where
      -- a check refuses
      module _ (r : Refusal) (e : x ≡ Err r) where
        decides : checked cs (tt {0}) ≡ refused (refusal_number r)
        unfolding outcome_by
        decides = sym (J held summarised) ∙ ap outcome_of e

        refuses-any : (rest : Outcome (Answer Said)) → decided cs rest ≡ refused (refusal_number r)
        unfolding intake_checks
        refuses-any rest = refused-any cs [] tt (refusal_number r) rest decides

        not_passed : Passes cs → ⊥
        not_passed k = not_accepted (sym decides ∙ decided-passes cs (accepted tt) k)

        keeps : zeroed (refusal_number r) ≡ false
        keeps =
            kept_by (lengths roster triples sums weighed map₀ work t || wrong_work (length roster) (length work)) (wrong_words v (length roster))
            (wrong_roster v roster) (wrong_triple v (length roster) t) (not (covers_triple v roster t)) (refusal_number r)
            (sym decides ∙ outcome-is roster triples sums weighed map₀ work t refl refl refl refl refl held summarised)

        pub by_refusal : (kind : Kind) → Promises v roster kind s work t (replied (Err r)) s work
        unfolding outcome_by reply held_then
        by_refusal kind =
            record {
              refuses = λ k. sym (refuses-any (refused (own_refusal kind)));
              passes = λ k. absurd (not_passed k);
              in_any_state = alters_nothing s work (refusal_number r) keeps;
              steps = λ H W. (sym (refuses-any (judged_as kind (slots triples) H t)), W.is_state);
            }

      -- no check fails
      module _ (e : x ≡ (Ok tt)) where
        passes : Passes cs
        unfolding outcome_by
        passes = accepted-passes cs tt tt (sym (J held summarised) ∙ ap outcome_of e)

        pub ready : Ready v roster triples sums weighed map₀ work t
        unfolding intake_checks wrong_lists wrong_work slots
        ready =
            let p = passes-first _ _ passes in
            let q = passes-first _ _ p.1 in
            let m = passes-first _ _ q.1 in
            let c = passes-first _ _ m.1 in
            let l = or-false (wrong_lists v roster s) _ p.0 in
            let a = or-false (wrong_size (length roster)) _ l.0 in
            let b = or-false (not (eqb (length map₀) (length roster))) _ a.1 in
            let d = or-false (not (eqb (length triples / 3) (length sums / 3))) _ b.1 in
            let g = or-false (ltb 1048576 (length triples / 3)) _ d.1 in
            record {
              size = a.0;
              words = q.0;
              marks = m.0;
              right = c.0;
              cover = not-false _ (passes-first _ _ c.1).0;
              map_size = eqb-true _ _ (not-false _ b.0);
              equal = eqb-true _ _ (not-false _ d.0);
              most = ltb-false _ _ g.0;
              weights_size = eqb-true _ _ (not-false _ g.1);
              work_size = eqb-true _ _ (not-false _ l.1);
            }

        pub by_passing : (kind : Kind) (o : Outcome (Answer Said)) (after : State) (w : List ℕ) → Passing v roster kind s work t o after w → Promises v roster kind s work t o after w
        by_passing kind o after w T =
            record {
              refuses = λ k. absurd (true≢false (sym k ∙ passes));
              passes = λ k. T.passes;
              in_any_state = T.in_any_state;
              steps = λ H W. let z = T.steps H W in (z.0 ∙ sym (decided-passes cs (judged_as kind (slots triples) H t) passes), z.1);
            }

        -- the same for a call that was passed the lists in a struct: what they hold once the struct is let go
        pub by_lists : (kind : Kind) (o : Outcome (Answer Said)) (l : Lists) (n : Counts) (w : List ℕ) → Passing v roster kind s work t o (state_in l n) w
            → (triples' sums' weighed' map' : List ℕ) → triples' ≡ l.triples.now → sums' ≡ l.summary.now → weighed' ≡ l.weights.now → map' ≡ l.map.now
            → Promises v roster kind s work t o (state_with triples' sums' weighed' map' n.held n.summarised) w
        by_lists kind o l n w T triples' sums' weighed' map' a b c d =
            subst (λ (after : State). Promises v roster kind s work t o after w)
            (λ i. state_with (sym a i) (sym b i) (sym c i) (sym d i) n.held n.summarised) (by_passing kind o (state_in l n) w T)
