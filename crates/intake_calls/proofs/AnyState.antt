-- What every call leaves of any state, by its answer.
-- Assumes nothing.
use Prim.Native.Nat.{ℕ, ◌+◌, ◌≤◌, ◌<◌}
use mathlib.Core.Path.{◌≡◌, refl, sym}
use mathlib.Core.Bool.{false, true≢false}
use mathlib.Core.List.{List}
use native.Mathlib.Omega.{arith}
use lib.ListN.{length}
use Rattle.model.specs.Lists.{zeros}
use Rattle.model.specs.Triples.{slots}
use Rattle.model.specs.Outcomes.{refused, accepted, answer, new, not_new, removed, place_of, zeroed, left}
use Rattle.model.specs.Intake.{State, is_new, is_removed, alters, Kept, InAnyState}
use Rattle.table_checks.proofs.Laws.{left-kept}

module _ (s : State) (work : List ℕ) where
  all-kept : Kept s s
  all-kept = record { in_triples = refl; in_summary = refl; in_weights = refl; in_map = refl }

  -- a refusal
  pub alters_nothing : (r : ℕ) → zeroed r ≡ false → InAnyState s work (refused r) s work
  unfolding is_new is_removed alters place_of
  alters_nothing r z =
      record {
        unaltered = λ n. refl;
        work_is = sym (left-kept r _ work (zeros (length work)) z refl);
        one_more = λ e. absurd (true≢false (sym e));
        one_less = λ e. absurd (true≢false (sym e));
        counts_fit = λ e. absurd (true≢false (sym e));
        place_fits = omega arith;
        kept = all-kept;
      }

  -- a triple that is held, at place i
  pub alters-work : (i : ℕ) → i ≤ s.held → (w : List ℕ) → w ≡ zeros (length work) → InAnyState s work (accepted (answer not_new i)) s w
  unfolding left is_new is_removed alters place_of
  alters-work i h w e =
      record {
        unaltered = λ n. refl;
        work_is = e;
        one_more = λ q. absurd (true≢false (sym q));
        one_less = λ q. absurd (true≢false (sym q));
        counts_fit = λ q. absurd (true≢false (sym q));
        place_fits = h;
        kept = all-kept;
      }

  module _ (i : ℕ) (after : State) (w : List ℕ) (cleared : w ≡ zeros (length work))
      (fits : (after.held ≤ slots s.triples) × (after.summarised ≤ slots s.summary)) (kept : Kept s after) where
    -- a new triple, at place i
    pub alters-more : i ≤ s.held → after.held ≡ s.held + 1 → InAnyState s work (accepted (answer new i)) after w
    unfolding left is_new is_removed alters place_of
    alters-more h e =
        record {
          unaltered = λ n. absurd (true≢false n);
          work_is = cleared;
          one_more = λ q. e;
          one_less = λ q. absurd (true≢false (sym q));
          counts_fit = λ q. fits;
          place_fits = h;
          kept = kept;
        }

    -- a triple that is removed, at place i
    pub alters-less : i < s.held → after.held + 1 ≡ s.held → InAnyState s work (accepted (answer removed i)) after w
    unfolding left is_new is_removed alters place_of
    alters-less h e =
        record {
          unaltered = λ n. absurd (true≢false n);
          work_is = cleared;
          one_more = λ q. absurd (true≢false (sym q));
          one_less = λ q. (e, omega (arith, h, e));
          counts_fit = λ q. fits;
          place_fits = omega (arith, h);
          kept = kept;
        }
