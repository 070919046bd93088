-- Cliques, answer by answer.
-- Assumes nothing.
use Prim.Native.Nat.{ℕ}
use mathlib.Core.Path.{◌≡◌, sym, ◌∙◌, ap}
use mathlib.Core.Bool.{Bool, false, not, ◌||◌}
use mathlib.Core.List.{List}
use lib.Dec.{eqb}
use lib.ListN.{length}
use borrow.Author.Tests.{eqb-true, not-false}
use Rattle.std.specs.declared.result.Result.{Result}
use Rattle.std.specs.declared.result.Result.TheVariants.{Ok, Err}
use Rattle.model.specs.declared.Refusal.{Refusal}
use Rattle.model.specs.declared.Vocabulary.{Vocabulary}
use Rattle.model.specs.Triples.{triples}
use Rattle.model.specs.declared.Side.TheVariants.{Source as source, Target as target}
use Rattle.model.specs.Cliques.{cliques}
use Rattle.model.specs.Outcomes.{Outcome, refused, accepted, refusal_number, checked, left, outcome_by, outcome_of}
use Rattle.model.specs.Calls.{table_checks, cliques_outcome, cliques_leave}
use Rattle.theory.proofs.Tests.{or-false}
use Rattle.theory.specs.Tables.{Right}
use Rattle.table_checks.proofs.Laws.{passed, passed-lengths, passed-right, refused-left}
use Rattle.cliques.specs.Calls.{CliquesCall}

module _ (v : Vocabulary) where
  module _ (table roster sources targets : List ℕ) where
    abbrev wrong : Bool
    wrong = not (eqb (length sources) (length roster)) || not (eqb (length targets) (length roster))

    abbrev Is : Result (Unit {0}) Refusal → Type 0
    Is w = outcome_of w ≡ checked (table_checks v wrong table roster) tt

    module _ (b : Bool) (h : b ≡ wrong) (w : Result (Unit {0}) Refusal) (e : outcome_of w ≡ checked (table_checks v b table roster) tt) where
      is : (x : Result (Unit {0}) Refusal) → w ≡ x → Is x
      is x q = ap outcome_of (sym q) ∙ e ∙ ap (λ (z : Bool). checked (table_checks v z table roster) tt) h

      -- ── refused ──
      module _ (r : Refusal) (q : w ≡ Err r) where
        refused-outcome : cliques_outcome v table roster sources targets ≡ refused (refusal_number r)
        unfolding cliques_outcome outcome_by
        refused-outcome = sym (is (Err r) q)

        pub by-refused : CliquesCall v table roster sources targets (Err r) sources targets
        unfolding cliques_leave outcome_by
        by-refused = record {
          answer = sym refused-outcome;
          in_sources = sym (refused-left v wrong table roster r (is (Err r) q) (cliques_outcome v table roster sources targets) refused-outcome sources (cliques v roster source (triples table)));
          in_targets = sym (refused-left v wrong table roster r (is (Err r) q) (cliques_outcome v table roster sources targets) refused-outcome targets (cliques v roster target (triples table)));
        }

      -- ── accepted ──
      module _ (q : w ≡ (Ok tt)) where
        lengths : wrong ≡ false
        lengths = passed-lengths v wrong table roster (passed v wrong table roster (is (Ok tt) q))

        pub right : Right v roster (triples table)
        right = passed-right v wrong table roster (passed v wrong table roster (is (Ok tt) q))

        pub sources-length : length sources ≡ length roster
        sources-length = eqb-true _ _ (not-false _ (or-false (not (eqb (length sources) (length roster))) _ lengths).0)

        pub targets-length : length targets ≡ length roster
        targets-length = eqb-true _ _ (not-false _ (or-false (not (eqb (length sources) (length roster))) _ lengths).1)

        accepted-outcome : cliques_outcome v table roster sources targets ≡ accepted tt
        unfolding cliques_outcome outcome_by
        accepted-outcome = sym (is (Ok tt) q)

        pub by-sides : (s t : List ℕ) → s ≡ cliques v roster source (triples table) → t ≡ cliques v roster target (triples table) → CliquesCall v table roster sources targets (Ok tt) s t
        unfolding cliques_leave outcome_by left
        by-sides s t x y = record {
          answer = sym accepted-outcome;
          in_sources = x ∙ ap (λ (o : Outcome (Unit {0})). left o sources (cliques v roster source (triples table))) (sym accepted-outcome);
          in_targets = y ∙ ap (λ (o : Outcome (Unit {0})). left o targets (cliques v roster target (triples table))) (sym accepted-outcome);
        }
