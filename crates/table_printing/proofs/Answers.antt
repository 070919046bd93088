-- The answers to the queries: asked one by one, and searched for a wrong query.
-- Assumes nothing.
use Prim.Native.Nat.{ℕ, zero, suc, ◌+◌, ◌<◌, ◌≤◌}
use mathlib.Core.Path.{◌≡◌, refl, sym, ◌∙◌, ap}
use mathlib.Core.Bool.{Bool, false, not}
use mathlib.Core.List.{List, [], ◌∷◌, ◌++◌, map}
use native.Mathlib.Omega.{arith}
use lib.Dec.{eqb}
use lib.ListN.{length, get_or, set, length-set, replicate}
use lib.Seq.{get_or-set_same, get_or-set_other}
use Rattle.std.specs.declared.result.Result.{Result}
use Rattle.std.specs.declared.result.Result.TheVariants.{Ok, Err}
use Rattle.model.specs.declared.Refusal.{Refusal}
use Rattle.model.specs.declared.Triple.{Triple}
use Rattle.model.specs.declared.Vocabulary.{Vocabulary}
use Rattle.model.specs.Lists.{any, tabulate}
use Rattle.model.specs.Triples.{flat}
use Rattle.model.specs.Outcomes.{Outcome, refusal_number, outcome_by, outcome_of}
use Rattle.lists.proofs.Compare.{Cmp, lt, eq, gt, cmp}
use Rattle.query.specs.declared.Asked.{Asked}
use Rattle.query.specs.declared.Asked.TheVariants.{Maybe, None}
use Rattle.query.specs.declared.Pattern.{Pattern}
use Rattle.query.specs.declared.Query.{Query}
use Rattle.query.specs.Ask.{asked, ask_outcome, says_maybe}
use Rattle.site_form.specs.Reading.{query_of, queries_of}
use Rattle.site_form.specs.Printing.{is_wrong, query_answers}
use Rattle.site_report.specs.Lines.{answer_at, answers_in}
use Rattle.table_printing.specs.Outcomes.{no_query, asked_of}

-- ── some answer ──
pub wrong-by : (answers : List (Result Asked Refusal)) (n : ℕ) {b : Bool} → b ≡ any is_wrong (tabulate (answer_at answers) 0 n) → b ≡ any is_wrong (answers_in answers n)
unfolding answers_in
wrong-by answers n e = e

-- ── the queries that were read ──
shift : {A : Type 0} (f : ℕ → A) (i n : ℕ) → tabulate f (suc i) n ≡ tabulate (λ k. f (suc k)) i n
unfolding tabulate
shift f i zero = refl
shift f i (suc n) = ap (λ xs. f (suc i) ∷ xs) (shift f (suc i) n)

tabulated : {B : Type 0} (f : Query → B) (d : Query) (qs : List (List Pattern)) (rest : List Query)
    → map (λ ps. f (query_of ps)) qs ≡ tabulate (λ i. f (get_or (map query_of qs ++ rest) i d)) 0 (length qs)
unfolding tabulate
tabulated f d [] rest = refl
tabulated f d (q ∷ qs) rest =
    ap (λ xs. f (query_of q) ∷ xs)
    (tabulated f d qs rest ∙ sym (shift (λ i. f (get_or (query_of q ∷ (map query_of qs ++ rest)) i d)) 0 (length qs)))

module _ (v : Vocabulary) where
  -- ── all answers ──
  module _ (table map : List ℕ) (queries : List Query) where
    abbrev pub outcome_at : ℕ → Outcome Bool
    outcome_at i = ask_outcome v table map (get_or queries i no_query)

    pub record Asking (answers : List (Result Asked Refusal)) (i : ℕ) : Type 0 where
      pub size : length answers ≡ 16
      pub same : (j : ℕ) → j < i → answer_at answers j ≡ outcome_at j

    pub asks-start : Asking (replicate 16 (Ok Maybe)) 0
    asks-start = record { size = refl; same = λ j h. absurd (omega arith) }

    pub asks-step : (answers : List (Result Asked Refusal)) (i : ℕ) → Asking answers i → i < 16 → (a : Result Asked Refusal) → asked a ≡ outcome_at i → Asking (set answers i a) (i + 1)
    asks-step answers i h k a e = record {
      size = length-set answers i a ∙ h.size;
      same = λ j m. go j m (cmp j i);
    }
      where
        go : (j : ℕ) → j < i + 1 → Cmp j i → answer_at (set answers i a) j ≡ outcome_at j
        go j m (lt x) = ap asked (get_or-set_other answers i j a (Ok Maybe) (omega arith)) ∙ h.same j x
        go j m (eq x) =
            ap (λ (z : ℕ). answer_at (set answers i a) z) x
            ∙ ap asked (get_or-set_same answers i a (Ok Maybe) (omega (arith, h.size)))
            ∙ e
            ∙ ap outcome_at (sym x)
        go j m (gt x) = absurd (omega arith)

    same-table : {A : Type 0} (f g : ℕ → A) (i n : ℕ) → ((j : ℕ) → j < i + n → f j ≡ g j) → tabulate f i n ≡ tabulate g i n
    unfolding tabulate
    same-table f g i zero h = refl
    same-table f g i (suc n) h = λ k. h i (omega arith) k ∷ same-table f g (suc i) n (λ j l. h j (omega arith)) k

    pub asks-end : (answers : List (Result Asked Refusal)) (i n : ℕ) → Asking answers i → n ≤ i → answers_in answers n ≡ asked_of v table map queries n
    unfolding answers_in asked_of
    asks-end answers i n h k = same-table (answer_at answers) outcome_at 0 n (λ j l. h.same j (omega arith))

  pub asked_are : (ts : List Triple) (m : List ℕ) (qs : List (List Pattern)) → query_answers v ts m qs ≡ asked_of v (flat ts) m (queries_of qs) (length qs)
  unfolding query_answers asked_of queries_of
  asked_are ts m qs = tabulated (ask_outcome v (flat ts) m) no_query qs _
