-- The calls with flat queries, opening, and reading.
-- Assumes nothing.
use Prim.Native.Nat.{ℕ}
use mathlib.Core.Path.{◌≡◌, refl, sym, ◌∙◌, ap}
use mathlib.Core.Bool.{Bool, true, false, not, cond}
use mathlib.Core.List.{List, [], ◌∷◌}
use mathlib.Core.Option.{Option, none, some}
use native.Mathlib.Omega.{arith}
use lib.Dec.{ltb}
use lib.ListN.{length}
use borrow.Author.Tests.{eq-eqb, ne_eqb}
use Rattle.std.specs.declared.result.Result.{Result}
use Rattle.model.specs.declared.Refusal.{Refusal}
use Rattle.model.specs.declared.Refusal.TheVariants.{Length}
use Rattle.model.specs.declared.Vocabulary.{Vocabulary}
use Rattle.model.specs.Codes.{codes, rdfs}
use Rattle.model.specs.Lists.{any, zeros, collect, tabulate}
use Rattle.model.specs.Triples.{slots}
use Rattle.model.specs.Outcomes.{Outcome, refused, accepted, refusal_number, decided, left, zeroed, outcome_of as answer_outcome}
use Rattle.model.specs.Intake.{State, open_leaves}
use Rattle.intake_opening.specs.Opening.{Opens}
use Rattle.query.specs.Ask.{ask_outcome}
use Rattle.site_form.specs.declared.Site.{Site}
use Rattle.std.specs.Prelude.{Result, Ok, Err}
use Rattle.model.specs.declared.Refusal.{Refusal}
use Rattle.site_form.specs.Reading.{Forms, query_of, queries_of, site_of, no_forms, read_forms, outcome_of, read_outcome, answered, site_in, read_site, read_list}
use Rattle.site_reader.specs.Calls.{ReadCall}
use Rattle.call_numbers.specs.Status.{status_of, value_or, numbered, bits, Stores}
use Rattle.flat_queries.specs.Flat.{flat_query, end_numbers, pattern_numbers, query_numbers, flat_queries}
use Rattle.weak_summary.specs.Calls.{flat_ask_outcome, OpenStatus, form_status, ReadLent, lent, right_lengths, site_leaves, flat_read_outcome, flat_read_leaves, ReadStatus, RefusedReadIsZero}
use Rattle.call_numbers.proofs.Outcomes.{stores_as}

-- ── reading ──
status_is : (a : Result Site Refusal) → form_status a ≡ status_of (answered a)
unfolding form_status status_of
status_is (Ok site) = refl
status_is (Err r) = refl

module _ (text : List ℕ) (s : ReadLent) where
  pub wrong-queries : (length s.queries ≡ 656 → ⊥) → right_lengths s ≡ false
  unfolding right_lengths
  wrong-queries h = rw (ne_eqb (length s.queries) 656 h)

  pub wrong-words : length s.queries ≡ 656 → (length s.words ≡ 5 → ⊥) → right_lengths s ≡ false
  unfolding right_lengths
  wrong-words q h = rw (eq-eqb (length s.queries) 656 q, ne_eqb (length s.words) 5 h)

  pub right-lengths : length s.queries ≡ 656 → length s.words ≡ 5 → right_lengths s ≡ true
  unfolding right_lengths
  right-lengths q h = rw (eq-eqb (length s.queries) 656 q, eq-eqb (length s.words) 5 h)

  outcome_of_lem : Bool → Outcome Site
  outcome_of_lem b = cond (not b) (refused 1) (read_outcome text s.list)

  leaves_of : Bool → ReadLent
  leaves_of b = cond b (site_leaves (read_list text s.list) (read_site text s.list)) s

  passed : right_lengths s ≡ true → read_outcome text s.list ≡ flat_read_outcome text s
  unfolding flat_read_outcome decided outcome_of_lem
  passed h = sym (ap outcome_of_lem h)

  pub read_length : (status : ℕ) → right_lengths s ≡ false → status ≡ refusal_number Length → ReadStatus text s status s
  unfolding flat_read_outcome flat_read_leaves decided status_of refusal_number outcome_of_lem leaves_of
  read_length status h e = record {
    answer = e ∙ sym (ap (λ (b : Bool). status_of (outcome_of_lem b)) h);
    leaves = sym (ap leaves_of h);
  }

  module _ (h : right_lengths s ≡ true) (a : Result Site Refusal) (list' : List ℕ) (r : ReadCall text s.list a list') (site : Site) (is : site ≡ site_in (answered a)) where
    pub read-stands : (queries' : List ℕ) → queries' ≡ flat_queries site.queries → (words' : List ℕ) → words' ≡ codes site.words → (status : ℕ) → status ≡ form_status a
        → ReadStatus text s status (lent list' queries' words' site.size site.count site.asks)
    unfolding flat_read_leaves leaves_of
    read-stands queries' q words' w status e = record {
      answer = e ∙ status_is a ∙ ap status_of (r.outcome ∙ passed h);
      leaves =
          (λ i. lent (r.list i) (q i) (w i) site.size site.count site.asks)
          ∙ ap (site_leaves (read_list text s.list)) (is ∙ r.site)
          ∙ sym (ap leaves_of h);
    }

-- what a text that was read leaves, and one that was refused
pub is_ok : (a : Result Site Refusal) (site : Site) → a ≡ Ok site → site ≡ site_in (answered a)
is_ok a site e = sym (ap (λ (x : Result Site Refusal). site_in (answered x)) e)

pub status_ok : (a : Result Site Refusal) (site : Site) → a ≡ Ok site → 0 ≡ form_status a
unfolding form_status
status_ok a site e = sym (ap form_status e)

pub is_err : (a : Result Site Refusal) (r : Refusal) → a ≡ Err r → site_of no_forms ≡ site_in (answered a)
is_err a r e = sym (ap (λ (x : Result Site Refusal). site_in (answered x)) e)

pub status_err : (a : Result Site Refusal) (r : Refusal) (n : ℕ) → a ≡ Err r → n ≡ refusal_number r → n ≡ form_status a
unfolding form_status
status_err a r n e h = h ∙ sym (ap form_status e)

-- ── a refused text ──
pub no-queries : flat_queries (site_of no_forms).queries ≡ zeros 656
unfolding flat_queries site_of queries_of query_of query_numbers pattern_numbers end_numbers collect tabulate zeros
no-queries = refl

pub no-words : codes rdfs ≡ codes (site_of no_forms).words
unfolding site_of
no-words = refl

-- nothing of a text is left
record Nothing (list : List ℕ) (o : Outcome Site) (after : List ℕ) : Type 0 where
  pub no_site : site_in o ≡ site_of no_forms
  pub no_triples : left o list after ≡ zeros (length list)

nothing_fits : (list : List ℕ) (f : Forms) (r : ℕ) (after : List ℕ) (b : Bool) → cond b (refused 5) (accepted (site_of f)) ≡ refused r
    → Nothing list (cond b (refused 5) (accepted (site_of f))) after
unfolding left zeroed any
nothing_fits list f r after true e = record { no_site = refl; no_triples = refl }
nothing_fits list f r after false e = let z : ◌≡◌ {A = ℕ} 0 1 = cc in absurd (omega arith)

nothing_read : (list : List ℕ) (r : ℕ) (after : List ℕ) (o : Option Forms) → outcome_of o list ≡ refused r → Nothing list (outcome_of o list) after
unfolding left zeroed any decided
nothing_read list r after none e = record { no_site = refl; no_triples = refl }
nothing_read list r after (some f) e = nothing_fits list f r after (ltb (slots list) (length f.triples)) e

refused-site : (text list : List ℕ) (r : ℕ) → read_outcome text list ≡ refused r → read_site text list ≡ site_of no_forms
unfolding read_site read_outcome
refused-site text list r e = (nothing_read list r [] (read_forms text) e).no_site

refused-list : (text list : List ℕ) (r : ℕ) → read_outcome text list ≡ refused r → read_list text list ≡ zeros (length list)
unfolding read_list read_outcome
refused-list text list r e = (nothing_read list r _ (read_forms text) e).no_triples

pub refused-read-is-zero : RefusedReadIsZero
unfolding flat_read_leaves leaves_of site_of
refused-read-is-zero text s r h e =
    let o : read_outcome text s.list ≡ refused r = passed text s h ∙ e in
    ap (leaves_of text s) h
    ∙ (λ i. site_leaves (refused-list text s.list r o i) (refused-site text s.list r o i))
    ∙ (λ i. lent (zeros (length s.list)) (no-queries i) (0 ∷ 1 ∷ 2 ∷ 3 ∷ 4 ∷ []) 0 0 0)

module _ (v : Vocabulary) where
  -- ── ask ──
  module _ (table map query : List ℕ) where
    ask-one : (length query ≡ 41 → ⊥) → flat_ask_outcome v table map query ≡ refused 1
    unfolding flat_ask_outcome decided
    ask-one h = ap (λ (b : Bool). cond (not b) (refused 1) (ask_outcome v table map (flat_query query))) (ne_eqb (length query) 41 h)

    pub ask-length : (before s : ℕ) → (length query ≡ 41 → ⊥) → s ≡ refusal_number Length → Stores (bits (flat_ask_outcome v table map query)) before s before
    unfolding numbered status_of value_or refusal_number
    ask-length before s h e = stores_as (sym (ap bits (ask-one h))) (record { answer = e; value = refl })

    pub ask-passed : length query ≡ 41 → ask_outcome v table map (flat_query query) ≡ flat_ask_outcome v table map query
    unfolding flat_ask_outcome decided
    ask-passed h = sym (ap (λ (b : Bool). cond (not b) (refused 1) (ask_outcome v table map (flat_query query))) (eq-eqb (length query) 41 h))

  -- ── opening ──
  pub open_status : (roster : List ℕ) (s : State) (d : Result (Unit {0}) Refusal) (status : ℕ) (after : State) → Opens v roster s (answer_outcome d) after → status ≡ status_of (answer_outcome d)
      → OpenStatus v roster s status after
  open_status roster s d status after o e = record {
    answer = e ∙ ap status_of o.answer;
    leaves = o.leaves ∙ ap (λ (x : Outcome (Unit {0})). open_leaves v roster x s) o.answer;
  }
