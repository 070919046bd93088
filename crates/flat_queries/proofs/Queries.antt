-- Ends, patterns and queries read from numbers and stored as numbers.
-- Assumes nothing.
use Prim.Native.Nat.{ℕ, suc, ◌+◌, ◌*◌, ◌<◌, ◌≤◌}
use mathlib.Core.Path.{◌≡◌, refl, sym, ◌∙◌, ap}
use mathlib.Core.List.{List, [], ◌∷◌}
use native.Mathlib.Numerals.{add-one}
use native.Mathlib.Omega.{arith}
use lib.ListN.{length, get_or, set, length-append, replicate}
use lib.Seq.{sets, length-sets}
use Rattle.model.specs.Lists.{collect, tabulate}
use Rattle.query.specs.declared.End.{End}
use Rattle.query.specs.declared.End.TheVariants.{Var, Code}
use Rattle.query.specs.declared.Pattern.{Pattern}
use Rattle.query.specs.declared.Query.{Query}
use Rattle.query.specs.Ask.{blank, pattern_at}
use Rattle.flat_queries.specs.Flat.{flat_pattern, flat_query, end_numbers, pattern_numbers, query_numbers, query_at, flat_queries}
use Rattle.flat_queries.proofs.Blocks.{sets_append, sets_whole, blocks, length-blocks, blocks_step}

-- ── a pattern and a query from numbers ──
abbrev query_with : ℕ → List Pattern → Query
query_with n ps = record { patterns = ps; count = n }

abbrev one : Pattern → List Pattern
one p = p ∷ []

-- the first k patterns are stored
pub record Patterns (l : List ℕ) (ps : List Pattern) (k : ℕ) : Type 0 where
  pub few : k ≤ 8
  pub list : ps ≡ sets (replicate 8 blank) 0 (blocks one (flat_pattern l) k)

module _ (l : List ℕ) where
  pub patterns_start : (ps : List Pattern) → ps ≡ replicate 8 blank → Patterns l ps 0
  unfolding collect tabulate
  patterns_start ps e = record { few = omega arith; list = e }

  pub patterns_step : (ps : List Pattern) (k : ℕ) → Patterns l ps k → k < 8 → (p : Pattern) → p ≡ flat_pattern l k → Patterns l (set ps k p) (k + 1)
  patterns_step ps k h lt p e = record {
    few = omega arith;
    list =
        blocks_step one (flat_pattern l) 1 (λ x. refl) (replicate 8 blank) ps (set ps k p) 0 k k (omega arith) h.list
        (ap (set ps k) e);
  }

  pub patterns_end : (ps : List Pattern) (k : ℕ) → Patterns l ps k → 8 ≤ k → ◌≡◌ {A = Query} (record { patterns = ps; count = get_or l 0 0 }) (flat_query l)
  unfolding flat_query collect tabulate
  patterns_end ps k h le =
      let e : k ≡ 8 = omega (arith, h.few) in
      ap (query_with (get_or l 0 0))
      (h.list ∙ ap (λ (n : ℕ). sets (replicate 8 blank) 0 (blocks one (flat_pattern l) n)) e)

-- ── an end and a pattern to numbers ──
length-end : (e : End) → length (end_numbers e) ≡ 2
unfolding end_numbers
length-end (Var v) = refl
length-end (Code c) = refl

pub length-pattern : (p : Pattern) → length (pattern_numbers p) ≡ 5
unfolding pattern_numbers
length-pattern p =
    length-append (end_numbers p.subject) (p.property ∷ end_numbers p.object)
    ∙ omega (arith, length-end p.subject, length-end p.object)

module _ (l a : List ℕ) (i : ℕ) (p : Pattern) (h : a ≡ sets l i (end_numbers p.subject)) where
  subject-length : length a ≡ length l
  subject-length = ap length h ∙ length-sets l i (end_numbers p.subject)

  pub pattern-put : (m : List ℕ) → m ≡ sets (set a (i + 2) p.property) (i + 3) (end_numbers p.object) → m ≡ sets l i (pattern_numbers p)
  unfolding pattern_numbers
  pattern-put m k =
      let e : i + 2 ≡ i + length (end_numbers p.subject) = omega (arith, length-end p.subject) in
      let f : i + 3 ≡ suc (i + length (end_numbers p.subject)) = omega (arith, length-end p.subject) in
      k
      ∙ (λ j. sets (set (h j) (e j) p.property) (f j) (end_numbers p.object))
      ∙ sym (sets_append l i (end_numbers p.subject) (p.property ∷ end_numbers p.object))

-- ── a query and sixteen queries to numbers ──
-- the first j patterns of a query are stored; at is where they begin
pub record PuttingPatterns (l₀ : List ℕ) (at : ℕ) (q : Query) (l : List ℕ) (j : ℕ) : Type 0 where
  pub few : j ≤ 8
  pub list : l ≡ sets l₀ at (blocks pattern_numbers (pattern_at q) j)

module _ (l₀ : List ℕ) (at : ℕ) (q : Query) where
  pub putting_start : PuttingPatterns l₀ at q l₀ 0
  unfolding collect tabulate
  putting_start = record { few = omega arith; list = refl }

  module _ (l : List ℕ) (j : ℕ) (h : PuttingPatterns l₀ at q l j) where
    pub putting_step : j < 8 → (m : List ℕ) → m ≡ sets l (at + 5 * j) (pattern_numbers (pattern_at q j)) → PuttingPatterns l₀ at q m (j + 1)
    putting_step k m e = record {
      few = omega arith;
      list = blocks_step pattern_numbers (pattern_at q) 5 length-pattern l₀ l m at j (at + 5 * j) refl h.list e;
    }

-- all eight, behind the count
pub query-put : (l : List ℕ) (i : ℕ) (q : Query) (m : List ℕ) (j : ℕ) → PuttingPatterns (set l i q.count) (i + 1) q m j → 8 ≤ j → m ≡ sets l i (query_numbers q)
unfolding query_numbers
query-put l i q m j h k =
    let e : j ≡ 8 = omega (arith, h.few) in
    h.list ∙ (λ x. sets (set l i q.count) (add-one i x) (blocks pattern_numbers (pattern_at q) (e x)))

pub length-query : (q : Query) → length (query_numbers q) ≡ 41
unfolding query_numbers
length-query q = omega (arith, length-blocks pattern_numbers (pattern_at q) 5 length-pattern 8)

-- the first k queries are stored
pub record PuttingQueries (l₀ : List ℕ) (qs : List Query) (l : List ℕ) (k : ℕ) : Type 0 where
  pub few : k ≤ 16
  pub list : l ≡ sets l₀ 0 (blocks query_numbers (query_at qs) k)

module _ (l₀ : List ℕ) (qs : List Query) where
  pub queries-start : PuttingQueries l₀ qs l₀ 0
  unfolding collect tabulate
  queries-start = record { few = omega arith; list = refl }

  module _ (l : List ℕ) (k : ℕ) (h : PuttingQueries l₀ qs l k) where
    pub queries-step : k < 16 → (m : List ℕ) → m ≡ sets l (41 * k) (query_numbers (query_at qs k)) → PuttingQueries l₀ qs m (k + 1)
    queries-step lt m e = record {
      few = omega arith;
      list = blocks_step query_numbers (query_at qs) 41 length-query l₀ l m 0 k (41 * k) (omega arith) h.list e;
    }

    pub queries-end : 16 ≤ k → length l₀ ≡ 656 → l ≡ flat_queries qs
    unfolding flat_queries
    queries-end le n =
        let e : k ≡ 16 = omega (arith, h.few) in
        h.list
        ∙ ap (λ (x : ℕ). sets l₀ 0 (blocks query_numbers (query_at qs) x)) e
        ∙ sets_whole l₀ (blocks query_numbers (query_at qs) 16) (n ∙ sym (length-blocks query_numbers (query_at qs) 41 length-query 16))
