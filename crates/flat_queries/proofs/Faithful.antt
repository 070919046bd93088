-- A query's numbers give the query back, and so do the numbers that reading leaves.
-- Assumes nothing.
use Prim.Native.Nat.{ℕ, zero, suc, ◌+◌, ◌-◌, ◌*◌, ◌<◌, ◌≤◌}
use mathlib.Core.Path.{◌≡◌, refl, sym, ◌∙◌, ap}
use mathlib.Core.Bool.{Bool, true, false, cond}
use mathlib.Core.List.Memᴰ.{head as here}
use mathlib.Core.List.Memᴰ.{not-nil as no-mem}
use mathlib.Core.List.Memᴰ.{tail as there}
use mathlib.Core.List.{List, [], ◌∷◌, ◌++◌, map, Memᴰ as Mem}
use mathlib.Core.Option.{Option, none, some}
use native.Mathlib.Omega.{arith}
use lib.Dec.{ltb}
use lib.ListN.{length, get_or, replicate, length-append, length-replicate, get_or-replicate}
use lib.Seq.{ext_get_or}
use Rattle.model.specs.Lists.{tabulate}
use Rattle.model.specs.Triples.{slots}
use Rattle.model.specs.Outcomes.{refused, accepted, decided}
use Rattle.theory.proofs.Lists.{length-tabulate, tabulate-at}
use Rattle.query.specs.declared.End.{End}
use Rattle.query.specs.declared.End.TheVariants.{Var, Code}
use Rattle.query.specs.declared.Pattern.{Pattern}
use Rattle.query.specs.declared.Query.{Query}
use Rattle.query.specs.Ask.{blank, pattern_at}
use Rattle.site_form.specs.Reading.{Forms, query_of, queries_of, site_of, no_forms, read_forms, outcome_of, read_outcome, site_in, read_site}
use Rattle.site_form.proofs.Whole.{read-says}
use Rattle.flat_queries.specs.Flat.{end_of, pattern_from, flat_pattern, flat_query, end_numbers, pattern_numbers, query_numbers, query_at, flat_queries, FlatIsFaithful, ReadCanBeAsked}
use Rattle.flat_queries.proofs.Blocks.{blocks, blocks_at, blocks-take}
use Rattle.flat_queries.proofs.Queries.{length-pattern, length-query}

-- ── a pattern ──
abbrev pattern_with : End → ℕ → End → Pattern
pattern_with s p o = record { subject = s; property = p; object = o }

pattern-back : (s : End) (p : ℕ) (o : End) → pattern_from (pattern_numbers (pattern_with s p o)) 0 ≡ pattern_with s p o
unfolding pattern_from pattern_numbers end_numbers end_of
pattern-back (Var v) p (Var w) = refl
pattern-back (Var v) p (Code d) = refl
pattern-back (Code c) p (Var w) = refl
pattern-back (Code c) p (Code d) = refl

-- the same five numbers elsewhere
shifted : (l m : List ℕ) (i : ℕ) → ((j : ℕ) → j < 5 → get_or l (i + j) 0 ≡ get_or m j 0) → pattern_from l i ≡ pattern_from m 0
unfolding pattern_from
shifted l m i h =
    let e : i ≡ i + 0 = omega arith in
    let first : get_or l i 0 ≡ get_or m 0 0 = ap (λ (k : ℕ). get_or l k 0) e ∙ h 0 (omega arith) in
    λ x. pattern_with (end_of (first x) (h 1 (omega arith) x)) (h 2 (omega arith) x) (end_of (h 3 (omega arith) x) (h 4 (omega arith) x))

-- ── a query ──
abbrev query_with : ℕ → List Pattern → Query
query_with n ps = record { patterns = ps; count = n }

module _ (q : Query) where
  number_at : (k j : ℕ) → k < 8 → j < 5 → get_or (query_numbers q) (5 * k + 1 + j) 0 ≡ get_or (pattern_numbers (pattern_at q k)) j 0
  unfolding query_numbers
  number_at k j h m =
      let e : 5 * k + 1 + j ≡ suc (5 * k + j) = omega arith in
      ap (λ (i : ℕ). get_or (q.count ∷ blocks pattern_numbers (pattern_at q) 8) i 0) e
      ∙ blocks_at pattern_numbers (pattern_at q) 5 length-pattern 8 k j 0 h m

  pattern-at : (k : ℕ) → k < 8 → flat_pattern (query_numbers q) k ≡ pattern_at q k
  pattern-at k h =
      let p = pattern_at q k in
      shifted (query_numbers q) (pattern_numbers p) (5 * k + 1) (λ j m. number_at k j h m) ∙ pattern-back p.subject p.property p.object

  all_patterns : length q.patterns ≡ 8 → tabulate (flat_pattern (query_numbers q)) 0 8 ≡ q.patterns
  all_patterns n =
      let l = length-tabulate (flat_pattern (query_numbers q)) 0 8 in
      ext_get_or blank (tabulate (flat_pattern (query_numbers q)) 0 8) q.patterns (l ∙ sym n)
      (λ i h.
      let k : i < 8 = omega arith in
      let e : 0 + i ≡ i = omega arith in
      tabulate-at (flat_pattern (query_numbers q)) blank 0 8 i k ∙ ap (flat_pattern (query_numbers q)) e ∙ pattern-at i k)

  count-back : get_or (query_numbers q) 0 0 ≡ q.count
  unfolding query_numbers
  count-back = refl

pub flat_is_faithful : FlatIsFaithful
unfolding flat_query
flat_is_faithful q n = λ x. query_with (count-back q x) (all_patterns q n x)

-- ── the queries of a text ──
eight : (ps : List Pattern) → length ps ≤ 8 → length (query_of ps).patterns ≡ 8
unfolding query_of
eight ps h = length-append ps (replicate (8 - length ps) blank) ∙ omega (arith, length-replicate (8 - length ps) blank)

-- every query of sixteen has eight patterns
abbrev Eights : List Query → Type 0
Eights qs = (k : ℕ) → k < 16 → length (query_at qs k).patterns ≡ 8

eight-at : (qs : List (List Pattern)) → ((ps : List Pattern) → Mem ps qs → length ps ≤ 8) → (n k : ℕ) → k < length qs + n
    → length (query_at (map query_of qs ++ replicate n (query_of [])) k).patterns ≡ 8
eight-at [] few n k h =
    ap (λ (q : Query). length q.patterns) (get_or-replicate n k (query_of []) (query_with 0 []) (omega arith)) ∙ eight [] (omega arith)
eight-at (ps ∷ qs) few n zero h = eight ps (few ps (here refl))
eight-at (ps ∷ qs) few n (suc k) h = eight-at qs (λ x m. few x (there m)) n k (omega arith)

eights : (qs : List (List Pattern)) → ((ps : List Pattern) → Mem ps qs → length ps ≤ 8) → Eights (queries_of qs)
unfolding queries_of
eights qs few k h = eight-at qs few (16 - length qs) k (omega arith)

no-queries : Eights (site_of no_forms).queries
unfolding site_of
no-queries = eights [] (λ ps m. absurd (no-mem m))

module _ (text list : List ℕ) where
  said-eights : (f : Forms) → read_forms text ≡ some f → Eights (site_of f).queries
  unfolding site_of
  said-eights f e = eights f.asks (λ ps m. ((read-says text f e).asks ps m).few)

  fits : (f : Forms) → read_forms text ≡ some f → (b : Bool) → Eights (site_in (cond b (refused 5) (accepted (site_of f)))).queries
  fits f e true = no-queries
  fits f e false = said-eights f e

  outcome-eights : (o : Option Forms) → read_forms text ≡ o → Eights (site_in (outcome_of o list)).queries
  unfolding decided
  outcome-eights none e = no-queries
  outcome-eights (some f) e = fits f e (ltb (slots list) (length f.triples))

  read-eights : Eights (read_site text list).queries
  unfolding read_site read_outcome
  read-eights = outcome-eights (read_forms text) refl

pub read_can_be_asked : ReadCanBeAsked
unfolding flat_queries
read_can_be_asked text list k h =
    let qs = (read_site text list).queries in
    ap flat_query (blocks-take query_numbers (query_at qs) 41 length-query 16 k h) ∙ flat_is_faithful (query_at qs k) (read-eights text list k h)
