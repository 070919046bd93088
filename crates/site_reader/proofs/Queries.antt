-- The readers of a query and of the queries, pattern by pattern and line by line.
-- Assumes nothing.
use Prim.Native.Nat.{ℕ, suc, ◌+◌, ◌-◌, ◌<◌, ◌≤◌}
use mathlib.Core.Path.{◌≡◌, refl, sym, ◌∙◌, ap, subst}
use mathlib.Core.List.{List, [], ◌∷◌, ◌++◌, map}
use native.Mathlib.Numerals.{add-one}
use native.Mathlib.Omega.{arith}
use lib.ListN.{length, set, replicate, length-map, length-replicate}
use lib.Seq.{sets}
use Rattle.query.specs.declared.Pattern.{Pattern}
use Rattle.query.specs.declared.Query.{Query}
use Rattle.query.specs.Ask.{blank}
use Rattle.site_form.specs.Text.{bytes, most_patterns}
use Rattle.site_form.specs.Reading.{Step, bad, got, and_then, ◌>>=◌, give, many, word, line_end, next_reader, ask_reader, query_of, queries_of}
use Rattle.site_tokens.specs.Steps.{mapped, items, after}
use Rattle.site_reader.specs.Queries.{with_pattern, more_patterns, PatternsFrom, ask_lines, AsksFrom}
use Rattle.site_tokens.proofs.Steps.{mapped_then}
use Rattle.site_reader.proofs.Many.{many-got, items-none, after_none, items_stop, after_stop, items-on, after_on, items-few, mapped-bad, mapped-got, sets_front}

-- ── patterns ──
-- the query with these patterns more
pub with_all : Query → List Pattern → Query
with_all q [] = q
with_all q (p ∷ ps) = with_all (with_pattern q p) ps

all-stored : (q : Query) (ps : List Pattern) → with_all q ps ≡ record { patterns = sets q.patterns q.count ps; count = q.count + length ps }
unfolding with_all
all-stored q [] = let e : q.count ≡ q.count + 0 = omega arith in λ i. record { patterns = q.patterns; count = e i }
all-stored q (p ∷ ps) =
    let e : q.count + 1 + length ps ≡ q.count + suc (length ps) = omega arith in
    all-stored (with_pattern q p) ps
    ∙ (λ i. record { patterns = sets (set q.patterns q.count p) (add-one q.count i) ps; count = e i })

query_of_lem : (ps : List Pattern) → length ps ≤ most_patterns → with_all (query_of []) ps ≡ query_of ps
unfolding query_of
query_of_lem ps h =
    let e : 0 + length ps ≡ length ps = omega arith in
    let f = sets_front blank 8 ps h in
    all-stored (query_of []) ps ∙ (λ i. record { patterns = f i; count = e i })

pub empty-short : (q : Query) → q ≡ query_of [] → q.count < 8
unfolding query_of
empty-short q e = let c : q.count ≡ 0 = ap (λ (x : Query). x.count) e in omega arith

-- what is left to read gives the rest of the query
pub record Reading (text : List ℕ) (at : ℕ) (q₀ query : Query) (i : ℕ) : Type 0 where
  pub few : query.count ≤ 8
  pub gives : with_all query (items (many (8 - query.count) next_reader text i)) ≡ with_all q₀ (items (more_patterns text at))
  pub ends : after (many (8 - query.count) next_reader text i) ≡ after (more_patterns text at)

module _ (text : List ℕ) (at : ℕ) (q₀ : Query) where
  pub patterns_step : (query : Query) (i : ℕ) → Reading text at q₀ query i → query.count < 8 → (p : Pattern) (next : ℕ)
      → next_reader text i ≡ got p next → (longer : Query) → longer ≡ with_pattern query p → Reading text at q₀ longer next
  unfolding with_all
  patterns_step query i h l p next e longer f =
      let z : 8 - query.count ≡ suc (8 - (query.count + 1)) = omega arith in
      let k = 8 - (query.count + 1) in
      let j = 8 - query.count in
      subst (λ (x : Query). Reading text at q₀ x next) (sym f)
      (record {
        few = omega arith;
        gives = ap (with_all query) (sym (items-on next_reader text k j i next p e z)) ∙ h.gives;
        ends = sym (after_on next_reader text k j i next p e z) ∙ h.ends;
      })

  -- the loop begins with the first pattern in an empty query
  module _ (empty : Query) (first : Pattern) (eq : empty ≡ query_of []) (ef : q₀ ≡ with_pattern empty first) where
    begun : q₀ ≡ with_pattern (query_of []) first
    begun = ef ∙ ap (λ (x : Query). with_pattern x first) eq

    one : q₀.count ≡ 1
    unfolding query_of
    one = ap (λ (x : Query). x.count) begun

    pub patterns_start : Reading text at q₀ q₀ at
    patterns_start =
        let e = one in
        let z : 8 - q₀.count ≡ 7 = omega arith in
        record {
          few = omega arith;
          gives = ap (λ (k : ℕ). with_all q₀ (items (many k next_reader text at))) z;
          ends = ap (λ (k : ℕ). after (many k next_reader text at)) z;
        }

    module _ (query : Query) (i : ℕ) (h : Reading text at q₀ query i) where
      whole : items (many (8 - query.count) next_reader text i) ≡ [] → query ≡ query_of (first ∷ items (more_patterns text at))
      unfolding with_all
      whole e =
          let few : length (first ∷ items (more_patterns text at)) ≤ 8 = omega (arith, items-few next_reader text 7 at) in
          ap (with_all query) (sym e)
          ∙ h.gives
          ∙ ap (λ (x : Query). with_all x (items (more_patterns text at))) begun
          ∙ query_of_lem (first ∷ items (more_patterns text at)) few

      pub patterns_stop : next_reader text i ≡ bad → PatternsFrom text at first (record { value = query; next = i })
      patterns_stop e = record {
        query = whole (items_stop next_reader text i e (8 - query.count));
        next = sym (after_stop next_reader text i e (8 - query.count)) ∙ h.ends;
      }

      pub patterns_full : 8 ≤ query.count → PatternsFrom text at first (record { value = query; next = i })
      patterns_full e =
          let z : 8 - query.count ≡ 0 = omega arith in
          record {
            query = whole (ap (λ (k : ℕ). items (many k next_reader text i)) z ∙ items-none next_reader text i);
            next = sym (ap (λ (k : ℕ). after (many k next_reader text i)) z ∙ after_none next_reader text i) ∙ h.ends;
          }

-- ── a line ──
-- the reader of a line, by what its parts answer
pub ask_parts : (text : List ℕ) (at : ℕ) → mapped query_of (ask_reader text at)
    ≡ and_then (word (bytes "(ask") text at) (λ u i. and_then (next_reader text i) (λ p j.
    and_then (line_end text (after (more_patterns text j))) (λ v k. got (query_of (p ∷ items (more_patterns text j))) k)))
unfolding ask_reader give ◌>>=◌
ask_parts text at =
    mapped_then query_of (word (bytes "(ask") text at) (λ u i. and_then (next_reader text i) (λ p j. rest p j))
    ∙ (λ t. and_then (word (bytes "(ask") text at) (λ u i. mapped_then query_of (next_reader text i) (λ p j. rest p j) t))
    ∙ (λ t. and_then (word (bytes "(ask") text at) (λ u i. and_then (next_reader text i) (λ p j. last p j t)))
  where
    ended : Pattern → List Pattern → ℕ → Step (List Pattern)
    ended p ps k = and_then (line_end text k) (λ v l. got (p ∷ ps) l)

    rest : Pattern → ℕ → Step (List Pattern)
    rest p j = and_then (more_patterns text j) (λ ps k. ended p ps k)

    last : (p : Pattern) (j : ℕ) → mapped query_of (rest p j)
        ≡ and_then (line_end text (after (more_patterns text j))) (λ v k. got (query_of (p ∷ items (more_patterns text j))) k)
    last p j =
        ap (λ (s : Step (List Pattern)). mapped query_of (and_then s (λ ps k. ended p ps k))) (many-got next_reader text 7 j)
        ∙ mapped_then query_of (line_end text (after (more_patterns text j))) (λ v l. got (p ∷ items (more_patterns text j)) l)

-- ── the lines ──
-- what is left to read gives the rest of the queries
pub record Asking (text : List ℕ) (at : ℕ) (queries : List Query) (count i : ℕ) : Type 0 where
  pub few : count ≤ 16
  pub counts : count + length (items (many (16 - count) ask_reader text i)) ≡ length (items (ask_lines text at))
  pub gives : sets queries count (map query_of (items (many (16 - count) ask_reader text i))) ≡ sets (replicate 16 (query_of [])) 0 (map query_of (items (ask_lines text at)))
  pub ends : after (many (16 - count) ask_reader text i) ≡ after (ask_lines text at)

-- the blank queries of no text
no-queries : queries_of [] ≡ replicate 16 (query_of [])
unfolding queries_of
no-queries = refl

pub sixteen : (queries : List Query) → queries ≡ queries_of [] → length queries ≡ 16
sixteen queries e = ap length (e ∙ no-queries) ∙ length-replicate 16 (query_of [])

pub blank-queries : (q : Query) → q ≡ query_of [] → replicate 16 q ≡ queries_of []
blank-queries q e = ap (replicate 16) e ∙ sym no-queries

module _ (text : List ℕ) (at : ℕ) where
  pub asks_start : (queries : List Query) → queries ≡ queries_of [] → Asking text at queries 0 at
  asks_start queries e = record {
    few = omega arith;
    counts = let e : 0 + length (items (ask_lines text at)) ≡ length (items (ask_lines text at)) = omega arith in e;
    gives = ap (λ (qs : List Query). sets qs 0 (map query_of (items (ask_lines text at)))) (e ∙ no-queries);
    ends = refl;
  }

  module _ (queries : List Query) (count i : ℕ) (h : Asking text at queries count i) where
    done : items (many (16 - count) ask_reader text i) ≡ [] → after (many (16 - count) ask_reader text i) ≡ i → AsksFrom text at (record { value = count; next = i }) queries
    unfolding queries_of
    done e f =
        let qs = items (ask_lines text at) in
        let l : length (map query_of qs) ≡ length qs = length-map qs query_of in
        let z : length (items (many (16 - count) ask_reader text i)) ≡ 0 = ap length e in
        record {
          count = omega (arith, h.counts);
          next = sym f ∙ h.ends;
          queries =
              ap (λ (x : List (List Pattern)). sets queries count (map query_of x)) (sym e)
              ∙ h.gives
              ∙ sets_front (query_of []) 16 (map query_of qs) (omega (arith, items-few ask_reader text 16 at))
              ∙ ap (λ (n : ℕ). map query_of qs ++ replicate (16 - n) (query_of [])) l;
        }

    pub asks-full : 16 ≤ count → AsksFrom text at (record { value = 16; next = i }) queries
    asks-full e =
        let z : 16 - count ≡ 0 = omega arith in
        let k : count ≡ 16 = omega (arith, h.few) in
        subst (λ (n : ℕ). AsksFrom text at (record { value = n; next = i }) queries) k
        (done
        (ap (λ (k : ℕ). items (many k ask_reader text i)) z ∙ items-none ask_reader text i)
        (ap (λ (k : ℕ). after (many k ask_reader text i)) z ∙ after_none ask_reader text i))

    pub asks_stop : bad ≡ mapped query_of (ask_reader text i) → AsksFrom text at (record { value = count; next = i }) queries
    asks_stop e =
        let b = mapped-bad query_of (ask_reader text i) e in
        done (items_stop ask_reader text i b (16 - count)) (after_stop ask_reader text i b (16 - count))

    pub asks-step : count < 16 → (q : Query) (next : ℕ) → got q next ≡ mapped query_of (ask_reader text i)
        → Asking text at (set queries count q) (count + 1) next
    asks-step l q next e =
        let g = mapped-got query_of (ask_reader text i) q next e in
        let z : 16 - count ≡ suc (16 - (count + 1)) = omega arith in
        let k = 16 - (count + 1) in
        let j = 16 - count in
        let on = items-on ask_reader text k j i next g.0 g.1 z in
        let n : length (items (many j ask_reader text i)) ≡ suc (length (items (many k ask_reader text next))) = ap length on in
        record {
          few = omega arith;
          counts = omega (arith, h.counts);
          gives =
              (λ m. sets (set queries count (g.2 m)) (add-one count m) (map query_of (items (many k ask_reader text next))))
              ∙ ap (λ (x : List (List Pattern)). sets queries count (map query_of x)) (sym on)
              ∙ h.gives;
          ends = sym (after_on ask_reader text k j i next g.0 g.1 z) ∙ h.ends;
        }
