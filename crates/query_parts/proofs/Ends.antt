-- Checks 6 and 12, branch by branch.
-- Assumes nothing.
use Prim.Native.Nat.{ℕ, ◌<◌, ◌≤◌}
use native.Mathlib.Omega.{arith}
use mathlib.Core.Path.{◌≡◌, ◌∙◌}
use mathlib.Core.Bool.{Bool, true, false}
use lib.Dec.{leb, ltb}
use borrow.Author.Tests.{lt-ltb, le-ltb, eq-eqb, ne_eqb, ltb-false, leb-false}
use Rattle.model.specs.declared.Vocabulary.{Vocabulary}
use Rattle.model.specs.Lists.{any, tabulate}
use Rattle.query.specs.declared.End.{End}
use Rattle.query.specs.declared.End.TheVariants.{Var, Code}
use Rattle.query.specs.declared.Query.{Query}
use Rattle.query.specs.Ask.{pattern_at, wrong_pattern_end, wrong_pattern, counted_patterns, wrong_query, asks_schema, retired}

-- ── check 6 of an end ──
pub end-variable : (n v : ℕ) (e : End) → e ≡ Var v → ltb 7 v ≡ wrong_pattern_end n e
unfolding wrong_pattern_end
end-variable n v e h = rw h

pub end-code : (n c : ℕ) (e : End) → e ≡ Code c → leb n c ≡ wrong_pattern_end n e
unfolding wrong_pattern_end
end-code n c e h = rw h

-- ── check 6 of a query ──
module _ (n : ℕ) (q : Query) where
  pub query-none : q.count ≡ 0 → true ≡ wrong_query n q
  unfolding wrong_query
  query-none e = rw (eq-eqb _ _ e)

  module _ (some : q.count ≡ 0 → ⊥) where
    pub query-many : 8 < q.count → true ≡ wrong_query n q
    unfolding wrong_query
    query-many h = rw (ne_eqb _ _ some, lt-ltb _ _ h)

    -- then the patterns decide
    pub query-few : q.count ≤ 8 → {b : Bool} → b ≡ any (wrong_pattern n) (tabulate (pattern_at q) 0 q.count) → b ≡ wrong_query n q
    unfolding wrong_query counted_patterns
    query-few few e = rw (ne_eqb _ _ some, le-ltb _ _ few) e

-- ── check 12 of a query ──
pub retired-by : (w : Vocabulary) (q : Query) {b : Bool} → b ≡ any (asks_schema w) (tabulate (pattern_at q) 0 q.count) → b ≡ retired w q
unfolding retired counted_patterns
retired-by w q e = e

-- ── an end ──
pub variable-below : (n v : ℕ) (e : End) → e ≡ Var v → wrong_pattern_end n e ≡ false → v < 8
variable-below n v e h w = omega (arith, ltb-false 7 v (end-variable n v e h ∙ w))

pub code_below : (n c : ℕ) (e : End) → e ≡ Code c → wrong_pattern_end n e ≡ false → c < n
code_below n c e h w = leb-false n c (end-code n c e h ∙ w)
