-- Choices for two parts of a query that share no variable without a node are one for both.
-- Assumes nothing.
use Prim.Native.Nat.{ℕ, ◌-◌, ◌<◌, ◌≤◌}
use native.Mathlib.Omega.{arith}
use native.Mathlib.Decide.{ℕ_discrete, dec_lt}
use mathlib.Core.Path.{◌≡◌, refl, sym, ap, subst, ◌∙◌}
use mathlib.Core.Bool.{Bool, true, false, cond, ◌||◌, true≢false}
use mathlib.Core.List.Memᴰ
use mathlib.Core.List.{List, Memᴰ as Mem}
use mathlib.Core.Logic.{inl, inr, ⊎_elim}
use lib.Dec.{eqb}
use lib.ListN.{get_or}
use borrow.Author.Tests.{eq-eqb, eqb-true}
use Rattle.model.specs.declared.Triple.{Triple}
use Rattle.model.specs.Codes.{absent}
use Rattle.model.specs.Lists.{any, tabulate}
use Rattle.model.specs.Partition.{label}
use Rattle.theory.proofs.Tests.{cond_cases, or_true, or_left, or_right, not_true_false}
use Rattle.theory.proofs.Runs.{run_holds, run-found}
use Rattle.query.specs.declared.End.{End}
use Rattle.query.specs.declared.End.TheVariants.{Var, Code}
use Rattle.query.specs.declared.Pattern.{Pattern}
use Rattle.query.specs.declared.Query.{Query}
use Rattle.query.specs.Ask.{pattern_at, wrong_query}
use Rattle.query.specs.Match.{stands_for, pattern_triple}
use Rattle.query.specs.Choices.{Agrees, CanPut}
use Rattle.query.proofs.Steps.{Good, good-query}
use Rattle.query_order.specs.Order.{first_patterns}
use Rattle.query_components.specs.Parts.{Holds, Apart}

-- ── a pattern is put alike by choices that agree on its variables ──
end-alike : (entry σ τ : ℕ → ℕ) (e : End) → ((v : ℕ) → e ≡ Var v → σ v ≡ τ v) → stands_for entry σ e ≡ stands_for entry τ e
end-alike entry σ τ (Var v) h = h v refl
end-alike entry σ τ (Code c) h = refl

put-alike : (entry σ τ : ℕ → ℕ) (p : Pattern) → ((v : ℕ) → Holds v p → σ v ≡ τ v) → pattern_triple entry σ p ≡ pattern_triple entry τ p
put-alike entry σ τ p h = λ i. record {
  subject = end-alike entry σ τ p.subject (λ v e. h v (inl e)) i;
  property = p.property;
  object = end-alike entry σ τ p.object (λ v e. h v (inr e)) i;
}

-- ── whether a variable is in a pattern ──
is_variable : ℕ → End → Bool
is_variable v (Var w) = eqb w v
is_variable v (Code c) = false

holds : ℕ → Pattern → Bool
holds v p = is_variable v p.subject || is_variable v p.object

is-variable : (v : ℕ) (e : End) → is_variable v e ≡ true → e ≡ Var v
unfolding is_variable
is-variable v (Var w) h = ap (λ (x : ℕ). Var x) (eqb-true w v h)
is-variable v (Code c) h = absurd (true≢false (sym h))

variable-is : (v : ℕ) (e : End) → e ≡ Var v → is_variable v e ≡ true
unfolding is_variable
variable-is v e h = ap (is_variable v) h ∙ eq-eqb v v refl

holds-variable : (v : ℕ) (p : Pattern) → holds v p ≡ true → Holds v p
unfolding holds
holds-variable v p h =
    ⊎_elim (λ e. inl (is-variable v p.subject e)) (λ e. inr (is-variable v p.object e)) (or_true (is_variable v p.subject) _ h)

variable-holds : (v : ℕ) (p : Pattern) → Holds v p → holds v p ≡ true
unfolding holds
variable-holds v p =
    ⊎_elim (λ e. or_left (is_variable v p.subject) _ (variable-is v p.subject e))
    (λ e. or_right (is_variable v p.subject) _ (variable-is v p.object e))

-- ── two parts ──
-- the variables of a query that is no wrong one are below 8
below-eight : (n : ℕ) (q : Query) → wrong_query n q ≡ false → (i v : ℕ) → i < q.count → Holds v (pattern_at q i) → v < 8
below-eight n q h i v l (inl e) = subst (Good n) e ((good-query n q h).subject i l)
below-eight n q h i v l (inr e) = subst (Good n) e ((good-query n q h).object i l)

module _ (q : Query) (k j : ℕ) where
  -- whether a variable is in a pattern from the k-th to before the j-th
  first : ℕ → Bool
  first v = any (holds v) (tabulate (pattern_at q) k (j - k))

  first_in : (i v : ℕ) → k ≤ i → i < j → Holds v (pattern_at q i) → first v ≡ true
  unfolding first
  first_in i v a l h = run_holds (holds v) (pattern_at q) k (j - k) i a (omega arith) (variable-holds v (pattern_at q i) h)

  first_not : (b : List ℕ) → Apart b q k j → (i v : ℕ) → v < 8 → get_or b v 0 ≡ absent → j ≤ i → i < q.count → Holds v (pattern_at q i)
      → first v ≡ false
  unfolding first
  first_not b apart i v e free l m h =
      not_true_false (first v)
      (λ t.
      let w = run-found (holds v) (pattern_at q) k (j - k) t in
      apart w.0 i v e free w.1 (omega (arith, w.1, w.2)) l m (holds-variable v _ w.3) h)

  -- one choice for the variables of those patterns, one for the others
  both : (σ τ : ℕ → ℕ) → ℕ → ℕ
  both σ τ v = cond (first v) (σ v) (τ v)

  both_first : (σ τ : ℕ → ℕ) (v : ℕ) → first v ≡ true → both σ τ v ≡ σ v
  unfolding both
  both_first σ τ v h = rw h

  both-second : (σ τ : ℕ → ℕ) (v : ℕ) → first v ≡ false → both σ τ v ≡ τ v
  unfolding both
  both-second σ τ v h = rw h

  -- where both agree with the bindings, so does that
  both-agree : (σ τ : ℕ → ℕ) (b : List ℕ) → Agrees σ b → Agrees τ b → Agrees (both σ τ) b
  unfolding both
  both-agree σ τ b s t v l n = cond_cases (λ (x : ℕ). x ≡ get_or b v 0) (first v) (λ e. s v l n) (λ e. t v l n)

pub parts-joined : (ts : List Triple) (map : List ℕ) (n : ℕ) (q : Query) (b : List ℕ) (k j z : ℕ) → wrong_query n q ≡ false → Apart b q k j
    → z ≤ q.count → CanPut ts map (first_patterns q j) k b → CanPut ts map (first_patterns q z) j b → CanPut ts map (first_patterns q z) k b
parts-joined ts map n q b k j z right apart l (σ, s) (τ, t) =
    (ρ, record { agrees = agree; puts = λ i a m. put-at i a m (dec_lt i j) })
  where
    ρ : ℕ → ℕ
    ρ = both q k j σ τ

    agree : Agrees ρ b
    agree = both-agree q k j σ τ b s.agrees t.agrees

    -- at a variable of a pattern from the j-th on
    second : (i v : ℕ) → j ≤ i → i < q.count → Holds v (pattern_at q i) → Dec (get_or b v 0 ≡ absent) → ρ v ≡ τ v
    second i v d m h (yes e) = both-second q k j σ τ v (first_not q k j b apart i v (below-eight n q right i v m h) e d m h)
    second i v d m h (no o) = let w = below-eight n q right i v m h in agree v w o ∙ sym (t.agrees v w o)

    put-at : (i : ℕ) → k ≤ i → i < z → Dec (i < j) → Mem (pattern_triple (label map) ρ (pattern_at q i)) ts
    put-at i a m (yes d) =
        Memᴰ.cast {a = pattern_triple (label map) ρ (pattern_at q i)}
        (put-alike (label map) ρ σ (pattern_at q i) (λ v h. both_first q k j σ τ v (first_in q k j i v a d h))) (s.puts i a d)
    put-at i a m (no d) =
        let o : j ≤ i = omega arith in
        Memᴰ.cast {a = pattern_triple (label map) ρ (pattern_at q i)}
        (put-alike (label map) ρ τ (pattern_at q i) (λ v h. second i v o (omega arith) h (ℕ_discrete (get_or b v 0) absent))) (t.puts i o m)
