-- Which triples support a pattern within the domains, also with more nodes in the rows.
-- Assumes nothing.
use Prim.Native.Nat.{ℕ}
use mathlib.Core.Path.{◌≡◌, refl, sym, ap, ◌∙◌}
use mathlib.Core.Bool.{Bool, true, false, cond}
use mathlib.Core.Logic.{⊎_elim}
use mathlib.Core.List.{List}
use lib.Dec.{eqb, ltb}
use lib.ListN.{length}
use borrow.Author.Tests.{eq-eqb, eqb-true}
use Rattle.model.specs.declared.Triple.{Triple}
use Rattle.theory.proofs.Tests.{and_true, and_both, bool_cases}
use Rattle.query.specs.declared.End.{End}
use Rattle.query.specs.declared.End.TheVariants.{Var, Code}
use Rattle.query.specs.declared.Pattern.{Pattern}
use Rattle.query.specs.Match.{stands_for}
use Rattle.query_rows.specs.Rows.{in_row, allows}
use Rattle.query_domains.specs.Domains.{stands_at, ends_agree, supports}

-- the ends of the triple that a choice makes of a pattern agree
pub choice_agrees : (entry σ : ℕ → ℕ) (e f : End) → ends_agree e f (stands_for entry σ e) (stands_for entry σ f) ≡ true
unfolding ends_agree
choice_agrees entry σ (Var v) (Var w) = go (eqb v w) refl
  where
    go : (t : Bool) → eqb v w ≡ t → cond t (eqb (σ v) (σ w)) true ≡ true
    go true h = eq-eqb _ _ (ap σ (eqb-true _ _ h))
    go false h = refl
choice_agrees entry σ (Var v) (Code c) = refl
choice_agrees entry σ (Code c) f = refl

-- ── more nodes in the rows ──
-- a variable may have a node of its row
pub row-allows : (d : List ℕ) (v x : ℕ) → in_row d v x ≡ true → allows d (Var v) x ≡ true
unfolding allows
row-allows d v x h = ⊎_elim (λ z. rw z) (λ z. rw z h) (bool_cases (ltb (length d) 13))

module _ (d d' : List ℕ) (size : length d' ≡ length d) where
  pub allows-more : (v x : ℕ) → (in_row d v x ≡ true → in_row d' v x ≡ true) → allows d (Var v) x ≡ true → allows d' (Var v) x ≡ true
  unfolding allows
  allows-more v x f h =
      ap (λ (k : ℕ). cond (ltb k 13) true (in_row d' v x)) size
      ∙ ⊎_elim {C = cond (ltb (length d) 13) true (in_row d' v x) ≡ true}
      (λ z. rw z)
      (λ z. rw z (f (sym (ap (λ (b : Bool). cond b true (in_row d v x)) z) ∙ h)))
      (bool_cases (ltb (length d) 13))

  module _ (kept : (u y : ℕ) → in_row d u y ≡ true → in_row d' u y ≡ true) (map : List ℕ) where
    stands-more : (e : End) (x : ℕ) → stands_at map d e x ≡ true → stands_at map d' e x ≡ true
    unfolding stands_at
    stands-more (Var v) x h = allows-more v x (kept v x) h
    stands-more (Code c) x h = h

    pub supports-more : (p : Pattern) (t : Triple) → supports map d p t ≡ true → supports map d' p t ≡ true
    supports-more p t h =
        let a = and_true (eqb t.property p.property) _ h in
        let b = and_true (stands_at map d p.subject t.subject) _ a.1 in
        let c = and_true (stands_at map d p.object t.object) _ b.1 in
        and_both _ _ a.0 (and_both _ _ (stands-more p.subject t.subject b.0) (and_both _ _ (stands-more p.object t.object c.0) c.1))
