-- One pass over the table keeps every choice that puts the pattern in it, and so do the passes for all patterns.
-- Assumes nothing.
use Prim.Native.Nat.{ℕ, ◌/◌, ◌<◌, ◌≤◌}
use native.Mathlib.Omega.{arith}
use native.Mathlib.Decide.{ℕ_discrete}
use mathlib.Core.Path.{◌≡◌, refl, sym, ap, subst, ◌∙◌}
use mathlib.Core.Bool.{Bool, true, false}
use mathlib.Core.List.{List, Memᴰ as Mem}
use lib.ListN.{length}
use Rattle.model.specs.Partition.{label}
use Rattle.model.specs.Triples.{triples}
use Rattle.query.specs.declared.End.{End}
use Rattle.query.specs.declared.End.TheVariants.{Var, Code}
use Rattle.query.specs.declared.Pattern.{Pattern}
use Rattle.query.specs.declared.Query.{Query}
use Rattle.query.specs.Ask.{pattern_at, wrong_pattern_end}
use Rattle.query.specs.Match.{stands_for, pattern_triple}
use Rattle.query.proofs.Steps.{code-no-variable, one-variable}
use Rattle.query_parts.proofs.Ends.{variable-below}
use Rattle.query_rows.specs.Rows.{in_row, Within, RowSet, Sized}
use Rattle.query_rows.proofs.Rows.{allows-row}
use Rattle.query_domains.specs.Domains.{EndsMarked, AllMarked, VariableBelow, DomainKept, LaterKept, Swept, Filled, SweptAll}
use Rattle.query_domains.proofs.Supports.{row-allows, allows-more}
use Rattle.query_domains.proofs.Marks.{choice_marked}

-- ── variables at ends ──
-- check 6 passed
pub right-below : (n : ℕ) (e : End) → wrong_pattern_end n e ≡ false → VariableBelow e
right-below n e w u h = variable-below n u e h w

-- ── the domain of one end ──
-- a choice whose nodes are in the rows, with the node of the end in row w
module _ (d d' : List ℕ) (σ entry : ℕ → ℕ) (w : ℕ) where
  end_kept : (e : End) → DomainKept d d' e w → in_row d w (stands_for entry σ e) ≡ true → (v : ℕ) → in_row d v (σ v) ≡ true → in_row d' v (σ v) ≡ true
  end_kept (Code c) k there v h = k.others v (σ v) (λ e. code-no-variable _ v c refl e) ∙ h
  end_kept (Var u) k there v h = go (ℕ_discrete u v)
    where
      go : Dec (u ≡ v) → in_row d' v (σ v) ≡ true
      go (yes z) = k.row v (σ v) (ap Var z) ∙ subst (λ (i : ℕ). in_row d w (σ i) ≡ true) z there
      go (no n) = k.others v (σ v) (λ z. n (one-variable _ v u refl z)) ∙ h

-- ── one pass ──
module _ (table map d : List ℕ) (p : Pattern) (s : Sized d) (below-s : VariableBelow p.subject) (below-o : VariableBelow p.object)
    (d₁ d₂ d₃ : List ℕ) (r : Bool) (c₈ : RowSet d d₁ 8 0) (c₉ : RowSet d₁ d₂ 9 0) (m : AllMarked table map d₂ d₃ p (length table / 3) r) where
  cleared-size : length d₂ ≡ length d
  cleared-size = c₉.size ∙ c₈.size

  marked-size : length d₃ ≡ length d
  marked-size = m.size ∙ cleared-size

  -- rows 8 and 9 aside, no row loses a node
  cleared : (v x : ℕ) → (v ≡ 8 → ⊥) → (v ≡ 9 → ⊥) → in_row d v x ≡ true → in_row d₂ v x ≡ true
  cleared v x n₈ n₉ h = c₉.others v x n₉ ∙ c₈.others v x n₈ ∙ h

  marked-later : LaterKept d d₃
  marked-later v x l h = m.kept v x (cleared v x (λ z. omega arith) (λ z. omega arith) h)

  module _ (σ : ℕ → ℕ) (w : Within d σ) where
    within-cleared : Within d₂ σ
    within-cleared v l = allows-more d d₂ cleared-size v (σ v) (cleared v (σ v) (λ z. omega arith) (λ z. omega arith)) (w v l)

    within-marked : Within d₃ σ
    within-marked v l = allows-more d₂ d₃ m.size v (σ v) (m.kept v (σ v)) (within-cleared v l)

    marks : Mem (pattern_triple (label map) σ p) (triples table) → EndsMarked d₃ (pattern_triple (label map) σ p) × (r ≡ true)
    marks t = choice_marked table map d₂ p below-s below-o σ within-cleared d₃ r m t

  pub none-swept : r ≡ false → Swept table map d d₃ p false
  none-swept n = record {
    size = marked-size;
    later = marked-later;
    within = λ σ w t. within-marked σ w;
    some = λ σ w t. sym n ∙ (marks σ w t).1;
  }

  module _ (d₄ d₅ : List ℕ) (k₈ : DomainKept d₃ d₄ p.subject 8) (k₉ : DomainKept d₄ d₅ p.object 9) where
    row_nine : (x : ℕ) → in_row d₄ 9 x ≡ in_row d₃ 9 x
    row_nine x = k₈.others 9 x (λ z. let l : 9 < 8 = below-s 9 z in omega arith)

    pub some-swept : Swept table map d d₅ p true
    some-swept = record {
      size = k₉.size ∙ k₈.size ∙ marked-size;
      later = λ v x l h.
          k₉.others v x (λ z. let o : v < 8 = below-o v z in omega arith)
          ∙ k₈.others v x (λ z. let o : v < 8 = below-s v z in omega arith)
          ∙ marked-later v x l h;
      within = λ σ w t v l.
          let e : EndsMarked d₃ (pattern_triple (label map) σ p) = (marks σ w t).0 in
          let h₃ : in_row d₃ v (σ v) ≡ true = allows-row d₃ (Var v) (σ v) v refl (omega (arith, marked-size, s.0)) ∙ within-marked σ w v l in
          let h₄ : in_row d₄ v (σ v) ≡ true = end_kept d₃ d₄ σ (label map) 8 p.subject k₈ e.subject v h₃ in
          row-allows d₅ v (σ v) (end_kept d₄ d₅ σ (label map) 9 p.object k₉ (row_nine _ ∙ e.object) v h₄);
      some = λ σ w t. refl;
    }

-- ── the passes for the patterns from the k-th on ──
-- the domains after some of them, from d on
pub record SweptSome (table map d d' : List ℕ) (q : Query) (k : ℕ) : Type 0 where
  pub size : length d' ≡ length d
  pub later : LaterKept d d'
  pub within :
      (σ : ℕ → ℕ)
      → Within d σ
      → ((j : ℕ) → k ≤ j → j < q.count → Mem (pattern_triple (label map) σ (pattern_at q j)) (triples table))
      → Within d' σ

module _ (table map d : List ℕ) (q : Query) (k : ℕ) where
  module _ (d₁ d₂ : List ℕ) (j : ℕ) (r : Bool) (h : SweptSome table map d d₁ q k) (l : k ≤ j) (l' : j < q.count)
      (w : Swept table map d₁ d₂ (pattern_at q j) r) where
    pub one_more : SweptSome table map d d₂ q k
    one_more = record {
      size = w.size ∙ h.size;
      later = λ v x m y. w.later v x m (h.later v x m y);
      within = λ σ s t. w.within σ (h.within σ s t) (t j l l');
    }

    pub all_none : (d₀ b : List ℕ) → Filled d₀ d b → r ≡ false → SweptAll table map d₀ d₂ q k b false
    all_none d₀ b f n = record {
      size = one_more.size ∙ f.size;
      later = λ v x m y. one_more.later v x m (f.later v x m y);
      within = λ σ s. one_more.within σ (f.within σ s.agrees) s.puts;
      some = λ σ s. sym n ∙ w.some σ (h.within σ (f.within σ s.agrees) s.puts) (s.puts j l l');
    }

  pub all-swept : (d₀ d₁ b : List ℕ) → Filled d₀ d b → SweptSome table map d d₁ q k → SweptAll table map d₀ d₁ q k b true
  all-swept d₀ d₁ b f h = record {
    size = h.size ∙ f.size;
    later = λ v x m y. h.later v x m (f.later v x m y);
    within = λ σ s. h.within σ (f.within σ s.agrees) s.puts;
    some = λ σ s. refl;
  }
