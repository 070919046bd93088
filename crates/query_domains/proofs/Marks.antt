-- The ends of the triples that support a pattern are marked, and so those of a choice that puts it in the table.
-- Assumes nothing.
use Prim.Native.Nat.{ℕ, ◌+◌, ◌/◌, ◌<◌}
use native.Mathlib.Nat.{eq-or-lt_of_le}
use native.Mathlib.Omega.{arith}
use mathlib.Core.Path.{◌≡◌, refl, sym, subst, ◌∙◌}
use mathlib.Core.Bool.{Bool, true, ◌||◌}
use mathlib.Core.Logic.{⊎_elim}
use mathlib.Core.List.{List, Memᴰ as Mem}
use lib.ListN.{length}
use borrow.Author.Tests.{eq-eqb}
use Rattle.model.specs.declared.Triple.{Triple}
use Rattle.model.specs.Partition.{label}
use Rattle.model.specs.Triples.{triples}
use Rattle.theory.proofs.Lists.{tabulate-mem}
use Rattle.theory.proofs.Tests.{and_both, or_left, or_right}
use Rattle.lists.specs.Flat.{at}
use Rattle.lists.proofs.Places.{triples-table}
use Rattle.query.specs.declared.End.{End}
use Rattle.query.specs.declared.End.TheVariants.{Var, Code}
use Rattle.query.specs.declared.Pattern.{Pattern}
use Rattle.query.specs.Match.{stands_for, pattern_triple}
use Rattle.query_rows.specs.Rows.{Within}
use Rattle.query_domains.specs.Domains.{stands_at, supports, EndsMarked, TripleMarked, AllMarked, VariableBelow}
use Rattle.query_domains.proofs.Supports.{supports-more, choice_agrees}

-- ── the triples at all places before one ──
module _ (table map d : List ℕ) (p : Pattern) where
  pub all-step : (d₁ d₂ : List ℕ) (n : ℕ) (r s : Bool) → AllMarked table map d d₁ p n r → TripleMarked map d₁ d₂ p (at table n) s
      → AllMarked table map d d₂ p (n + 1) (r || s)
  all-step d₁ d₂ n r s h w = record {
    size = w.size ∙ h.size;
    kept = λ u y k. w.kept u y (h.kept u y k);
    ends = λ i l y. ⊎_elim {C = EndsMarked d₂ (at table i)}
        (λ (z : i ≡ n). subst (λ (j : ℕ). EndsMarked d₂ (at table j)) (sym z) (w.ends (here i z y)))
        (λ (z : i < n). still (h.ends i z y))
        (eq-or-lt_of_le {n = i} {m = n} (omega arith));
    told = λ i l y. ⊎_elim
        (λ (z : i ≡ n). or_right r s (w.told (here i z y)))
        (λ (z : i < n). or_left r s (h.told i z y))
        (eq-or-lt_of_le {n = i} {m = n} (omega arith));
  }
    where
      here : (i : ℕ) → i ≡ n → supports map d p (at table i) ≡ true → supports map d₁ p (at table n) ≡ true
      here i z y = subst (λ (j : ℕ). supports map d₁ p (at table j) ≡ true) z (supports-more d d₁ h.size h.kept map p (at table i) y)

      still : {t : Triple} → EndsMarked d₁ t → EndsMarked d₂ t
      still a = record { subject = w.kept _ _ a.subject; object = w.kept _ _ a.object }

-- ── a choice ──
-- one within the domains that puts the pattern in the table has a triple that supports it, so its ends are marked
module _ (table map d : List ℕ) (p : Pattern) (below-s : VariableBelow p.subject) (below-o : VariableBelow p.object)
    (σ : ℕ → ℕ) (w : Within d σ) where
  end-stands : (e : End) → VariableBelow e → stands_at map d e (stands_for (label map) σ e) ≡ true
  unfolding stands_at
  end-stands (Var v) l = w v (l v refl)
  end-stands (Code c) l = eq-eqb (label map c) (label map c) refl

  choice_supports : supports map d p (pattern_triple (label map) σ p) ≡ true
  choice_supports =
      and_both _ _ (eq-eqb p.property p.property refl) (and_both _ _ (end-stands p.subject below-s)
      (and_both _ _ (end-stands p.object below-o) (choice_agrees (label map) σ p.subject p.object)))

  pub choice_marked : (d' : List ℕ) (r : Bool) → AllMarked table map d d' p (length table / 3) r → Mem (pattern_triple (label map) σ p) (triples table)
      → EndsMarked d' (pattern_triple (label map) σ p) × (r ≡ true)
  choice_marked d' r h m =
      let f = tabulate-mem (at table) 0 (length table / 3) (subst (Mem (pattern_triple (label map) σ p)) (triples-table table) m) in
      let y : supports map d p (at table f.0) ≡ true = subst (λ (t : Triple). supports map d p t ≡ true) f.3 choice_supports in
      let l : f.0 < length table / 3 = omega (arith, f.2) in
      (subst (EndsMarked d') (sym f.3) (h.ends f.0 l y), h.told f.0 l y)
