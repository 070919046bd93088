-- The triples of a table, place by place, in a clique list.
-- Assumes nothing.
use Prim.Native.Nat.{ℕ, ◌+◌, ◌/◌, ◌<◌}
use mathlib.Core.Path.{◌≡◌, refl, sym, ◌∙◌, subst}
use mathlib.Core.Logic.{inl, inr, ⊎_elim}
use mathlib.Core.Bool.{Bool, true, false}
use mathlib.Core.List.Memᴰ.{not-nil as no-mem}
use mathlib.Core.List.{List, Memᴰ as Mem}
use native.Mathlib.Omega.{arith}
use lib.ListN.{length}
use Rattle.model.specs.declared.Triple.{Triple}
use Rattle.model.specs.declared.Vocabulary.{Vocabulary}
use Rattle.model.specs.Lists.{tabulate}
use Rattle.model.specs.Triples.{triples, is_data}
use Rattle.model.specs.Roster.{unmarked}
use Rattle.model.specs.declared.Side.{Side}
use Rattle.model.specs.Cliques.{end, links}
use Rattle.theory.proofs.Tests.{and_true, not_both}
use Rattle.theory.specs.Tables.{Below, Right}
use Rattle.theory.proofs.Weak.{clique-self}
use Rattle.theory.proofs.Accepted.{room, below, has-marked}
use Rattle.lists.specs.Flat.{Emptied, at, Before}
use Rattle.roster_checks.proofs.Tables.{at_in, below_at}
use Rattle.roster_checks.proofs.Sides.{end_below, up, last, has-back}
use Rattle.property_groups.specs.Grouping.{Grouping, Grouped, group_opened, Linkable, NodeLinked}
use Rattle.property_groups.proofs.Steps.{Grown, widen, skip, open_state, linkable, link-state}

module _ (v : Vocabulary) where
  module _ (table : List ℕ) (i : ℕ) where
    module _ (roster : List ℕ) (e : Side) (t : Triple) (is : t ≡ at table i) where
      -- a triple that links nothing
      pub place-skipped : (l : List ℕ) → links v roster e t ≡ false → Grouped v table roster e i l → Grouped v table roster e (i + 1) l
      place-skipped l f g =
          record { active = g.active; state = skip v roster e (up table i) (λ m p h. ⊎_elim (λ o. o) (λ x. absurd (not_both x.0 f)) (has-back v table i roster e t is m p h)) g.state }

      module _ (R : Right v roster (triples table)) (w : i < length table / 3) where
        pub place-below : Below (length roster) t
        place-below = below_at (length roster) table i t (below v roster (triples table) R) w is

        -- a triple that links its property at its node
        module _ (l : List ℕ) (g : Grouped v table roster e i l) (h : links v roster e t ≡ true) where
          parts : (is_data v t ≡ true) × (unmarked roster (end e t) ≡ true)
          unfolding links
          parts = and_true (is_data v t) _ h

          grown : Grown v roster e (Before table i) (Before table (i + 1)) (end e t) t.property
          grown = record {
            up = (up table i);
            own = record { by = t; held = subst (Before table (i + 1)) (sym is) (last table i); data_triple = parts.0; is_end = refl; plain = parts.1; property = refl };
            back = λ m p k. ⊎_elim (λ o. inl o) (λ x. inr (x.1, x.2)) (has-back v table i roster e t is m p k);
          }

          marked : unmarked roster t.property ≡ false
          marked =
              let m = subst (λ (x : Triple). Mem x (triples table)) (sym is) (at_in table i w) in
              has-marked v roster (triples table) R {e = e} (record { by = t; held = m; data_triple = parts.0; is_end = refl; plain = parts.1; property = refl })

          pub property-inside : t.property < length l
          property-inside = omega (arith, place-below.property, g.state.size)

          module _ (l₁ : List ℕ) (o : l₁ ≡ group_opened l t.property) where
            between : (B : ℕ → Bool) × Grouping v roster e B (Before table (i + 1)) (Before table i) l₁ × (B t.property ≡ true)
            between =
                rw o
                (open_state v roster e g.active (Before table (i + 1)) (Before table i) l (widen v roster e (up table i) g.state) t.property property-inside marked
                (clique-self v roster grown.own))

            node-inside : end e t < length l₁
            node-inside = omega (arith, end_below (length roster) t place-below e, between.1.size)

            pub place-linkable : (n : ℕ) → n ≡ end e t → Linkable l₁ n t.property
            place-linkable n q =
                subst (λ (k : ℕ). Linkable l₁ k t.property) (sym q)
                (linkable v roster e between.0 (Before table (i + 1)) (Before table i) l₁ between.1 (end e t) t.property parts.1 node-inside between.2 grown)

            pub place-linked : (n : ℕ) → n ≡ end e t → (l₂ : List ℕ) → NodeLinked l₁ l₂ n t.property → Grouped v table roster e (i + 1) l₂
            place-linked n q l₂ s = record {
              active = between.0;
              state = link-state v roster e between.0 (Before table (i + 1)) (Before table i) l₁ between.1 (end e t) t.property parts.1 node-inside between.2 grown l₂
                  (subst (λ (k : ℕ). NodeLinked l₁ l₂ k t.property) q s);
            }

  -- ── before the first triple ──
  pub grouped-start : (table roster : List ℕ) (e : Side) (l₀ l : List ℕ) → Right v roster (triples table) → length l₀ ≡ length roster → Emptied l₀ l (length l₀) → Grouped v table roster e 0 l
  unfolding tabulate
  grouped-start table roster e l₀ l R n d = record {
    active = λ x. false;
    state = record {
      size = d.size ∙ n;
      forest = record {
        size = omega (arith, d.size, room v roster (triples table) R);
        inside = λ x a. absurd (not_both a refl);
        falls = λ x a. absurd (not_both a refl);
        links = λ x a. absurd (not_both a refl);
      };
      marked = λ p a. absurd (not_both a refl);
      sound = λ p a. absurd (not_both a refl);
      none = λ p h m a. d.absents p (omega (arith, d.size));
      first = λ m p h. absurd (no-mem h.held);
      held = λ m h u. inl (d.absents m (omega (arith, d.size)));
    };
  }
  -- ── after the last triple ──
