-- The triples that link at a side, and a triple more of a table.
-- Assumes nothing.
use Prim.Native.Nat.{ℕ, ◌+◌, ◌<◌}
use mathlib.Core.Path.{◌≡◌, sym, ◌∙◌, ap, subst}
use mathlib.Core.Logic.{◌⊎◌, inl, inr, ⊎_elim}
use mathlib.Core.Bool.{true}
use mathlib.Core.List.{List}
use native.Mathlib.Omega.{arith}
use native.Mathlib.Decide.{ℕ_discrete}
use Rattle.model.specs.declared.Triple.{Triple}
use Rattle.model.specs.declared.Vocabulary.{Vocabulary}
use Rattle.model.specs.Triples.{is_data}
use Rattle.model.specs.Roster.{unmarked}
use Rattle.model.specs.declared.Side.{Side}
use Rattle.model.specs.declared.Side.TheVariants.{Source as source, Target as target}
use Rattle.model.specs.Cliques.{end, Has, links}
use Rattle.theory.specs.Tables.{Below}
use Rattle.theory.proofs.Tests.{and_both}
use Rattle.theory.proofs.Lists.{tabulate-mem, mem-tabulate}
use Rattle.lists.specs.Flat.{at, Before}

pub end_below : (n : ℕ) (t : Triple) → Below n t → (e : Side) → end e t < n
end_below n t b source = b.subject
end_below n t b target = b.object

-- ── one triple more ──
module _ (table : List ℕ) (i : ℕ) where
  pub up : (t : Triple) → Before table i t → Before table (i + 1) t
  up t m = let w = tabulate-mem (at table) 0 i m in subst (Before table (i + 1)) (sym w.3) (mem-tabulate (at table) 0 (i + 1) w.0 (omega arith) (omega (arith, w.2)))

  pub last : Before table (i + 1) (at table i)
  last = mem-tabulate (at table) 0 (i + 1) i (omega arith) (omega arith)

  pub back : (t : Triple) → Before table (i + 1) t → Before table i t ⊎ (t ≡ at table i)
  back t m = let w = tabulate-mem (at table) 0 (i + 1) m in go w.0 w.2 w.3 (ℕ_discrete w.0 i)
    where
      go : (j : ℕ) → j < 0 + (i + 1) → t ≡ at table j → Dec (j ≡ i) → Before table i t ⊎ (t ≡ at table i)
      go j h q (yes s) = inr (q ∙ ap (at table) s)
      go j h q (no n) = inl (subst (Before table i) (sym q) (mem-tabulate (at table) 0 i j (omega arith) (omega arith)))

module _ (v : Vocabulary) where
  module _ (table : List ℕ) (i : ℕ) where
    module _ (roster : List ℕ) (e : Side) (t : Triple) (is : t ≡ at table i) where
      pub has-back : (m p : ℕ) → Has v roster (Before table (i + 1)) e m p
          → Has v roster (Before table i) e m p ⊎ ((links v roster e t ≡ true) × (m ≡ end e t) × (p ≡ t.property))
      unfolding links
      has-back m p h =
          ⊎_elim
          (λ k. inl (record { by = h.by; held = k; data_triple = h.data_triple; is_end = h.is_end; plain = h.plain; property = h.property }))
          (λ k.
          let q : t ≡ h.by = is ∙ sym k in
          let s : end e t ≡ m = ap (end e) q ∙ h.is_end in
          inr (and_both (is_data v t) _ (ap (is_data v) q ∙ h.data_triple) (ap (unmarked roster) s ∙ h.plain), sym s, sym (ap (λ (x : Triple). x.property) q ∙ h.property)))
          ((back table i) h.by h.held)
