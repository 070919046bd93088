-- Loading a part of the table behind a frozen part.
-- Assumes nothing.
use Prim.Native.Nat.{ℕ, ◌+◌, ◌*◌, ◌/◌, ◌<◌, ◌≤◌}
use mathlib.Core.Path.{◌≡◌, refl, sym, ◌∙◌, ap, subst}
use mathlib.Core.Logic.{◌⊎◌, inl, inr, ⊎_elim}
use mathlib.Core.Bool.{Bool, true, false, not, true≢false}
use mathlib.Core.List.Memᴰ.{append_cases}
use mathlib.Core.List.Memᴰ.{append_left}
use mathlib.Core.List.Memᴰ.{append_right}
use mathlib.Core.List.{List, ◌++◌, Memᴰ as Mem}
use native.Mathlib.Omega.{arith}
use lib.Dec.{eqb, ltb}
use lib.ListN.{length}
use borrow.Author.Count.{below_more}
use borrow.Author.Tests.{lt-ltb, ne_eqb}
use Rattle.model.specs.declared.Triple.{Triple}
use Rattle.model.specs.declared.Vocabulary.{Vocabulary}
use Rattle.model.specs.Codes.{kind, reserved, schema_property}
use Rattle.model.specs.Lists.{tabulate, when}
use Rattle.model.specs.Triples.{triples, sorted}
use Rattle.model.specs.Order.{Rising}
use Rattle.theory.proofs.Tests.{bool_cases, and_both}
use Rattle.theory.proofs.Lists.{tabulate-mem, mem-tabulate, when-mem, mem-when, collect-mem, mem-collect}
use Rattle.theory.proofs.Order.{sorted-rising, sorted-mem, mem-sorted, rising-length}
use Rattle.lists.specs.Flat.{at, RisingPart}
use Rattle.lists.proofs.Places.{triples-table}
use Rattle.builder.specs.declared.Builder.{Builder}
use Rattle.builder.specs.declared.Full.{Full}
use Rattle.std.specs.declared.result.Result.{Result}
use Rattle.std.specs.declared.result.Result.TheVariants.{Ok, Err}
use Rattle.builder.specs.Builder.{first, opening, Offered, Growing, GrownBy}
use Rattle.builder.proofs.Collecting.{offer_step, offer_held, step-none, step_then, frozen}
use Rattle.schema_load.specs.declared.Share.{Share}
use Rattle.schema_load.specs.declared.Share.TheVariants.{Schema, Other}
use Rattle.schema_load.specs.Loading.{chosen, part, OfferedIf, Added}

-- ── one offer ──
module _ (c r : Bool) (l l' : List ℕ) (b : Builder) (t : Triple) (e : r ≡ c) (h : r ≡ true) where
  steps : (x : Result Builder Full) → Offered l l' b x t → (U X : List Triple) → Rising U → Growing U X l b → (c ≡ true → Mem t U) → GrownBy U X l l' b x
  steps x O U X R S m = offer_step U X R l l' b t S (m (sym e ∙ h)) x O

  pub offered_chosen : (x : Result Builder Full) → Offered l l' b x t → OfferedIf c l l' b x t
  offered_chosen (Ok d) O = record { steps = steps (Ok d) O; held = λ k. offer_held l l' b d t O }
  offered_chosen (Err y) O = record { steps = steps (Err y) O; held = tt }

pub offered_none : (c r : Bool) (l : List ℕ) (b : Builder) (t : Triple) → r ≡ c → r ≡ false → OfferedIf c l l b (Ok b) t
offered_none c r l b t e h = record { steps = λ U X R S m. step-none U X l b S; held = λ k. absurd (true≢false (sym k ∙ sym e ∙ h)) }

module _ (v : Vocabulary) where
  -- ── the test ──
  -- the kinds 1 to 4 are schema triples
  pub kind-schema : (t : Triple) → 1 ≤ kind v t.property → kind v t.property ≤ 4 → schema_property v t.property ≡ true
  unfolding schema_property reserved
  kind-schema t l u = and_both (not (eqb (kind v t.property) 0)) (ltb (kind v t.property) 5) (ap not (ne_eqb (kind v t.property) 0 (λ z. omega arith))) (lt-ltb (kind v t.property) 5 (omega arith))

  pub chosen-schema : (t : Triple) → schema_property v t.property ≡ true → chosen v Schema t ≡ true
  unfolding chosen
  chosen-schema t e = e

  pub chosen-other : (t : Triple) → schema_property v t.property ≡ false → chosen v Other t ≡ true
  unfolding chosen
  chosen-other t e = ap not e

  -- ── the parts ──
  pub part-mem : (w : Share) (ts : List Triple) (t : Triple) → Mem t (part v w ts) → Mem t ts × (chosen v w t ≡ true)
  unfolding part
  part-mem w ts t m =
      let z = collect-mem (λ t. when (chosen v w t) t) ts m in
      let y = when-mem z.2 in
      (subst (λ (x : Triple). Mem x ts) (sym y.1) z.1, ap (chosen v w) y.1 ∙ y.0)

  pub mem-part : (w : Share) (ts : List Triple) (t : Triple) → Mem t ts → chosen v w t ≡ true → Mem t (part v w ts)
  unfolding part
  mem-part w ts t m e = mem-collect (λ t. when (chosen v w t) t) ts t m (mem-when e)

  -- each triple is in one of the two parts
  pub parts : (ts : List Triple) (t : Triple) → Mem t ts → Mem t (part v Schema ts) ⊎ Mem t (part v Other ts)
  parts ts t m =
      ⊎_elim (λ e. inl (mem-part Schema ts t m (chosen-schema t e))) (λ e. inr (mem-part Other ts t m (chosen-other t e))) (bool_cases (schema_property v t.property))

  -- ── the loop ──
  module _ (table : List ℕ) (w : Share) (count : ℕ) (l₀ : List ℕ) where
    abbrev all : List Triple
    all = sorted (part v w (triples table) ++ first l₀ count)

    abbrev X : List Triple
    X = first l₀ count

    -- the first i triples of the table, where they are chosen, are held
    pub record Loading (l : List ℕ) (s : Builder) (i : ℕ) : Type 0 where
      pub step : GrownBy all X l₀ l (opening count count) (Ok s)
      pub done : (j : ℕ) → j < i → chosen v w (at table j) ≡ true → Mem (at table j) (first l s.filled)

    pub loading_start : 3 * count ≤ length l₀ → RisingPart (at l₀) 0 count → Loading l₀ (opening count count) 0
    loading_start h R =
        record {
          step = step-none all X l₀ (opening count count) (frozen all X l₀ count h R refl (λ u m. mem-sorted u _ (append_right (part v w (triples table)) m)));
          done = λ j h. absurd (omega arith);
        }

    module _ (l m : List ℕ) (s : Builder) (i : ℕ) (L : Loading l s i) (t : Triple) (h : i < length table / 3) (e : t ≡ at table i) where
      in_table : Mem t (triples table)
      in_table =
          subst (Mem t) (sym (triples-table table))
          (subst (λ (z : Triple). Mem z (tabulate (at table) 0 (length table / 3))) (sym e)
          (mem-tabulate (at table) 0 (length table / 3) i (omega arith) (omega arith)))

      one : (x : Result Builder Full) → OfferedIf (chosen v w t) l m s x t → GrownBy all X l m s x
      one x O = O.steps all X (sorted-rising _) L.step.goes_on (λ k. mem-sorted t _ (append_left X (mem-part w (triples table) t in_table k)))

      on : (x : Result Builder Full) → OfferedIf (chosen v w t) l m s x t → GrownBy all X l₀ m (opening count count) x
      on x O = step_then all X l₀ l m (opening count count) s x L.step (one x O)

      pub loading_next : (c : Builder) → OfferedIf (chosen v w t) l m s (Ok c) t → Loading m c (i + 1)
      loading_next c O =
          record {
            step = on (Ok c) O;
            done = below_more _ i (λ j x k. (one (Ok c) O).keeps _ (L.done j x k)) (subst (λ (z : Triple). chosen v w z ≡ true → Mem z (first m c.filled)) e O.held);
          }

      pub loading_full : (y : Full) → OfferedIf (chosen v w t) l m s (Err y) t → Added v w (triples table) l₀ m count (Err y)
      loading_full y O =
          let S = on (Err y) O in
          record {
            size = S.size;
            room = tt;
            members = tt;
            over = λ out f.
                let few = rising-length all out (sorted-rising _) (λ u x. f u (append_cases (part v w (triples table)) (sorted-mem u _ x))) in
                omega (arith, few, S.over);
          }

    pub loading_end : (l : List ℕ) (s : Builder) (i : ℕ) → Loading l s i → length table / 3 ≤ i → Added v w (triples table) l₀ l count (Ok s)
    loading_end l s i L h =
        record {
          size = L.step.size;
          room = L.step.goes_on.built.room;
          members = λ u. (λ m. append_cases (part v w (triples table)) (sorted-mem u _ (L.step.goes_on.inside u m)), λ x. ⊎_elim (λ m. held u m) (λ m. L.step.keeps u m) x);
          over = tt;
        }
      where
        held : (u : Triple) → Mem u (part v w (triples table)) → Mem u (first l s.filled)
        held u m =
            let p = part-mem w (triples table) u m in
            let z = tabulate-mem (at table) 0 (length table / 3) (subst (Mem u) (triples-table table) p.0) in
            subst (λ (x : Triple). Mem x (first l s.filled)) (sym z.3) (L.done z.0 (omega (arith, z.2)) (ap (chosen v w) (sym z.3) ∙ p.1))
