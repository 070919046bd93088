-- The pass over a list, and the answers of look up.
-- Assumes nothing.
use Prim.Native.Nat.{ℕ, ◌+◌, ◌≤◌, ◌/◌}
use mathlib.Core.Path.{◌≡◌, refl, sym, ◌∙◌, ap}
use mathlib.Core.Bool.{Bool, true, false, cond, ◌||◌}
use mathlib.Core.List.{List}
use native.Mathlib.Omega.{arith}
use native.Mathlib.Nat.{zero-add}
use lib.ListN.{length}
use mir.Val.{bool_byte}
use Rattle.model.specs.declared.Triple.{Triple}
use Rattle.model.specs.Lists.{any, how_many, tabulate}
use Rattle.model.specs.Triples.{triples, before, same, holds, place}
use Rattle.model.specs.Outcomes.{answer}
use Rattle.theory.proofs.Tests.{byte_of}
use Rattle.theory.proofs.Lists.{many-le, length-tabulate}
use Rattle.theory.proofs.Runs.{run-one, run-parts, many-one, many-parts}
use Rattle.lists.specs.Flat.{at}
use Rattle.lists.proofs.Places.{triples-table}

-- ── the pass ──
pub byte_few : (b : Bool) → bool_byte b ≤ 1
byte_few true = omega arith
byte_few false = omega arith

-- what is seen of the first i triples
pub record SeenTo (t : Triple) (l : List ℕ) (i : ℕ) (is_found : Bool) (count : ℕ) : Type 0 where
  pub found_is : is_found ≡ holds t (tabulate (at l) 0 i)
  pub place_is : count ≡ place t (tabulate (at l) 0 i)

module _ (t : Triple) (l : List ℕ) where
  pub seen_start : SeenTo t l 0 false 0
  unfolding holds any place how_many tabulate
  seen_start = record { found_is = refl; place_is = refl }

  pub seen_few : (i : ℕ) (f : Bool) (k : ℕ) → SeenTo t l i f k → k ≤ i
  unfolding place
  seen_few i f k S = omega (arith, S.place_is, many-le (λ x. before x t) (tabulate (at l) 0 i), length-tabulate (at l) 0 i)

  pub seen_step : (i : ℕ) (f : Bool) (k : ℕ) (u : Triple) (here early : Bool) → SeenTo t l i f k → u ≡ at l i → here ≡ same t u → early ≡ before u t
      → SeenTo t l (i + 1) (f || here) (k + bool_byte early)
  unfolding holds place
  seen_step i f k u here early S e h b =
      let first : Triple → Bool = λ x. before x t in
      let x : u ≡ at l (0 + i) = e ∙ ap (at l) (sym (zero-add i)) in
      record {
        found_is =
            (λ j. S.found_is j || (h ∙ ap (same t) x ∙ sym (run-one (same t) (at l) (0 + i))) j)
            ∙ sym (run-parts (same t) (at l) 0 i 1);
        place_is =
            (λ j. S.place_is j + (byte_of early ∙ ap (λ (y : Bool). cond y 1 0) (b ∙ ap first x) ∙ sym (many-one first (at l) (0 + i))) j)
            ∙ sym (many-parts first (at l) 0 i 1);
      }

  module _ (i : ℕ) (f : Bool) (k : ℕ) (S : SeenTo t l i f k) (e : length l / 3 ≤ i) (u : i ≤ length l / 3) where
    all : tabulate (at l) 0 i ≡ triples l
    all = let n : i ≡ length l / 3 = omega arith in ap (tabulate (at l) 0) n ∙ sym (triples-table l)

    pub seen_end : (b : Bool) → f ≡ b → answer b k ≡ answer (holds t (triples l)) (place t (triples l))
    seen_end b h = λ j. answer ((sym h ∙ S.found_is ∙ ap (holds t) all) j) ((S.place_is ∙ ap (place t) all) j)
