-- Steps of a builder whose frozen part stays, and a loop of offers.
-- Assumes nothing.
use Prim.Native.Nat.{ℕ, ◌+◌, ◌*◌, ◌/◌, ◌<◌, ◌≤◌}
use mathlib.Core.Path.{◌≡◌, refl, sym, ◌∙◌, subst}
use mathlib.Core.Logic.{inl, inr, ⊎_elim}
use mathlib.Core.List.Memᴰ.{cases_cons as mem-cases}
use mathlib.Core.List.Memᴰ.{not-nil as no-mem}
use mathlib.Core.List.{List, [], ◌∷◌, Memᴰ as Mem}
use native.Mathlib.Omega.{arith}
use lib.ListN.{length}
use borrow.Author.Count.{below_more}
use Rattle.model.specs.declared.Triple.{Triple}
use Rattle.model.specs.Lists.{tabulate}
use Rattle.model.specs.Triples.{sorted}
use Rattle.model.specs.Order.{Rising}
use Rattle.theory.proofs.Lists.{tabulate-mem, mem-tabulate}
use Rattle.theory.proofs.Order.{sorted-rising, sorted-mem, mem-sorted, rising-length}
use Rattle.lists.specs.Flat.{at, RisingPart}
use Rattle.lists.proofs.Places.{tabulate-agree}
use Rattle.builder.specs.declared.Builder.{Builder}
use Rattle.builder.specs.declared.Full.{Full}
use Rattle.std.specs.declared.result.Result.{Result}
use Rattle.std.specs.declared.result.Result.TheVariants.{Ok, Err}
use Rattle.builder.specs.Builder.{first, opening, Offered, Growing, GrownBy, CollectedFrom}

-- an offer of a triple of U
module _ (U X : List Triple) (U-rising : Rising U) (l l' : List ℕ) (b : Builder) (t : Triple) (S : Growing U X l b) (m : Mem t U) where
  in_whole : (u : Triple) → u ≡ t → Mem u U
  in_whole u e = subst (λ (z : Triple). Mem z U) (sym e) m

  pub offer_step : (r : Result Builder Full) → Offered l l' b r t → GrownBy U X l l' b r
  offer_step (Ok b') O =
      let T = O.taken in
      record {
        size = O.same_base.size;
        goes_on = record {
          built = T.built;
          base_is = (λ i. tabulate (at l') 0 (T.base i)) ∙ tabulate-agree (at l') (at l) 0 b.base (λ i x y. O.same_base.places i (omega arith)) ∙ S.base_is;
          inside = λ u k. ⊎_elim (λ w. S.inside u w) (λ (e : u ≡ t). in_whole u e) ((T.members u).0 k);
        };
        keeps = λ u k. (T.members u).1 (inl k);
        over = tt;
      }
  offer_step (Err e) O =
      let few = rising-length (sorted (t ∷ first l b.filled)) U (sorted-rising _)
      (λ u k. ⊎_elim (λ (q : u ≡ t). in_whole u q) (λ w. S.inside u w) (mem-cases (sorted-mem u _ k))) in
      record { size = O.same_base.size; goes_on = tt; keeps = tt; over = omega (arith, few, O.over) }

pub offer_held : (l l' : List ℕ) (b b' : Builder) (t : Triple) → Offered l l' b (Ok b') t → Mem t (first l' b'.filled)
offer_held l l' b b' t O = (O.taken.members t).1 (inr refl)

pub step-none : (U X : List Triple) (l : List ℕ) (b : Builder) → Growing U X l b → GrownBy U X l l b (Ok b)
step-none U X l b S = record { size = refl; goes_on = S; keeps = λ u m. m; over = tt }

pub step_then : (U X : List Triple) (l m n : List ℕ) (b c : Builder) (r : Result Builder Full) → GrownBy U X l m b (Ok c) → GrownBy U X m n c r → GrownBy U X l n b r
step_then U X l m n b c (Ok d) S T =
    record { size = T.size ∙ S.size; goes_on = T.goes_on; keeps = λ u k. T.keeps u (S.keeps u k); over = tt }
step_then U X l m n b c (Err e) S T =
    record { size = T.size ∙ S.size; goes_on = tt; keeps = tt; over = subst (λ (z : ℕ). z / 3 < length U) S.size T.over }

-- ── a frozen part by itself ──
pub frozen : (U X : List Triple) (l : List ℕ) (count : ℕ) → 3 * count ≤ length l → RisingPart (at l) 0 count → first l count ≡ X → ((u : Triple) → Mem u X → Mem u U) → Growing U X l (opening count count)
frozen U X l count h R e f =
    record {
      built = record {
        base_end = omega arith;
        sorted_end = omega arith;
        room = h;
        base_rising = R;
        run_rising = λ i j x y z. absurd (omega arith);
        apart = λ i j x y z q. omega arith;
      };
      base_is = e;
      inside = λ u m. f u (subst (Mem u) e m);
    }

-- ── a loop of offers ──
module _ (f : ℕ → Triple) (n : ℕ) where
  abbrev all : List Triple
  all = sorted (tabulate f 0 n)

  -- the first i triples of f are held
  pub record Collecting (l₀ l : List ℕ) (s : Builder) (i : ℕ) : Type 0 where
    pub step : GrownBy all [] l₀ l (opening 0 0) (Ok s)
    pub done : (j : ℕ) → j < i → Mem (f j) (first l s.filled)

  pub collecting_start : (l : List ℕ) → Collecting l l (opening 0 0) 0
  unfolding tabulate
  collecting_start l =
      record {
        step = step-none all [] l (opening 0 0) (frozen all [] l 0 (omega arith) (λ i j x y z. absurd (omega arith)) refl (λ u m. absurd (no-mem m)));
        done = λ j h. absurd (omega arith);
      }

  module _ (l₀ l m : List ℕ) (s : Builder) (i : ℕ) (L : Collecting l₀ l s i) (t : Triple) (h : i < n) (e : t ≡ f i) where
    in_all : Mem t all
    in_all = mem-sorted t _ (subst (λ (z : Triple). Mem z (tabulate f 0 n)) (sym e) (mem-tabulate f 0 n i (omega arith) (omega arith)))

    one : (r : Result Builder Full) → Offered l m s r t → GrownBy all [] l m s r
    one r O = offer_step all [] (sorted-rising _) l m s t L.step.goes_on in_all r O

    on : (r : Result Builder Full) → Offered l m s r t → GrownBy all [] l₀ m (opening 0 0) r
    on r O = step_then all [] l₀ l m (opening 0 0) s r L.step (one r O)

    pub collecting_next : (c : Builder) → Offered l m s (Ok c) t → Collecting l₀ m c (i + 1)
    collecting_next c O =
        record {
          step = on (Ok c) O;
          done = below_more _ i (λ j x. (one (Ok c) O).keeps _ (L.done j x)) (subst (λ (z : Triple). Mem z (first m c.filled)) e (offer_held l m s c t O));
        }

    pub collecting_full : (x : Full) → Offered l m s (Err x) t → CollectedFrom f n l₀ m (Err x)
    collecting_full x O = let S = on (Err x) O in record { size = S.size; built = tt; members = tt; over = S.over }

  pub collecting_end : (l₀ l : List ℕ) (s : Builder) (i : ℕ) → Collecting l₀ l s i → n ≤ i → CollectedFrom f n l₀ l (Ok s)
  collecting_end l₀ l s i L h =
      record {
        size = L.step.size;
        built = L.step.goes_on.built;
        members = λ u. (λ m. sorted-mem u _ (L.step.goes_on.inside u m), held u);
        over = tt;
      }
    where
      held : (u : Triple) → Mem u (tabulate f 0 n) → Mem u (first l s.filled)
      held u m =
          let z = tabulate-mem f 0 n m in
          subst (λ (x : Triple). Mem x (first l s.filled)) (sym z.3) (L.done z.0 (omega (arith, z.2)))
