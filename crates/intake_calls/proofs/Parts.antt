-- What a state that holds H says of its parts.
-- Assumes nothing.
use Prim.Native.Nat.{ℕ, ◌*◌, ◌≤◌}
use mathlib.Core.Path.{◌≡◌, sym, ◌∙◌, ap, subst}
use mathlib.Core.Logic.{⊎_elim}
use mathlib.Core.Bool.{Bool, true, false, not}
use mathlib.Core.List.{List}
use native.Mathlib.Omega.{arith}
use native.Mathlib.Nat.{zero-add}
use lib.ListN.{length, get_or}
use borrow.Author.Tests.{not-false}
use Rattle.model.specs.declared.Triple.{Triple}
use Rattle.model.specs.declared.Vocabulary.{Vocabulary}
use Rattle.model.specs.Codes.{absent}
use Rattle.model.specs.Lists.{any, padded}
use Rattle.model.specs.Triples.{slots, holds, place, listed}
use Rattle.model.specs.Order.{Rising}
use Rattle.model.specs.Roster.{covers_triple, covers, wrong_triple, wrong_codes}
use Rattle.model.specs.Partition.{label}
use Rattle.model.specs.Cliques.{Node}
use Rattle.model.specs.Classes.{map_of}
use Rattle.model.specs.Summary.{moved, summary, weights}
use Rattle.model.specs.Intake.{State, state_of, Valid}
use Rattle.theory.specs.Tables.{AllBelow, In}
use Rattle.theory.proofs.Tests.{or-false, or_neither}
use Rattle.theory.proofs.Lists.{any_none, none_any, all-at, tabulate-at}
use Rattle.theory.proofs.Covered.{all_codes}
use Rattle.theory.proofs.Mapped.{node_or, map-absent}
use Rattle.lists.specs.Flat.{at, RisingPart, Place}
use Rattle.lists.proofs.Places.{rising-places}
use Rattle.lists.proofs.Search.{place-bound}
use Rattle.builder.specs.Builder.{first}
use Rattle.intake_opening.specs.Opening.{state_with}
use Rattle.intake_insertion.specs.Places.{StandsAt, KnownAt, bad}
use Rattle.intake_insertion.proofs.Listed.{listed-first}

module _ (v : Vocabulary) where
  -- a triple is wrong neither way
  pub good-parts : (roster : List ℕ) (u : Triple) → bad v roster u ≡ false → (wrong_triple v (length roster) u ≡ false) × (covers_triple v roster u ≡ true)
  unfolding bad
  good-parts roster u h = let x = or-false (wrong_triple v (length roster) u) _ h in (x.0, not-false _ x.1)

  parts-good : (roster : List ℕ) (u : Triple) → wrong_triple v (length roster) u ≡ false → covers_triple v roster u ≡ true → bad v roster u ≡ false
  unfolding bad
  parts-good roster u a b = or_neither (wrong_triple v (length roster) u) _ a (ap not b)

  module _ (roster triples sums weighed map₀ : List ℕ) (held summarised : ℕ) where
    abbrev s : State
    s = state_with triples sums weighed map₀ held summarised

    module _ (H : List Triple) (W : Valid v roster s H) where
      pub triples-is : triples ≡ listed (length triples) H
      unfolding state_of
      triples-is = ap (λ (x : State). x.triples) W.is_state

      pub sums_is : sums ≡ listed (length sums) (summary v roster H)
      unfolding state_of
      sums_is = ap (λ (x : State). x.summary) W.is_state

      pub weighed-is : weighed ≡ padded (length weighed) (weights v roster H)
      unfolding state_of
      weighed-is = ap (λ (x : State). x.weights) W.is_state

      pub map_is : map₀ ≡ map_of v roster H
      unfolding state_of
      map_is = ap (λ (x : State). x.map) W.is_state

      pub held-is : held ≡ length H
      unfolding state_of
      held-is = ap (λ (x : State). x.held) W.is_state

      pub summarised-is : summarised ≡ length (summary v roster H)
      unfolding state_of
      summarised-is = ap (λ (x : State). x.summarised) W.is_state

      pub fits : 3 * length H ≤ length triples
      unfolding slots
      fits = omega (arith, W.fits)

      pub first-is : first triples held ≡ H
      first-is = ap (first triples) held-is ∙ listed-first triples (length triples) H triples-is fits

      pub rising : RisingPart (at triples) 0 held
      rising =
          let r = rising-places (at triples) 0 held (subst Rising (sym first-is) W.rising) in
          λ i j a b d. r i j a b (omega arith)

      pub none-bad : any (bad v roster) (first triples held) ≡ false
      unfolding wrong_codes covers
      none-bad =
          subst (λ (ts : List Triple). any (bad v roster) ts ≡ false) (sym first-is)
          (none_any (bad v roster) H (λ u m. parts-good roster u (any_none (wrong_triple v (length roster)) H W.codes u m) (all-at (covers_triple v roster) H W.covered u m)))

      -- every held triple's codes are below N
      pub all-below : AllBelow (length roster) H
      all-below u k = (all_codes v (length roster) H W.codes u k).below

      -- a code that the map does not give as absent is a node
      pub node : (c : ℕ) → length roster ≤ absent → (label map₀ c ≡ absent → ⊥) → Node (In H) c
      node c room n =
          ⊎_elim (λ (x : Node (In H) c). x)
          (λ (x : Node (In H) c → ⊥). absurd (n (ap (λ (z : List ℕ). label z c) map_is ∙ map-absent v roster H all-below room c x))) (node_or H c)

      -- the lines of the summary
      module _ (few : 3 * summarised ≤ length sums) where
        pub sum_fits : 3 * length (summary v roster H) ≤ length sums
        sum_fits = subst (λ (n : ℕ). 3 * n ≤ length sums) summarised-is few

        pub lines_are : first sums summarised ≡ summary v roster H
        lines_are = ap (first sums) summarised-is ∙ listed-first sums (length sums) (summary v roster H) sums_is sum_fits

        -- the image of t stands at place j of the summary
        pub image-is : (t : Triple) (j : ℕ) → KnownAt sums summarised map₀ t j → at sums j ≡ moved (label (map_of v roster H)) t
        image-is t j K = K.image ∙ ap (λ (z : List ℕ). moved (label z) t) map_is

        pub line-is : (t : Triple) (j : ℕ) → KnownAt sums summarised map₀ t j → get_or (summary v roster H) j t ≡ moved (label (map_of v roster H)) t
        line-is t j K =
            ap (λ (l : List Triple). get_or l j t) (sym lines_are) ∙ tabulate-at (at sums) t 0 summarised j K.inside ∙ ap (at sums) (zero-add j)
            ∙ image-is t j K

    -- the place that bisection finds for t, and whether t stands there
    module _ (t : Triple) (i : ℕ) (P : Place (at triples) 0 held t i) (r : Bool) (S : StandsAt triples held i t r) where
      pub holds-is : (b : Bool) → r ≡ b → (H : List Triple) → Valid v roster s H → holds t H ≡ b
      holds-is b e H W = ap (holds t) (sym (first-is H W)) ∙ sym (S.exact (rising H W) (P.bound (rising H W))) ∙ e

      -- it is the number of held triples that come before t
      pub place_is : (H : List Triple) → Valid v roster s H → place t H ≡ i
      place_is H W = ap (place t) (sym (first-is H W)) ∙ place-bound (at triples) held i t (P.bound (rising H W))
