-- Searching a place among triples that need not be rising, the image of a triple, and wrong triples that are held.
-- Assumes nothing.
use Prim.Native.Nat.{ℕ, ◌-◌, ◌/◌, ◌<◌, ◌≤◌}
use mathlib.Core.Path.{◌≡◌, sym, ◌∙◌, ap, subst}
use mathlib.Core.Bool.{Bool, true, false, not, true≢false}
use mathlib.Core.List.{List}
use native.Mathlib.Omega.{arith}
use native.Mathlib.Nat.{sub-zero}
use lib.Dec.{eqb}
use lib.ListN.{length, get_or}
use borrow.Author.Tests.{eqb-false}
use Rattle.model.specs.declared.Triple.{Triple}
use Rattle.model.specs.declared.Vocabulary.{Vocabulary}
use Rattle.model.specs.Codes.{absent}
use Rattle.model.specs.Lists.{tabulate}
use Rattle.model.specs.Triples.{triple, same, holds}
use Rattle.model.specs.Roster.{covers_triple, wrong_triple}
use Rattle.model.specs.Partition.{label}
use Rattle.model.specs.Summary.{moved}
use Rattle.theory.proofs.Tests.{or_left, or_right, or_neither}
use Rattle.theory.proofs.Order.{same-eq}
use Rattle.theory.specs.Tables.{Below}
use Rattle.theory.proofs.Covered.{codes-right}
use Rattle.lists.specs.Flat.{at}
use Rattle.lists.proofs.Places.{same_default}
use Rattle.lists.proofs.Search.{bound-here, bound-past}
use Rattle.builder.specs.Builder.{first}
use Rattle.std.specs.declared.option.Option.{Option}
use Rattle.std.specs.declared.option.Option.TheVariants.{None, Some}
use Rattle.intake_insertion.specs.Places.{StandsAt, KnownAt, ImageFound, bad}

-- ── a triple at a place ──
module _ (l : List ℕ) (n i : ℕ) (t : Triple) where
  all : tabulate (at l) 0 (n - 0) ≡ first l n
  all = ap (λ (k : ℕ). tabulate (at l) 0 k) (sub-zero n)

  pub stands_here : i < n → (r : Bool) → r ≡ same t (at l i) → StandsAt l n i t r
  stands_here h r e =
      record {
        here = λ q. (h, sym (same-eq t (at l i) (sym e ∙ q)));
        exact = λ w b. e ∙ bound-here (at l) 0 n t i w b h ∙ ap (holds t) all;
      }

  pub stands-past : n ≤ i → StandsAt l n i t false
  stands-past h = record { here = λ q. absurd (true≢false (sym q)); exact = λ w b. bound-past (at l) 0 n t i w b h ∙ ap (holds t) all }

-- ── the image of a triple ──
module _ (summary : List ℕ) (n : ℕ) (map : List ℕ) (t : Triple) where
  pub not_found : ImageFound summary n map t None
  unfolding ImageFound
  not_found = tt

  pub found_at : (r : Option ℕ) (j : ℕ) → ImageFound summary n map t r → r ≡ Some j → KnownAt summary n map t j
  unfolding ImageFound
  found_at r j f e = subst (ImageFound summary n map t) e f

module _ (summary : List ℕ) (n : ℕ) (map : List ℕ) (t : Triple) (below : Below (length map) t) (fits : n ≤ length summary / 3) where
  pub known_is : (a b : ℕ) → a ≡ t.subject → b ≡ t.object → eqb (get_or map a 0) absent ≡ false → eqb (get_or map b 0) absent ≡ false
      → (i : ℕ) (r : Bool) → StandsAt summary n i (triple (get_or map a 0) t.property (get_or map b 0)) r → r ≡ true → ImageFound summary n map t (Some i)
  unfolding ImageFound
  known_is a b p q x y i r w h =
      let s : get_or map a 0 ≡ label map t.subject = ap (λ (z : ℕ). get_or map z 0) p ∙ same_default map t.subject 0 absent below.subject in
      let o : get_or map b 0 ≡ label map t.object = ap (λ (z : ℕ). get_or map z 0) q ∙ same_default map t.object 0 absent below.object in
      let e : triple (get_or map a 0) t.property (get_or map b 0) ≡ moved (label map) t = λ k. triple (s k) t.property (o k) in
      record {
        subject = λ u. eqb-false (get_or map a 0) absent x (s ∙ u);
        object = λ u. eqb-false (get_or map b 0) absent y (o ∙ u);
        fits = omega arith;
        inside = (w.here h).0;
        image = (w.here h).1 ∙ e;
      }

module _ (v : Vocabulary) where
  -- ── held triples that are wrong ──
  module _ (l roster : List ℕ) (i : ℕ) (t : Triple) (e : t ≡ at l i) where
    pub not_bad : wrong_triple v (length roster) t ≡ false → covers_triple v roster t ≡ true → bad v roster (at l i) ≡ false
    unfolding bad
    not_bad a b = ap (bad v roster) (sym e) ∙ or_neither (wrong_triple v (length roster) t) _ a (ap not b)

    pub bad-code : wrong_triple v (length roster) t ≡ true → bad v roster (at l i) ≡ true
    unfolding bad
    bad-code a = ap (bad v roster) (sym e) ∙ or_left (wrong_triple v (length roster) t) _ a

    pub bad-cover : covers_triple v roster t ≡ false → bad v roster (at l i) ≡ true
    unfolding bad
    bad-cover a = ap (bad v roster) (sym e) ∙ or_right (wrong_triple v (length roster) t) _ (ap not a)

  pub below_of : (n : ℕ) (t : Triple) → wrong_triple v n t ≡ false → Below n t
  below_of n t h = (codes-right v n t h).below
