-- A lent list that holds triples in front and zeros behind, by its places.
-- Assumes nothing.
use Prim.Native.Nat.{ℕ, ◌-◌, ◌*◌, ◌<◌, ◌≤◌}
use mathlib.Core.Path.{◌≡◌, refl, sym, ◌∙◌, ap}
use mathlib.Core.List.{List, ◌++◌}
use native.Mathlib.Omega.{arith}
use lib.ListN.{length, get_or, take}
use lib.Seq.{get_or-take, length-take-le, take-append_seam}
use Rattle.model.specs.declared.Triple.{Triple}
use Rattle.model.specs.Lists.{zeros, padded}
use Rattle.model.specs.Triples.{flat, triples, listed}
use Rattle.theory.proofs.Flat.{length-flat, triples-flat, padded-past, padded-by, length-listed}
use Rattle.lists.proofs.Places.{flat-places, triples-places}
use Rattle.builder.specs.Builder.{first}

-- what such a list begins with
pub listed-first : (l : List ℕ) (m : ℕ) (H : List Triple) → l ≡ listed m H → 3 * length H ≤ m → first l (length H) ≡ H
unfolding listed padded
listed-first l m H is h =
    ap (λ (x : List ℕ). first x (length H)) is
    ∙ sym (triples-places (listed m H) (length H) (omega (arith, length-listed m H h)))
    ∙ ap triples (ap (λ (k : ℕ). take k (flat H ++ zeros (m - length (flat H)))) (sym (length-flat H)) ∙ take-append_seam (flat H) _)
    ∙ triples-flat H

pub listed-rest : (m : ℕ) (H : List Triple) → 3 * length H ≤ m → (w : ℕ) → 3 * length H ≤ w → get_or (listed m H) w 0 ≡ 0
unfolding listed
listed-rest m H h w a = padded-past m (flat H) w (omega (arith, length-flat H))

-- triples in front and zeros behind make the list
pub listed_by : (l : List ℕ) (n : ℕ) (K : List Triple) → 3 * n ≤ length l → first l n ≡ K → ((w : ℕ) → 3 * n ≤ w → w < length l → get_or l w 0 ≡ 0) → l ≡ listed (length l) K
unfolding listed
listed_by l n K h e z =
    padded-by l (flat K) (length l) refl (omega (arith, size))
    (λ j x. sym (ap (λ (k : List ℕ). get_or k j 0) front ∙ get_or-take (3 * n) l j 0 (omega (arith, size))))
    (λ j x y. z j (omega (arith, size)) y)
  where
    front : flat K ≡ take (3 * n) l
    front = sym (ap flat e) ∙ flat-places l n h

    size : length (flat K) ≡ 3 * n
    size = ap {B = ℕ} (λ (k : List ℕ). length k) front ∙ length-take-le (3 * n) l h
