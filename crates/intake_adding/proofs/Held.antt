-- Insertion into a lent list that holds triples in front and zeros behind.
-- Assumes nothing.
use Prim.Native.Nat.{ℕ, ◌+◌, ◌*◌, ◌<◌}
use mathlib.Core.Path.{◌≡◌, ◌∙◌, ap}
use mathlib.Core.Bool.{false}
use mathlib.Core.List.{List}
use native.Mathlib.Omega.{arith}
use lib.ListN.{length, get_or}
use Rattle.model.specs.declared.Triple.{Triple}
use Rattle.model.specs.Triples.{holds, insert, listed}
use Rattle.lists.specs.Flat.{at, RisingPart, Bound}
use Rattle.builder.specs.Builder.{first}
use Rattle.intake_insertion.specs.Insertion.{Inserted}
use Rattle.intake_insertion.proofs.Insertion.{inserted_first}
use Rattle.intake_insertion.proofs.Listed.{listed-first, listed-rest, listed_by}

module _ (l l' : List ℕ) (H : List Triple) (i : ℕ) (t : Triple) (is : l ≡ listed (length l) H) (room : 3 * length H + 2 < length l) where
  pub held_first : first l (length H) ≡ H
  held_first = listed-first l (length l) H is (omega arith)

  pub inserted_listed : RisingPart (at l) 0 (length H) → Bound (at l) 0 (length H) t i → holds t H ≡ false → Inserted l l' (length H) i t → l' ≡ listed (length l) (insert t H)
  inserted_listed r b f s =
      let e : first l' (length H + 1) ≡ insert t H =
      inserted_first l l' (length H) i t s b.high r b (ap (holds t) held_first ∙ f) ∙ ap (insert t) held_first in
      listed_by l' (length H + 1) (insert t H) (omega (arith, s.size)) e
      (λ w x y. s.rest w (omega arith) ∙ ap (λ (z : List ℕ). get_or z w 0) is ∙ listed-rest (length l) H (omega arith) w (omega arith))
      ∙ ap (λ (k : ℕ). listed k (insert t H)) s.size
