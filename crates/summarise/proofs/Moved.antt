-- Images of triples at places of a flat list.
-- Assumes nothing.
use Prim.Native.Nat.{ℕ, ◌<◌}
use mathlib.Core.Path.{◌≡◌, refl, sym, ◌∙◌, ap, subst}
use mathlib.Core.Bool.{Bool, true, not, ◌||◌}
use lib.Dec.{eqb}
use borrow.Author.Tests.{eq-eqb, ne_eqb}
use mathlib.Core.List.{List, Memᴰ as Mem}
use native.Mathlib.Omega.{arith}
use lib.ListN.{length, get_or}
use Rattle.model.specs.declared.Triple.{Triple}
use Rattle.model.specs.Codes.{absent}
use Rattle.model.specs.Triples.{triple}
use Rattle.model.specs.Partition.{label}
use Rattle.model.specs.Summary.{moved}
use Rattle.model.specs.Outcomes.{wrong_work}
use Rattle.theory.proofs.Tests.{or_left}
use Rattle.theory.specs.Tables.{Below, AllBelow}
use Rattle.theory.proofs.Lists.{mem-tabulate}
use Rattle.theory.proofs.Order.{triple-eq}
use Rattle.lists.specs.Flat.{at}
use Rattle.lists.proofs.Places.{same_default}
use Rattle.builder.specs.Builder.{first}

-- an entry of a list, whatever stands past its end
entry-label : (m : List ℕ) (c : ℕ) → c < length m → get_or m c 0 ≡ label m c
entry-label m c h = same_default m c 0 absent h

pub image-is : (m : List ℕ) (t : Triple) (i j : ℕ) → Below (length m) t → i ≡ t.subject → j ≡ t.object
    → triple (get_or m i 0) t.property (get_or m j 0) ≡ moved (label m) t
image-is m t i j b e q =
    triple-eq (ap (λ (k : ℕ). get_or m k 0) e ∙ entry-label m t.subject b.subject) refl (ap (λ (k : ℕ). get_or m k 0) q ∙ entry-label m t.object b.object)

pub below_at : (n : ℕ) (table : List ℕ) (count i : ℕ) (t : Triple) → AllBelow n (first table count) → i < count → t ≡ at table i → Below n t
below_at n table count i t b h e = b t (subst (λ (z : Triple). Mem z (first table count)) (sym e) (mem-tabulate (at table) 0 count i (omega arith) (omega arith)))

pub image-at : (m table : List ℕ) (i : ℕ) (t u : Triple) → t ≡ at table i → u ≡ moved (label m) t → u ≡ moved (label m) (at table i)
image-at m table i t u e q = q ∙ ap (moved (label m)) e

-- ── the lengths ──
module _ (n map work : ℕ) where
  abbrev wrong : Bool
  wrong = not (eqb map n) || wrong_work n work

  pub wrong-map : (map ≡ n → ⊥) → true ≡ wrong
  wrong-map h = sym (or_left (not (eqb map n)) _ (ap not (ne_eqb map n h)))

  pub wrong-work : map ≡ n → (r : Bool) → r ≡ wrong_work n work → r ≡ wrong
  wrong-work e r q = q ∙ sym (ap (λ (b : Bool). not b || wrong_work n work) (eq-eqb map n e))
