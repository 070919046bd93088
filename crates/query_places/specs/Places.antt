-- The first place of a table that may fit a pattern, and a table in rising order.
-- Assumes nothing.
use Rattle.std.specs.Prelude.{ℕ, Option, Some, None, ◌/◌, ◌<◌, ◌≤◌, ◌≡◌, Bool, true, false, cond, ◌&&◌, List, eqb, length, get_or}
use Rattle.model.specs.declared.Triple.{Triple}
use Rattle.model.specs.Codes.{absent}
use Rattle.model.specs.Partition.{label}
use Rattle.lists.specs.Flat.{at, RisingPart}
use Rattle.query.specs.declared.End.{End}
use Rattle.query.specs.declared.End.TheVariants.{Var, Code}
use Rattle.query.specs.declared.Pattern.{Pattern}
use Rattle.query.specs.Ask.{fit_triple}

-- the triple at place i has the property p
unfoldable pub with_property : (ℕ → Triple) → ℕ → ℕ → Bool
with_property f p i = eqb (f i).property p

-- t has this subject and property
unfoldable pub front : ℕ → ℕ → Triple → Bool
front s p t = eqb t.subject s && eqb t.property p

-- no place from a to before r has this subject and property; at r stands one with the property, or r is b
pub record FirstOf (f : ℕ → Triple) (s p a b r : ℕ) : Type 0 where
  pub low : a ≤ r
  pub high : r ≤ b
  pub others : (i : ℕ) → a ≤ i → i < r → (f i).subject ≡ s → (f i).property ≡ p → ⊥
  pub has : r < b → (f r).property ≡ p

-- r is the first place from a to before b with this triple, or b
pub record FirstSame (f : ℕ → Triple) (t : Triple) (a b r : ℕ) : Type 0 where
  pub low : a ≤ r
  pub high : r ≤ b
  pub others : (i : ℕ) → a ≤ i → i < r → t ≡ f i → ⊥
  pub has : r < b → t ≡ f r

-- the node that an end must have, if there is one
unfoldable pub wanted_of : List ℕ → End → List ℕ → Option ℕ
wanted_of map (Var v) b = cond (eqb (get_or b v 0) absent) None (Some (get_or b v 0))
wanted_of map (Code c) b = Some (label map c)

-- no triple from a to before r fits the pattern, and at r stands one with its property, or r is b
pub record FirstFit (f : ℕ → Triple) (map : List ℕ) (p : Pattern) (bindings : List ℕ) (a b r : ℕ) : Type 0 where
  pub low : a ≤ r
  pub high : r ≤ b
  pub others : (i : ℕ) → a ≤ i → i < r → (fit_triple map p (f i) bindings).fits ≡ false
  pub has : r < b → (f r).property ≡ p.property

-- the table is in rising order, if that is known of it
abbrev pub InOrder : List ℕ → Bool → Type 0
InOrder table rising = rising ≡ true → RisingPart (at table) 0 (length table / 3)
