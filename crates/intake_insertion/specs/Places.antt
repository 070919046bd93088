-- A triple at a place, the image of a triple, and a triple that is wrong.
-- Assumes nothing.
use Rattle.std.specs.Prelude.{ℕ, ◌*◌, ◌<◌, ◌≤◌, ◌≡◌, Bool, true, not, ◌||◌, List, length}
use Rattle.model.specs.declared.Triple.{Triple}
use Rattle.model.specs.declared.Vocabulary.{Vocabulary}
use Rattle.model.specs.Codes.{absent}
use Rattle.model.specs.Triples.{holds}
use Rattle.model.specs.Roster.{covers_triple, wrong_triple}
use Rattle.model.specs.Partition.{label}
use Rattle.model.specs.Summary.{moved}
use Rattle.lists.specs.Flat.{at, RisingPart, Bound}
use Rattle.builder.specs.Builder.{first}
use Rattle.std.specs.declared.option.Option.{Option}
use Rattle.std.specs.declared.option.Option.TheVariants.{None, Some}

-- a yes means that t stands at place i, below n; where the first n triples rise and i is the place at which t belongs, the answer is whether t is
-- one of them
pub record StandsAt (l : List ℕ) (n i : ℕ) (t : Triple) (r : Bool) : Type 0 where
  pub here : r ≡ true → (i < n) × (at l i ≡ t)
  pub exact : RisingPart (at l) 0 n → Bound (at l) 0 n t i → r ≡ holds t (first l n)

-- the ends of t are nodes by the map, and its image stands at place j of the first n triples of the summary
pub record KnownAt (summary : List ℕ) (n : ℕ) (map : List ℕ) (t : Triple) (j : ℕ) : Type 0 where
  pub subject : label map t.subject ≡ absent → ⊥
  pub object : label map t.object ≡ absent → ⊥
  pub fits : 3 * n ≤ length summary
  pub inside : j < n
  pub image : at summary j ≡ moved (label map) t

-- where a place is answered, the image stands there
unfoldable pub ImageFound : (summary : List ℕ) (n : ℕ) (map : List ℕ) (t : Triple) → Option ℕ → Type 0
ImageFound summary n map t None = Unit {0}
ImageFound summary n map t (Some j) = KnownAt summary n map t j

-- a wrong code, or a role that is not marked
unfoldable pub bad : Vocabulary → List ℕ → Triple → Bool
bad v roster t = wrong_triple v (length roster) t || not (covers_triple v roster t)
