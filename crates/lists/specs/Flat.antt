-- Flat lists by the place of their triples.
-- Assumes nothing.
use Rattle.std.specs.Prelude.{ℕ, ◌+◌, ◌*◌, ◌<◌, ◌≤◌, ◌≡◌, false, List, length, get_or, set}
use Rattle.model.specs.declared.Triple.{Triple}
use Rattle.model.specs.Codes.{absent}
use Rattle.model.specs.Lists.{tabulate}
use Rattle.model.specs.Triples.{triple, before}
use Rattle.model.specs.Order.{Lt}
use Rattle.model.specs.Cliques.{Graph}
use Rattle.theory.specs.Tables.{In}

-- the triple at place i
unfoldable pub at : List ℕ → ℕ → Triple
at l i = triple (get_or l (3 * i) 0) (get_or l (3 * i + 1) 0) (get_or l (3 * i + 2) 0)

-- the first i triples, as a set
abbrev pub Before : List ℕ → ℕ → Graph
Before table i = In (tabulate (at table) 0 i)

-- the list with t at place i
unfoldable pub put_at : List ℕ → ℕ → Triple → List ℕ
put_at l i t = set (set (set l (3 * i) t.subject) (3 * i + 1) t.property) (3 * i + 2) t.object

-- the triples at places i and j exchanged
abbrev pub swapped : List ℕ → ℕ → ℕ → List ℕ
swapped l i j = put_at (put_at l i (at l j)) j (at l i)

-- strictly rising from place a to before place b
abbrev pub RisingPart : (ℕ → Triple) → ℕ → ℕ → Type 0
RisingPart f a b = (i j : ℕ) → a ≤ i → i < j → j < b → Lt (f i) (f j)

-- r parts the places from a to before b: those before it come before t, the others do not
pub record Bound (f : ℕ → Triple) (a b : ℕ) (t : Triple) (r : ℕ) : Type 0 where
  pub low : a ≤ r
  pub high : r ≤ b
  pub below : (i : ℕ) → a ≤ i → i < r → Lt (f i) t
  pub above : (i : ℕ) → r ≤ i → i < b → before (f i) t ≡ false

-- a place from a to b; where the places are in rising order it parts them
pub record Place (f : ℕ → Triple) (a b : ℕ) (t : Triple) (r : ℕ) : Type 0 where
  pub low : a ≤ r
  pub high : r ≤ b
  pub bound : RisingPart f a b → Bound f a b t r

-- zeros from index a to before index b, the rest as it was
pub record Cleared (l l' : List ℕ) (a b : ℕ) : Type 0 where
  pub size : length l' ≡ length l
  pub zeros : (i : ℕ) → a ≤ i → i < b → get_or l' i 0 ≡ 0
  pub rest : (i : ℕ) → (a ≤ i → b ≤ i) → get_or l' i 0 ≡ get_or l i 0

-- the entries below i are absent
pub record Emptied (l l' : List ℕ) (i : ℕ) : Type 0 where
  pub size : length l' ≡ length l
  pub absents : (x : ℕ) → x < i → get_or l' x 0 ≡ absent
