-- What the other triples of a list keep of the ends of one that leaves.
-- Assumes nothing.
use Rattle.std.specs.Prelude.{ℕ, ◌<◌, ◌≡◌, Bool, true, false, ◌&&◌, ◌||◌, List, eqb}
use Rattle.model.specs.declared.Triple.{Triple}
use Rattle.model.specs.declared.Vocabulary.{Vocabulary}
use Rattle.model.specs.declared.Side.{Side}
use Rattle.model.specs.Cliques.{end, links}

-- u has t's property and, at that side, t's end
unfoldable pub at_side : Side → Triple → Triple → Bool
at_side e t u = eqb u.property t.property && eqb (end e u) (end e t)

unfoldable pub at_end : ℕ → Triple → Bool
at_end c u = eqb u.subject c || eqb u.object c

-- place k is not i, and the triple there passes the test
pub record OtherAt (f : ℕ → Triple) (k i : ℕ) (test : Triple → Bool) : Type 0 where
  pub other : k ≡ i → ⊥
  pub passes : test (f k) ≡ true

-- the triple at a place below n other than i passes the test
pub record Elsewhere (f : ℕ → Triple) (n i : ℕ) (test : Triple → Bool) : Type 0 where
  pub place : ℕ
  pub inside : place < n
  pub there : OtherAt f place i test

module _ (v : Vocabulary) (roster : List ℕ) (f : ℕ → Triple) (n i : ℕ) (t : Triple) where
  -- another triple has t's end at a side: an unmarked end of a data triple at that side of the same property, any other end at either side
  pub record EndKept (e : Side) : Type 0 where
    pub linked : links v roster e t ≡ true → Elsewhere f n i (at_side e t)
    pub free : links v roster e t ≡ false → Elsewhere f n i (at_end (end e t))

  abbrev pub EndsKept : Type 0
  EndsKept = (e : Side) → EndKept e
