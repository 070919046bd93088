-- What weighing a summary asks and counts, and what making a summary, its weights and the map anew leaves.
-- Assumes nothing.
use Rattle.std.specs.Prelude.{◌≡◌, ℕ, ◌*◌, ◌<◌, ◌≤◌, List, length}
use mathlib.Core.List.{Memᴰ as Mem}
use Rattle.model.specs.declared.Triple.{Triple}
use Rattle.model.specs.declared.Vocabulary.{Vocabulary}
use Rattle.model.specs.Codes.{most_triples}
use Rattle.model.specs.Lists.{zeros, padded}
use Rattle.model.specs.Triples.{listed}
use Rattle.model.specs.Partition.{label}
use Rattle.model.specs.Classes.{map_of}
use Rattle.model.specs.Summary.{moved, summary, weights}
use Rattle.theory.specs.Tables.{Below, Right}
use Rattle.lists.specs.Flat.{at, RisingPart}
use Rattle.builder.specs.Builder.{first}

-- the first k triples of the summary are rising and have the image of each of the first `count` triples among them; the list of notes has a number
-- for each code
pub record Weighable (triples : List ℕ) (count : ℕ) (map summary : List ℕ) (k slots notes : ℕ) : Type 0 where
  pub places : 3 * count ≤ length triples
  pub most : count ≤ most_triples
  pub below : (i : ℕ) → i < count → Below (length map) (at triples i)
  pub fits : 3 * k ≤ length summary
  pub room : k ≤ slots
  pub few : k ≤ most_triples
  pub noted : length map ≤ notes
  pub rising : RisingPart (at summary) 0 k
  pub images : (i : ℕ) → i < count → Mem (moved (label map) (at triples i)) (first summary k)

module _ (v : Vocabulary) where
  -- the first `count` triples pass the checks 1, 10, 2, 3, 4, and the lists have room for the summary of as many
  pub record Renewable (triples : List ℕ) (count : ℕ) (roster summary weights map work : List ℕ) : Type 0 where
    pub places : 3 * count ≤ length triples
    pub right : Right v roster (first triples count)
    pub most : count ≤ most_triples
    pub summary_room : 3 * count ≤ length summary
    pub weights_room : count ≤ length weights
    pub map_size : length map ≡ length roster
    pub work_size : length work ≡ 2 * length roster

  -- the summary of ts, its size, its weights and the map; the work list is zero
  pub record Renewed (roster : List ℕ) (ts : List Triple) (sums weighed work : List ℕ) (r : ℕ) (sums' weighed' map' work' : List ℕ) : Type 0 where
    pub answer : r ≡ length (summary v roster ts)
    pub in_summary : sums' ≡ listed (length sums) (summary v roster ts)
    pub in_weights : weighed' ≡ padded (length weighed) (weights v roster ts)
    pub in_map : map' ≡ map_of v roster ts
    pub in_work : work' ≡ zeros (length work)
