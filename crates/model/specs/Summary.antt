-- The summaries, weak and strong, and how many triples each line of the weak one stands for.
-- 01: "The summary is the set of triples with each subject and object replaced by its representative"
-- Assumes nothing.
use Rattle.std.specs.Prelude.{ℕ, ◌≡◌, List, map}
use Rattle.model.specs.declared.Triple.{Triple}
use Rattle.model.specs.declared.Vocabulary.{Vocabulary}
use Rattle.model.specs.Lists.{how_many}
use Rattle.model.specs.Triples.{triple, same, sorted}
use Rattle.model.specs.Partition.{label}
use Rattle.model.specs.Cliques.{Graph}
use Rattle.model.specs.Classes.{map_of, strong_map_of}

-- a triple with its two ends replaced
abbrev pub moved : (ℕ → ℕ) → Triple → Triple
moved f t = triple (f t.subject) t.property (f t.object)

-- the set of images
abbrev pub Image : (ℕ → ℕ) → Graph → Graph
Image f G t = (u : Triple) × G u × (t ≡ moved f u)

-- the images of the triples under a map, each once, in rising order
unfoldable pub condensed : List ℕ → List Triple → List Triple
condensed m ts = sorted (map (moved (label m)) ts)

-- 01: "The summary is the set of triples with each subject and object replaced by its representative; of the table as given, not saturated
-- first, it is the plain summary."
abbrev pub summary : Vocabulary → List ℕ → List Triple → List Triple
summary v roster ts = condensed (map_of v roster ts) ts

-- 02: "the count of held triples whose image it is"
unfoldable pub weight : (ℕ → ℕ) → List Triple → Triple → ℕ
weight f ts u = how_many (λ t. same u (moved f t)) ts

-- of each triple of us the weight by ts and a map
abbrev pub weights_of : List ℕ → List Triple → List Triple → List ℕ
weights_of m ts us = map (weight (label m) ts) us

-- the weights of the images under a map, in the order of the images
unfoldable pub weights_by : List ℕ → List Triple → List ℕ
weights_by m ts = weights_of m ts (condensed m ts)

-- 02: "beside each summary triple, the count of held triples whose image it is"
abbrev pub weights : Vocabulary → List ℕ → List Triple → List ℕ
weights v roster ts = weights_by (map_of v roster ts) ts

-- 02: "Add the strong summary": the same by the strong map
abbrev pub strong_summary : Vocabulary → List ℕ → List Triple → List Triple
strong_summary v roster ts = condensed (strong_map_of v roster ts) ts
