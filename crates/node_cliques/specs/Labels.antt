-- The clique of each data node at a side as one number.
-- Assumes nothing.
use Rattle.std.specs.Prelude.{ℕ, Bool, cond, not, ◌||◌, List, eqb, length}
use Rattle.model.specs.declared.Triple.{Triple}
use Rattle.model.specs.declared.Vocabulary.{Vocabulary}
use Rattle.model.specs.Codes.{absent}
use Rattle.model.specs.Lists.{tabulate}
use Rattle.model.specs.Roster.{unmarked}
use Rattle.model.specs.declared.Side.{Side}
use Rattle.model.specs.Cliques.{cliques}
use Rattle.model.specs.Classes.{clique_of}

module _ (v : Vocabulary) (roster : List ℕ) where
  -- 02: "none counting as a value": the code of type, which is no property of a data triple, stands for none
  abbrev pub or_none : ℕ → ℕ
  or_none x = cond (eqb x absent) v.instance x

  -- the codes that can be a label: marked codes, and the code of type
  unfoldable pub is_label : ℕ → Bool
  is_label c = not (unmarked roster c) || eqb c v.instance

  -- per code that is no label, the smallest property of its clique at the side, or the code of type; the entry of a label is absent
  unfoldable pub node_cliques : Side → List Triple → List ℕ
  node_cliques e ts = tabulate (λ c. cond (is_label c) absent (or_none (clique_of v roster e (cliques v roster e ts) c ts))) 0 (length roster)
