-- The triples of a table, by place.
-- Assumes nothing.
use Prim.Native.Nat.{ℕ, ◌/◌}
use mathlib.Core.Path.{◌≡◌, sym, subst, ◌∙◌, ap}
use mathlib.Core.List.{List}
use lib.ListN.{length}
use Rattle.model.specs.declared.Vocabulary.{Vocabulary}
use Rattle.model.specs.Triples.{triples}
use Rattle.model.specs.Classes.{strong_map_of}
use Rattle.theory.specs.Tables.{Right}
use Rattle.lists.proofs.Places.{triples-table}
use Rattle.builder.specs.Builder.{first}

module _ (v : Vocabulary) (table roster : List ℕ) where
  pub right-table : Right v roster (first table (length table / 3)) → Right v roster (triples table)
  right-table R = subst (Right v roster) (sym (triples-table table)) R

  pub map-by-place : (m : List ℕ) → m ≡ strong_map_of v roster (triples table) → m ≡ strong_map_of v roster (first table (length table / 3))
  map-by-place m e = e ∙ ap (strong_map_of v roster) (triples-table table)
