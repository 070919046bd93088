-- The outcome of ask, branch by branch.
-- Assumes nothing.
use Prim.Native.Nat.{ℕ, ◌%◌}
use mathlib.Core.Path.{◌≡◌}
use mathlib.Core.Bool.{Bool, false, not}
use mathlib.Core.List.{List}
use lib.Dec.{eqb, ltb}
use lib.ListN.{length}
use borrow.Author.Tests.{ltb-false}
use Rattle.model.specs.declared.Vocabulary.{Vocabulary}
use Rattle.model.specs.Triples.{triples}
use Rattle.model.specs.Roster.{wrong_codes}
use Rattle.model.specs.Outcomes.{wrong_size, wrong_length}
use Rattle.query.specs.declared.Query.{Query}
use Rattle.theory.proofs.Tests.{neither_right}
use Rattle.query.proofs.Exact.{node-below}
use Rattle.query_places.specs.Places.{InOrder}
use Rattle.query_settling.specs.Settling.{Searchable}
use Rattle.query.specs.Ask.{wrong_query}

-- what the checks give the search
pub searchable : (v : Vocabulary) (table map : List ℕ) (q : Query) (rising : Bool)
    → wrong_size (length map) ≡ false → wrong_length (length table) ≡ false → wrong_codes v (length map) (triples table) ≡ false → wrong_query (length map) q ≡ false
    → InOrder table rising → Searchable table map q rising
unfolding wrong_size wrong_length
searchable v table map q rising h₁ h₂ h₃ h₄ o = record {
  right = h₄;
  order = o;
  nodes = node-below v (length map) (triples table) h₃;
  small = ltb-false 65536 (length map) (neither_right (ltb (length map) 5) _ h₁);
  short = ltb-false 3145728 (length table) (neither_right (not (eqb (length table % 3) 0)) _ h₂);
}
