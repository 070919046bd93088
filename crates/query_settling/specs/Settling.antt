-- What the thorough search promises.
-- Assumes nothing.
use Rattle.std.specs.Prelude.{ℕ, ◌<◌, ◌≤◌, ◌≡◌, Bool, true, false, List, length}
use Rattle.model.specs.Triples.{triples}
use Rattle.query.specs.declared.Query.{Query}
use Rattle.query.specs.Ask.{wrong_query}
use Rattle.query.specs.Match.{NodeOf}
use Rattle.query.specs.Choices.{Puts, CanPut, CodesBelow}
use Rattle.query_domains.specs.Domains.{LaterKept}
use Rattle.query_fixing.specs.Fixing.{FreeVariable}
use Rattle.query_places.specs.Places.{InOrder}
use Rattle.query_rows.specs.Rows.{in_row, Sized}

-- what the search needs: a query that passes 6, an order that holds if it is known, nodes below N, and lists that pass 1
pub record Searchable (table map : List ℕ) (q : Query) (rising : Bool) : Type 0 where
  pub right : wrong_query (length map) q ≡ false
  pub order : InOrder table rising
  pub nodes : (x : ℕ) → NodeOf (triples table) x → x < length map
  pub small : length map ≤ 65536
  pub short : length table ≤ 3145728

-- and what the thorough search needs beside it
pub record SettleNeeds (table map d : List ℕ) (q : Query) (k : ℕ) (b : List ℕ) (rising : Bool) : Type 0 where
  pub whole : Searchable table map q rising
  pub counted : k < q.count
  pub sized : Sized d
  pub bound : length b ≡ 8

-- true only if some choice puts the patterns from the k-th on in the table, and true if one of codes below N does
pub record Settled (table map : List ℕ) (q : Query) (k : ℕ) (b : List ℕ) (r : Bool) : Type 0 where
  pub sound : r ≡ true → CanPut (triples table) map q k b
  pub complete : (σ : ℕ → ℕ) → Puts (triples table) map q k b σ → CodesBelow (length map) σ → r ≡ true

-- rows 10 to before z lose no node
pub record RowsKept (d d' : List ℕ) (z : ℕ) : Type 0 where
  pub size : length d' ≡ length d
  pub kept : (v x : ℕ) → 10 ≤ v → v < z → in_row d v x ≡ true → in_row d' v x ≡ true

-- rows 10 and on lose no node, and where there is a choice the answer is true
pub record MaySettle (table map d d' : List ℕ) (q : Query) (k : ℕ) (b : List ℕ) (r : Bool) : Type 0 where
  pub size : length d' ≡ length d
  pub later : LaterKept d d'
  pub some : (σ : ℕ → ℕ) → Puts (triples table) map q k b σ → r ≡ true

-- row v holds, for every choice, the node that it gives the variable `fixed`
abbrev pub KeptFor : List ℕ → List ℕ → List ℕ → Query → ℕ → List ℕ → ℕ → ℕ → Type 0
KeptFor table map d q k b v fixed = (σ : ℕ → ℕ) → Puts (triples table) map q k b σ → in_row d v (σ fixed) ≡ true

-- a variable that has no node, where fewer than three are fixed
pub record NextFixed (b : List ℕ) (depth v : ℕ) : Type 0 where
  pub free : FreeVariable b v
  pub less : depth < 3
