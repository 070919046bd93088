-- Choices for the counted patterns of a query from the k-th on.
-- Assumes nothing.
use Rattle.std.specs.Prelude.{ℕ, ◌<◌, ◌≤◌, ◌≡◌, get_or}
use mathlib.Core.List.{List, Memᴰ as Mem}
use Rattle.model.specs.declared.Triple.{Triple}
use Rattle.model.specs.Codes.{absent}
use Rattle.model.specs.Partition.{label}
use Rattle.query.specs.declared.Query.{Query}
use Rattle.query.specs.Ask.{pattern_at}
use Rattle.query.specs.Match.{pattern_triple}

-- a choice that gives every variable that has a node that node
abbrev pub Agrees : (ℕ → ℕ) → List ℕ → Type 0
Agrees σ b = (v : ℕ) → v < 8 → (get_or b v 0 ≡ absent → ⊥) → σ v ≡ get_or b v 0

-- a choice that agrees with the bindings and puts the counted patterns from the k-th on in the triples
pub record Puts (ts : List Triple) (map : List ℕ) (q : Query) (k : ℕ) (b : List ℕ) (σ : ℕ → ℕ) : Type 0 where
  pub agrees : Agrees σ b
  pub puts : (j : ℕ) → k ≤ j → j < q.count → Mem (pattern_triple (label map) σ (pattern_at q j)) ts

-- there is such a choice
abbrev pub CanPut : List Triple → List ℕ → Query → ℕ → List ℕ → Type 0
CanPut ts map q k b = (σ : ℕ → ℕ) × Puts ts map q k b σ

-- a choice of codes below n
abbrev pub CodesBelow : ℕ → (ℕ → ℕ) → Type 0
CodesBelow n σ = (v : ℕ) → v < 8 → σ v < n

-- no end of a triple is the absent mark
abbrev pub Present : List Triple → Type 0
Present ts = (t : Triple) → Mem t ts → (t.subject ≡ absent → ⊥) × (t.object ≡ absent → ⊥)
