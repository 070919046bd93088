-- Domains that lose no choice: what one pass over a table leaves of them, and a pass for each pattern.
-- Assumes nothing.
use Rattle.std.specs.Prelude.{ℕ, ◌<◌, ◌≤◌, ◌≡◌, Bool, true, cond, ◌&&◌, eqb, length}
use mathlib.Core.List.{List, Memᴰ as Mem}
use Rattle.model.specs.declared.Triple.{Triple}
use Rattle.model.specs.Codes.{absent}
use Rattle.model.specs.Triples.{triples}
use Rattle.model.specs.Partition.{label}
use Rattle.lists.specs.Flat.{at}
use Rattle.query.specs.declared.End.{End}
use Rattle.query.specs.declared.End.TheVariants.{Var, Code}
use Rattle.query.specs.declared.Pattern.{Pattern}
use Rattle.query.specs.declared.Query.{Query}
use Rattle.query.specs.Match.{pattern_triple}
use Rattle.query.specs.Choices.{Agrees, Puts}
use Rattle.query_rows.specs.Rows.{in_row, allows, Within}

-- an end may stand for the node x within the domains
unfoldable pub stands_at : List ℕ → List ℕ → End → ℕ → Bool
stands_at map d (Var v) x = allows d (Var v) x
stands_at map d (Code c) x = eqb (label map c) x

-- one variable at both ends has one node
unfoldable pub ends_agree : End → End → ℕ → ℕ → Bool
ends_agree (Var v) (Var w) x y = cond (eqb v w) (eqb x y) true
ends_agree (Var v) (Code c) x y = true
ends_agree (Code c) f x y = true

-- the triple t supports a pattern within the domains
abbrev pub supports : List ℕ → List ℕ → Pattern → Triple → Bool
supports map d p t =
    eqb t.property p.property
    && (stands_at map d p.subject t.subject
    && (stands_at map d p.object t.object && ends_agree p.subject p.object t.subject t.object))

-- rows 8 and 9 hold the ends of t
pub record EndsMarked (d : List ℕ) (t : Triple) : Type 0 where
  pub subject : in_row d 8 t.subject ≡ true
  pub object : in_row d 9 t.object ≡ true

-- no row loses a node, and if the triple t supports the pattern its ends are marked and the answer is true
pub record TripleMarked (map d d' : List ℕ) (p : Pattern) (t : Triple) (r : Bool) : Type 0 where
  pub size : length d' ≡ length d
  pub kept : (u y : ℕ) → in_row d u y ≡ true → in_row d' u y ≡ true
  pub ends : supports map d p t ≡ true → EndsMarked d' t
  pub told : supports map d p t ≡ true → r ≡ true

-- the same for the triples at all places before n
pub record AllMarked (table map d d' : List ℕ) (p : Pattern) (n : ℕ) (r : Bool) : Type 0 where
  pub size : length d' ≡ length d
  pub kept : (u y : ℕ) → in_row d u y ≡ true → in_row d' u y ≡ true
  pub ends : (i : ℕ) → i < n → supports map d p (at table i) ≡ true → EndsMarked d' (at table i)
  pub told : (i : ℕ) → i < n → supports map d p (at table i) ≡ true → r ≡ true

-- a variable at an end is one of the eight
abbrev pub VariableBelow : End → Type 0
VariableBelow e = (u : ℕ) → e ≡ Var u → u < 8

-- a variable at an end has row v for its domain now, and no other row is altered
pub record DomainKept (d d' : List ℕ) (e : End) (v : ℕ) : Type 0 where
  pub size : length d' ≡ length d
  pub row : (u x : ℕ) → e ≡ Var u → in_row d' u x ≡ in_row d v x
  pub others : (u x : ℕ) → (e ≡ Var u → ⊥) → in_row d' u x ≡ in_row d u x

-- the rows that keep nodes for later lose none
abbrev pub LaterKept : List ℕ → List ℕ → Type 0
LaterKept d d' = (v x : ℕ) → 10 ≤ v → in_row d v x ≡ true → in_row d' v x ≡ true

-- The domains after a pass over the table for one pattern: a choice within them that puts the pattern in the table is within them still,
-- and where there is one the answer is true.
pub record Swept (table map d d' : List ℕ) (p : Pattern) (r : Bool) : Type 0 where
  pub size : length d' ≡ length d
  pub later : LaterKept d d'
  pub within : (σ : ℕ → ℕ) → Within d σ → Mem (pattern_triple (label map) σ p) (triples table) → Within d' σ
  pub some : (σ : ℕ → ℕ) → Within d σ → Mem (pattern_triple (label map) σ p) (triples table) → r ≡ true

-- row v holds the node, or every node where that is the absent mark, and no other row loses a node
pub record RowFilled (d d' : List ℕ) (v node : ℕ) : Type 0 where
  pub size : length d' ≡ length d
  pub row : (x : ℕ) → ((node ≡ absent → ⊥) → x ≡ node) → in_row d' v x ≡ true
  pub others : (u x : ℕ) → (u ≡ v → ⊥) → in_row d u x ≡ true → in_row d' u x ≡ true

-- every choice that agrees with the bindings is within the domains
pub record Filled (d d' b : List ℕ) : Type 0 where
  pub size : length d' ≡ length d
  pub later : LaterKept d d'
  pub within : (σ : ℕ → ℕ) → Agrees σ b → Within d' σ

-- every choice that puts the patterns from the k-th on is within the domains, and where there is one the answer is true
pub record SweptAll (table map d d' : List ℕ) (q : Query) (k : ℕ) (b : List ℕ) (r : Bool) : Type 0 where
  pub size : length d' ≡ length d
  pub later : LaterKept d d'
  pub within : (σ : ℕ → ℕ) → Puts (triples table) map q k b σ → Within d' σ
  pub some : (σ : ℕ → ℕ) → Puts (triples table) map q k b σ → r ≡ true
