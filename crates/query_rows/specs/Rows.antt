-- Domains: the nodes that each variable of a query may still have, in rows of bits.
-- Assumes nothing.
use Rattle.std.specs.Prelude.{ℕ, ◌+◌, ◌*◌, ◌/◌, ◌%◌, ◌^◌, ◌<◌, ◌≤◌, ◌≡◌, Bool, true, cond, List, eqb, ltb, length, get_or}
use Rattle.query.specs.declared.End.{End}
use Rattle.query.specs.declared.End.TheVariants.{Var, Code}

-- Domains are a list of 64-bit words in 13 rows of bits: a row for each variable, two for the subjects and objects found by one pass,
-- three that keep the row of a variable while it is fixed. A row is as wide as the list allows, and node x has bit x % width.
abbrev pub width : List ℕ → ℕ
width d = length d / 13 * 64

-- bit i of a list of words
unfoldable pub bit : List ℕ → ℕ → Bool
bit d i = eqb (get_or d (i / 64) 0 / 2 ^ (i % 64) % 2) 1

-- node x is in row v
unfoldable pub in_row : List ℕ → ℕ → ℕ → Bool
in_row d v x = bit d (v * width d + x % width d)

-- the domains let an end have the node x; a list too short for rows lets every variable have every node
unfoldable pub allows : List ℕ → End → ℕ → Bool
allows d (Var v) x = cond (ltb (length d) 13) true (in_row d v x)
allows d (Code c) x = true

-- a choice whose nodes are in the domains
abbrev pub Within : List ℕ → (ℕ → ℕ) → Type 0
Within d σ = (v : ℕ) → v < 8 → allows d (Var v) (σ v) ≡ true

-- 13 rows of 1 to 1,024 words, so at most as many bits as there are codes
abbrev pub Sized : List ℕ → Type 0
Sized d = (13 ≤ length d) × (length d ≤ 13312)

-- node x is put in row v, and no row loses a node
pub record PutIn (d d' : List ℕ) (v x : ℕ) : Type 0 where
  pub size : length d' ≡ length d
  pub there : in_row d' v x ≡ true
  pub kept : (u y : ℕ) → in_row d u y ≡ true → in_row d' u y ≡ true

-- every word of row v is w, and no other row is altered
pub record RowSet (d d' : List ℕ) (v w : ℕ) : Type 0 where
  pub size : length d' ≡ length d
  pub row : (x : ℕ) → in_row d' v x ≡ eqb (w / 2 ^ (x % width d % 64) % 2) 1
  pub others : (u x : ℕ) → (u ≡ v → ⊥) → in_row d' u x ≡ in_row d u x

-- row v is copied to row u, and no other row is altered
pub record RowCopied (d d' : List ℕ) (u v : ℕ) : Type 0 where
  pub size : length d' ≡ length d
  pub row : (x : ℕ) → in_row d' u x ≡ in_row d v x
  pub others : (w x : ℕ) → (w ≡ u → ⊥) → in_row d' w x ≡ in_row d w x
