-- The contracts of the functions that put bytes into a lent list.
-- Assumes nothing.
use Rattle.std.specs.Prelude.{ℕ, ◌+◌, ◌≤◌, ◌≡◌, List, length}
use Rattle.std.proofs.lemmas.List.Edits.{sets}
use Rattle.site_bytes.specs.declared.Page.{Page}

-- the place after these bytes is a usize
abbrev pub Room : ℕ → List ℕ → Type 0
Room at xs = at + length xs ≤ 18446744073709551615

-- the bytes xs were stored from a place on, as far as the list goes, and r is the place after them
pub record Put (l : List ℕ) (at : ℕ) (xs l' : List ℕ) (r : ℕ) : Type 0 where
  pub list : l' ≡ sets l at xs
  pub next : r ≡ at + length xs

-- the page has room for these bytes
abbrev pub HasRoom : Page → List ℕ → Type 0
HasRoom p xs = Room p.at xs

-- the page with the bytes xs put behind what was put before; its list is the same one
pub record Wrote (p : Page) (xs : List ℕ) (p' : Page) : Type 0 where
  pub put : Put p.out.now p.at xs p'.out.now p'.at
  pub lent : p'.out.ghost_name ≡ p.out.ghost_name
