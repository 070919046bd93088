-- A triple put between the triples of a list.
-- Assumes nothing.
use Rattle.std.specs.Prelude.{ℕ, ◌+◌, ◌*◌, ◌<◌, ◌≤◌, ◌≡◌, List, length, get_or}
use Rattle.model.specs.declared.Triple.{Triple}
use Rattle.lists.specs.Flat.{at}

-- t stands at place i of l'; of the first n triples of l, those from there on have moved up by one, and the rest is as it was
pub record Inserted (l l' : List ℕ) (n i : ℕ) (t : Triple) : Type 0 where
  pub size : length l' ≡ length l
  pub front : (k : ℕ) → k < i → at l' k ≡ at l k
  pub new : at l' i ≡ t
  pub back : (k : ℕ) → i ≤ k → k < n → at l' (k + 1) ≡ at l k
  pub rest : (w : ℕ) → 3 * n + 3 ≤ w → get_or l' w 0 ≡ get_or l w 0
