-- A triple taken out of the triples of a list, a number out of numbers, and a line of a summary that weighs one less.
-- Assumes nothing.
use Rattle.std.specs.Prelude.{ℕ, ◌+◌, ◌-◌, ◌*◌, ◌<◌, ◌≤◌, ◌≡◌, List, length, get_or, set}
use Rattle.lists.specs.Flat.{at}

-- of the first n triples of l, the one at place i is gone, those behind it have moved down by one, and the last place is zero; the rest is as it was
pub record Deleted (l l' : List ℕ) (n i : ℕ) : Type 0 where
  pub size : length l' ≡ length l
  pub front : (k : ℕ) → k < i → at l' k ≡ at l k
  pub back : (k : ℕ) → i ≤ k → k + 1 < n → at l' k ≡ at l (k + 1)
  pub gone : (w : ℕ) → 3 * n ≤ w + 3 → w < 3 * n → get_or l' w 0 ≡ 0
  pub rest : (w : ℕ) → 3 * n ≤ w → get_or l' w 0 ≡ get_or l w 0

-- the same of numbers
pub record NumberDeleted (l l' : List ℕ) (n j : ℕ) : Type 0 where
  pub size : length l' ≡ length l
  pub front : (k : ℕ) → k < j → get_or l' k 0 ≡ get_or l k 0
  pub back : (k : ℕ) → j ≤ k → k + 1 < n → get_or l' k 0 ≡ get_or l (k + 1) 0
  pub gone : (k : ℕ) → k + 1 ≡ n → get_or l' k 0 ≡ 0
  pub rest : (k : ℕ) → n ≤ k → get_or l' k 0 ≡ get_or l k 0

-- of the n lines of a summary and their weights: the line at place j weighs one less, or it goes
pub record Lightened (sums weighed : List ℕ) (n j r : ℕ) (sums' weighed' : List ℕ) : Type 0 where
  pub less : 2 ≤ get_or weighed j 0 → (r ≡ n) × (sums' ≡ sums) × (weighed' ≡ set weighed j (get_or weighed j 0 - 1))
  pub goes : get_or weighed j 0 ≤ 1 → (r ≡ n - 1) × Deleted sums sums' n j × NumberDeleted weighed weighed' n j
