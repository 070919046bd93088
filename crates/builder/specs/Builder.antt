-- What the builder of distinct triples holds.
-- Assumes nothing.
use Rattle.std.specs.Prelude.{ℕ, ◌-◌, ◌*◌, ◌/◌, ◌<◌, ◌≤◌, ◌≡◌, ◌⊎◌, ◌↔◌, Bool, ◌||◌, length, Result, IfOk, OnErr}
use mathlib.Core.List.{List, ◌∷◌, Memᴰ as Mem}
use Rattle.model.specs.declared.Triple.{Triple}
use Rattle.model.specs.Lists.{tabulate}
use Rattle.model.specs.Triples.{holds, sorted, listed}
use Rattle.lists.specs.Flat.{at, RisingPart}
use Rattle.builder.specs.declared.Builder.{Builder}
use Rattle.builder.specs.declared.Full.{Full}

-- the triples at the first n places
abbrev pub first : List ℕ → ℕ → List Triple
first l n = tabulate (at l) 0 n

-- the first places frozen, and a tail behind them
abbrev pub opening : ℕ → ℕ → Builder
opening base filled = record { base = base; sorted = base; filled = filled }

-- the builder's three parts
pub record Built (l : List ℕ) (b : Builder) : Type 0 where
  pub base_end : b.base ≤ b.sorted
  pub sorted_end : b.sorted ≤ b.filled
  pub room : 3 * b.filled ≤ length l
  pub base_rising : RisingPart (at l) 0 b.base
  pub run_rising : RisingPart (at l) b.base b.sorted
  pub apart : (i j : ℕ) → i < b.base → b.base ≤ j → j < b.filled → at l i ≡ at l j → ⊥

-- t is in one of the two rising parts
unfoldable pub known : List ℕ → Builder → Triple → Bool
known l b t = holds t (tabulate (at l) 0 (b.base - 0)) || holds t (tabulate (at l) b.base (b.sorted - b.base))

-- the frozen part is as it was
pub record SameBase (l l' : List ℕ) (b : Builder) : Type 0 where
  pub size : length l' ≡ length l
  pub places : (i : ℕ) → i < b.base → at l' i ≡ at l i

pub record Compacted (l l' : List ℕ) (b b' : Builder) : Type 0 where
  pub same_base : SameBase l l' b
  pub base : b'.base ≡ b.base
  pub built : Built l' b'
  pub all_sorted : b'.sorted ≡ b'.filled
  pub members : (u : Triple) → Mem u (first l' b'.filled) ↔ Mem u (first l b.filled)

-- t is held now
pub record Holds (l l' : List ℕ) (b b' : Builder) (t : Triple) : Type 0 where
  pub base : b'.base ≡ b.base
  pub built : Built l' b'
  pub members : (u : Triple) → Mem u (first l' b'.filled) ↔ (Mem u (first l b.filled) ⊎ (u ≡ t))

-- t is held, or the slots are too few: what was held with t is more than these
pub record Offered (l l' : List ℕ) (b : Builder) (r : Result Builder Full) (t : Triple) : Type 0 where
  pub same_base : SameBase l l' b
  pub taken : IfOk r (λ b'. Holds l l' b b' t)
  pub over : OnErr r (length l / 3 < length (sorted (t ∷ first l b.filled)))

pub record Finished (l l' : List ℕ) (filled r : ℕ) : Type 0 where
  pub count : r ≡ length (sorted (first l filled))
  pub list : l' ≡ listed (length l) (sorted (first l filled))

-- the list while it grows: its frozen part is X, and all that it holds is in U
pub record Growing (U X : List Triple) (l : List ℕ) (b : Builder) : Type 0 where
  pub built : Built l b
  pub base_is : first l b.base ≡ X
  pub inside : (u : Triple) → Mem u (first l b.filled) → Mem u U

-- a step: it goes on, with nothing lost, or U has more triples than there are slots
pub record GrownBy (U X : List Triple) (l l' : List ℕ) (b : Builder) (r : Result Builder Full) : Type 0 where
  pub size : length l' ≡ length l
  pub goes_on : IfOk r (λ b'. Growing U X l' b')
  pub keeps : IfOk r (λ b'. (u : Triple) → Mem u (first l b.filled) → Mem u (first l' b'.filled))
  pub over : OnErr r (length l / 3 < length U)

-- the first n triples of f, or these are more than the slots
pub record CollectedFrom (f : ℕ → Triple) (n : ℕ) (l l' : List ℕ) (r : Result Builder Full) : Type 0 where
  pub size : length l' ≡ length l
  pub built : IfOk r (λ b'. Built l' b')
  pub members : IfOk r (λ b'. (u : Triple) → Mem u (first l' b'.filled) ↔ Mem u (tabulate f 0 n))
  pub over : OnErr r (length l / 3 < length (sorted (tabulate f 0 n)))
