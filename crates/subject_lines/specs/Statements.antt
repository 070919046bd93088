-- What holds of the lines of a subject.
-- Assumes nothing.
use Rattle.std.specs.Prelude.{ℕ, ◌-◌, ◌*◌, ◌≤◌, ◌≡◌, take, drop}
use mathlib.Core.List.{List, [], ◌∷◌, Memᴰ as Mem}
use Rattle.std.specs.Borrow.{Bor}
use Rattle.model.specs.declared.Triple.{Triple}
use Rattle.model.specs.Lists.{filter}
use Rattle.model.specs.Triples.{triples, flat, slots, listed}
use Rattle.model.specs.Order.{Rising}
use Rattle.subject_lines.specs.Lines.{has_subject, lines_of, start_of, end_of, shown, HandsBack}

-- the numbers at the indexes of the part are those of the lines, and it lies within the whole triples
pub record PartRight : Type 0 where
  pub numbers : (c : ℕ) (l : List ℕ) → take (end_of c l - start_of c l) (drop (start_of c l) l) ≡ flat (lines_of c (triples l))
  pub within : (c : ℕ) (l : List ℕ) → end_of c l ≤ 3 * slots l
  -- 02: "With no such triple it is the empty part after the list's last whole triple."
  pub none : (c : ℕ) (l : List ℕ) → filter (has_subject c) (triples l) ≡ [] → (start_of c l ≡ 3 * slots l) × (end_of c l ≡ 3 * slots l)

-- no triple has a smaller subject than one before it; repeats may stand
abbrev pub SortedBySubject : List Triple → Type 0
SortedBySubject [] = Unit {0}
SortedBySubject (x ∷ xs) = ((y : Triple) → Mem y xs → x.subject ≤ y.subject) × SortedBySubject xs

-- 02: "On sorted lists the part must be all of the subject's triples."
pub record AllLines : Type 0 where
  pub sorted : (c : ℕ) (ts : List Triple) → SortedBySubject ts → lines_of c ts ≡ filter (has_subject c) ts
  -- rising order of subject, property, object is such an order
  pub rising : (ts : List Triple) → Rising ts → SortedBySubject ts
  -- of what the call hands back
  pub handed_back : (c : ℕ) (summary table : Bor (List ℕ)) (map : List ℕ) (r : Bor (List ℕ)) → HandsBack c summary table map r
      → SortedBySubject (triples (shown c map summary table).now) → r.now ≡ flat (filter (has_subject c) (triples (shown c map summary table).now))
  -- of a list as a call leaves it, rising triples with zeros behind: also where it is not cut to its triples, but for the code 0
  pub not_cut : (c n : ℕ) (ts : List Triple) → Rising ts → (c ≡ 0 → ⊥) → lines_of c (triples (listed n ts)) ≡ filter (has_subject c) ts
