-- One reader after another, by what each answers.
-- Assumes nothing.
use Prim.Native.Nat.{ℕ}
use mathlib.Core.Path.{◌≡◌, refl}
use mathlib.Core.List.{List}
use Rattle.site_tokens.specs.Steps.{mapped}
use Rattle.site_form.specs.Reading.{Step, bad, got, Reader, and_then, ◌>>=◌, ◌>>◌, word}

module _ {A B : Type 0} (r : Reader A) (k : A → Reader B) (text : List ℕ) (at : ℕ) where
  pub then_got : (x : A) (i : ℕ) → r text at ≡ got x i → (r >>= k) text at ≡ k x text i
  unfolding ◌>>=◌
  then_got x i e = rw e

and_then_twice : {A B C : Type 0} (s : Step A) (f : A → ℕ → Step B) (g : B → ℕ → Step C) → and_then s (λ x i. and_then (f x i) g) ≡ and_then (and_then s f) g
and_then_twice bad f g = refl
and_then_twice (got x i) f g = refl

-- bytes, and a form behind them
module _ {A B : Type 0} (w : List ℕ) (r : Reader A) (k : A → Reader B) (text : List ℕ) (at : ℕ) where
  pub grouped : (word w >> (r >>= k)) text at ≡ ((word w >> r) >>= k) text at
  unfolding ◌>>=◌
  grouped = and_then_twice (word w text at) (λ u i. r text i) (λ x i. k x text i)

-- a form behind bytes
pub behind_parts : {A : Type 0} (w : List ℕ) (r : Reader A) (text : List ℕ) (at : ℕ) → (word w >> r) text at ≡ and_then (word w text at) (λ u i. r text i)
unfolding ◌>>=◌
behind_parts w r text at = refl

pub mapped_then : {A B C : Type 0} (f : B → C) (s : Step A) (k : A → ℕ → Step B) → mapped f (and_then s k) ≡ and_then s (λ x i. mapped f (k x i))
mapped_then f bad k = refl
mapped_then f (got x i) k = refl
