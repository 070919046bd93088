-- The five reserved codes as a list of numbers.
-- Assumes nothing.
use Prim.Native.Nat.{ℕ}
use mathlib.Core.Path.{◌≡◌, refl, subst}
use mathlib.Core.List.{List, [], ◌∷◌}
use native.Mathlib.Omega.{arith}
use lib.ListN.{length, get_or, set}
use Rattle.model.specs.declared.Refusal.TheVariants.{Length}
use Rattle.model.specs.declared.Vocabulary.{Vocabulary}
use Rattle.model.specs.Codes.{codes}
use Rattle.model.specs.Outcomes.{refusal_number}
use Rattle.call_numbers.specs.Words.{words_of, WordsAreFaithful, ByWords}

pub one : {s : ℕ} → s ≡ refusal_number Length → s ≡ 1
unfolding refusal_number
one e = e

module _ {words : List ℕ} {Wrong : Type 0} {Right : Vocabulary → Type 0} where
  pub by-wrong : (length words ≡ 5 → ⊥) → Wrong → ByWords words Wrong Right
  by-wrong n w = record { wrong = λ h. w; right = λ h. absurd (n h) }

  pub by_right : length words ≡ 5 → (v : Vocabulary) → v ≡ words_of words → Right v → ByWords words Wrong Right
  by_right e v h r = record { wrong = λ n. absurd (n e); right = λ x. subst Right h r }

pub words_are_faithful : WordsAreFaithful
unfolding words_of
words_are_faithful v = refl
