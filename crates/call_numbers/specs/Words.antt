-- The five reserved codes as a list of numbers.
-- Assumes nothing.
use Rattle.std.specs.Prelude.{ℕ, ◌≡◌, List, length, get_or}
use Rattle.model.specs.declared.Vocabulary.{Vocabulary}
use Rattle.model.specs.Codes.{vocabulary, codes}

unfoldable pub words_of : List ℕ → Vocabulary
words_of l = vocabulary (get_or l 0 0) (get_or l 1 0) (get_or l 2 0) (get_or l 3 0) (get_or l 4 0)

-- nothing is lost: the codes of the five numbers that reading leaves are those of the text
abbrev pub WordsAreFaithful : Type 0
WordsAreFaithful = (v : Vocabulary) → words_of (codes v) ≡ v

-- what a call promises that is lent a list for the five codes: with another length than 5 it is refused with 1, before everything else, and
-- nothing is altered but the place that a feed or a removal reports, which is 0; else it is the call with these codes
pub record ByWords (words : List ℕ) (Wrong : Type 0) (Right : Vocabulary → Type 0) : Type 0 where
  pub wrong : (length words ≡ 5 → ⊥) → Wrong
  pub right : length words ≡ 5 → Right (words_of words)
