-- The contracts of the reader of triples and of the call `read`.
-- Assumes nothing.
use Rattle.std.specs.Prelude.{ℕ, suc, ◌≡◌, cond, List, [], ◌∷◌, ltb, length, Result, OnOk}
use Rattle.std.proofs.Math.Option.{Option}
use Rattle.model.specs.declared.Triple.{Triple}
use Rattle.model.specs.declared.Vocabulary.{Vocabulary}
use Rattle.model.specs.declared.Refusal.{Refusal}
use Rattle.model.specs.Triples.{slots}
use Rattle.lists.specs.Flat.{put_at}
use Rattle.site_form.specs.declared.Site.{Site}
use Rattle.site_form.specs.Text.{most_lines}
use Rattle.site_form.specs.Reading.{Step, many, optional, words_reader, triple_reader, loaded, read_outcome, answered, site_in, read_site, read_list}
use Rattle.site_tokens.specs.declared.Read.{Read}
use Rattle.site_tokens.specs.Steps.{items, after, standing, behind}

-- the line of the reserved codes, if it stands
abbrev pub some_words : List ℕ → ℕ → Step (Option Vocabulary)
some_words text at = optional words_reader text at

pub record WordsFrom (text : List ℕ) (at : ℕ) (r : Read Vocabulary) : Type 0 where
  pub words : r.value ≡ loaded (standing (some_words text at))
  pub next : r.next ≡ behind (some_words text at)

-- the list with t at place i, if it has that slot
unfoldable pub stored : List ℕ → ℕ → Triple → List ℕ
stored l i t = cond (ltb i (slots l)) (put_at l i t) l

-- the list with these triples from place i on, where it has slots
unfoldable pub stored_all : List ℕ → ℕ → List Triple → List ℕ
stored_all l i [] = l
stored_all l i (t ∷ ts) = stored_all (stored l i t) (suc i) ts

abbrev pub triple_lines : List ℕ → ℕ → Step (List Triple)
triple_lines text at = many most_lines triple_reader text at

pub record LinesFrom (text : List ℕ) (at : ℕ) (l : List ℕ) (r : Read ℕ) (l' : List ℕ) : Type 0 where
  pub count : r.value ≡ length (items (triple_lines text at))
  pub next : r.next ≡ after (triple_lines text at)
  pub list : l' ≡ stored_all l 0 (items (triple_lines text at))

-- what reading the forms answers; the list is as it should be where it is no refusal
pub record FormsRead (text l : List ℕ) (r : Result Site Refusal) (l' : List ℕ) : Type 0 where
  pub outcome : answered r ≡ read_outcome text l
  pub list : OnOk r (l' ≡ read_list text l)
  pub size : length l' ≡ length l

-- what the call returns and leaves. The site is what the code's `site_in` takes from the answer; with a refusal that is the site of no forms.
pub record ReadCall (text l : List ℕ) (r : Result Site Refusal) (l' : List ℕ) : Type 0 where
  pub outcome : answered r ≡ read_outcome text l
  pub site : site_in (answered r) ≡ read_site text l
  pub list : l' ≡ read_list text l
