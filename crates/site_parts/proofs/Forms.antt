-- The readers of the forms, by what their parts answer.
-- Assumes nothing.
use Prim.Native.Nat.{ℕ}
use mathlib.Core.Path.{◌≡◌, refl, sym, ◌∙◌, ap}
use mathlib.Core.List.{List}
use Rattle.model.specs.declared.Triple.{Triple}
use Rattle.model.specs.Codes.{vocabulary}
use Rattle.model.specs.Triples.{triple}
use Rattle.query.specs.declared.End.{End}
use Rattle.query.specs.declared.End.TheVariants.{Var, Code}
use Rattle.site_form.specs.Text.{bytes}
use Rattle.site_form.specs.Reading.{Step, bad, got, and_then, or_else, ◌>>=◌, ◌>>◌, give, ◌or◌, word, number, line_end, site_reader, words_reader, end_in, end_reader, pattern, pattern_reader}
use Rattle.site_tokens.specs.Steps.{mapped, number_after, end_after, three_in}
use Rattle.site_tokens.proofs.Steps.{grouped, mapped_then}

pub site_parts : (text : List ℕ) (at : ℕ) → site_reader text at ≡ and_then (number_after (bytes "(site ") text at) (λ n i. and_then (line_end text i) (λ u j. got n j))
unfolding site_reader give ◌>>=◌
site_parts text at = grouped (bytes "(site ") number (λ n. line_end >> give n) text at

-- ── three numbers and the line's end ──
module _ {A : Type 0} (make : ℕ → ℕ → ℕ → A) (w text : List ℕ) (at : ℕ) where
  pub three_parts : three_in w make text at
      ≡ and_then (number_after w text at) (λ a i. and_then (number_after (bytes " ") text i) (λ b j. and_then (number_after (bytes " ") text j) (λ c k. and_then (line_end text k) (λ u l. got (make a b c) l))))
  unfolding three_in give ◌>>=◌
  three_parts =
      grouped w number (λ a. word (bytes " ") >> (number >>= (λ b. word (bytes " ") >> (number >>= (λ c. line_end >> give (make a b c)))))) text at
      ∙ (λ t. and_then (number_after w text at) (λ a i. second a i t))
    where
      third : (a b : ℕ) (j : ℕ) → (word (bytes " ") >> (number >>= (λ c. line_end >> give (make a b c)))) text j
          ≡ and_then (number_after (bytes " ") text j) (λ c k. and_then (line_end text k) (λ u l. got (make a b c) l))
      third a b j = grouped (bytes " ") number (λ c. line_end >> give (make a b c)) text j

      second : (a : ℕ) (i : ℕ) → (word (bytes " ") >> (number >>= (λ b. word (bytes " ") >> (number >>= (λ c. line_end >> give (make a b c)))))) text i
          ≡ and_then (number_after (bytes " ") text i) (λ b j. and_then (number_after (bytes " ") text j) (λ c k. and_then (line_end text k) (λ u l. got (make a b c) l)))
      second a i =
          grouped (bytes " ") number (λ b. word (bytes " ") >> (number >>= (λ c. line_end >> give (make a b c)))) text i
          ∙ (λ t. and_then (number_after (bytes " ") text i) (λ b j. third a b j t))

-- what is made of the three numbers, by the triple of them
pub three_made : {A : Type 0} (make : ℕ → ℕ → ℕ → A) (w text : List ℕ) (at : ℕ) → mapped (λ (t : Triple). make t.subject t.property t.object) (three_in w triple text at) ≡ three_in w make text at
three_made {A} make w text at = ap (mapped made) (three_parts triple w text at) ∙ first ∙ sym (three_parts make w text at)
  where
    made : Triple → A
    made t = make t.subject t.property t.object

    ends : ℕ → ℕ → ℕ → ℕ → Step Triple
    ends a b c k = and_then (line_end text k) (λ u l. got (triple a b c) l)

    third : ℕ → ℕ → ℕ → Step Triple
    third a b j = and_then (number_after (bytes " ") text j) (λ c k. ends a b c k)

    second : ℕ → ℕ → Step Triple
    second a i = and_then (number_after (bytes " ") text i) (λ b j. third a b j)

    first : mapped made (and_then (number_after w text at) (λ a i. second a i))
        ≡ and_then (number_after w text at) (λ a i. and_then (number_after (bytes " ") text i) (λ b j. and_then (number_after (bytes " ") text j) (λ c k. and_then (line_end text k) (λ u l. got (make a b c) l))))
    first =
        mapped_then made (number_after w text at) (λ a i. second a i)
        ∙ (λ t. and_then (number_after w text at) (λ a i. mapped_then made (number_after (bytes " ") text i) (λ b j. third a b j) t))
        ∙ (λ t. and_then (number_after w text at) (λ a i. and_then (number_after (bytes " ") text i) (λ b j. mapped_then made (number_after (bytes " ") text j) (λ c k. ends a b c k) t)))
        ∙ (λ t. and_then (number_after w text at) (λ a i. and_then (number_after (bytes " ") text i) (λ b j. and_then (number_after (bytes " ") text j) (λ c k.
        mapped_then made (line_end text k) (λ u l. got (triple a b c) l) t))))

pub words_parts : (text : List ℕ) (at : ℕ) → words_reader text at
    ≡ and_then (number_after (bytes "(words ") text at) (λ a i. and_then (number_after (bytes " ") text i) (λ b j.
    mapped (λ (t : Triple). vocabulary a b t.subject t.property t.object) (three_in (bytes " ") triple text j)))
unfolding words_reader three_in ◌>>=◌
words_parts text at =
    grouped (bytes "(words ") number (λ a. word (bytes " ") >> (number >>= (λ b. three_in (bytes " ") (vocabulary a b)))) text at
    ∙ second
  where
    second : ((word (bytes "(words ") >> number) >>= (λ a. word (bytes " ") >> (number >>= (λ b. three_in (bytes " ") (vocabulary a b))))) text at
        ≡ and_then (number_after (bytes "(words ") text at) (λ a i. and_then (number_after (bytes " ") text i) (λ b j.
        mapped (λ (t : Triple). vocabulary a b t.subject t.property t.object) (three_in (bytes " ") triple text j)))
    second =
        (λ t. and_then (number_after (bytes "(words ") text at) (λ a i. grouped (bytes " ") number (λ b. three_in (bytes " ") (vocabulary a b)) text i t))
        ∙ (λ t. and_then (number_after (bytes "(words ") text at) (λ a i. and_then (number_after (bytes " ") text i) (λ b j. sym (three_made (vocabulary a b) (bytes " ") text j) t)))

-- ── ends and patterns ──
pub end_parts : (w : List ℕ) (make : ℕ → End) (text : List ℕ) (at : ℕ) → end_in w make text at ≡ and_then (number_after w text at) (λ k i. and_then (word (bytes ")") text i) (λ u j. got (make k) j))
unfolding end_in give ◌>>=◌
end_parts w make text at = grouped w number (λ k. word (bytes ")") >> give (make k)) text at

pub either_end : (text : List ℕ) (at : ℕ) → end_reader text at ≡ or_else (end_in (bytes "(v ") Var text at) (end_in (bytes "(c ") Code text at)
unfolding end_reader ◌or◌
either_end text at = refl

pub pattern_parts : (text : List ℕ) (at : ℕ) → pattern_reader text at
    ≡ and_then (end_after (bytes "(") text at) (λ s i. and_then (number_after (bytes " ") text i) (λ p j. and_then (end_after (bytes " ") text j) (λ o k.
    and_then (word (bytes ")") text k) (λ u l. got (pattern s p o) l))))
unfolding pattern_reader give ◌>>=◌
pattern_parts text at =
    grouped (bytes "(") end_reader (λ s. word (bytes " ") >> (number >>= (λ p. word (bytes " ") >> (end_reader >>= (λ o. word (bytes ")") >> give (pattern s p o)))))) text at
    ∙ (λ t. and_then (end_after (bytes "(") text at) (λ s i. grouped (bytes " ") number (λ p. word (bytes " ") >> (end_reader >>= (λ o. word (bytes ")") >> give (pattern s p o)))) text i t))
    ∙ (λ t. and_then (end_after (bytes "(") text at) (λ s i. and_then (number_after (bytes " ") text i) (λ p j.
    grouped (bytes " ") end_reader (λ o. word (bytes ")") >> give (pattern s p o)) text j t)))
