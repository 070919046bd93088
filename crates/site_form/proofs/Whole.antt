-- The reader takes exactly the texts of the site form, and gives what they say.
-- Assumes nothing.
use Prim.Native.Nat.{ℕ}
use mathlib.Core.Path.{◌≡◌, refl, sym, ◌∙◌, ap, subst}
use mathlib.Core.Bool.{false}
use mathlib.Core.List.{List, [], ◌∷◌, ◌++◌, append-nil}
use mathlib.Core.Option.{Option, none, some}
use native.Mathlib.Omega.{arith}
use Rattle.model.specs.declared.Triple.{Triple}
use Rattle.model.specs.declared.Vocabulary.{Vocabulary}
use Rattle.model.specs.Lists.{collect}
use Rattle.query.specs.declared.Pattern.{Pattern}
use Rattle.site_form.specs.Text.{bytes, site_line, words_text, triple_line, ask_line, site_text, most_lines, most_asks, TripleU32, AskForm, SiteForm}
use Rattle.site_form.specs.Reading.{Step, bad, got, begins, Forms, forms, forms_reader, triple_reader, ask_reader, value, read_forms, ReadsExactly}
use Rattle.site_form.proofs.Readers.{from-both, from-give, Takes, in_turn, give-takes, end-says, end-takes, many-says, many-takes}
use Rattle.site_form.proofs.Forms.{site-takes, site-says, some-words-takes, some-words-says, triple-takes, triple-says, triple-bad, ask-takes, ask-says, ask-bad}

-- no triple starts where the queries do
queries-start : (qs : List (List Pattern)) → begins (bytes "(t ") (collect ask_line qs ++ []) ≡ false
unfolding begins collect ask_line
queries-start [] = refl
queries-start (q ∷ qs) = refl

-- no line of reserved codes starts where the triples do
triples_start : (ts : List Triple) (qs : List (List Pattern)) → begins (bytes "(words ") (collect triple_line ts ++ (collect ask_line qs ++ [])) ≡ false
unfolding begins collect triple_line ask_line
triples_start [] [] = refl
triples_start [] (q ∷ qs) = refl
triples_start (t ∷ ts) qs = refl

no_more : begins (bytes "(ask") [] ≡ false
unfolding begins
no_more = refl

module _ (text : List ℕ) (n : ℕ) (w : Option Vocabulary) (ts : List Triple) (qs : List (List Pattern)) where
  forms-takes : SiteForm text n w ts qs → Takes forms_reader text 0 (forms n w ts qs) []
  unfolding forms_reader site_text
  forms-takes h =
      let t = collect triple_line ts in
      let q = collect ask_line qs in
      let e : text ≡ site_line n ++ (words_text w ++ (t ++ (q ++ []))) = h.says ∙ ap (λ l. site_line n ++ (words_text w ++ (t ++ l))) (sym (append-nil q)) in
      in_turn _ _ text 0 (site-takes text 0 n _ h.size e) λ k ek.
      in_turn _ _ text k (some-words-takes text k w _ h.words (triples_start ts qs) ek) λ a ea.
      in_turn _ _ text a (many-takes triple_line TripleU32 text triple_reader (triple-takes text) _ (λ i ei. triple-bad text i _ ei (queries-start qs))
      ts most_lines a h.triples h.few_triples ea) λ b eb.
      in_turn _ _ text b (many-takes ask_line AskForm text ask_reader (ask-takes text) _ (λ i ei. ask-bad text i _ ei no_more) qs most_asks b h.asks h.few_asks eb) λ c ec.
      in_turn _ _ text c (end-takes text c ec) λ d ed.
      give-takes text d (forms n w ts qs) [] ed

Said : List ℕ → Forms → ℕ → Type 0
Said text f j = SiteForm text f.size f.words f.triples f.asks

forms-says : (text : List ℕ) (f : Forms) (j : ℕ) → forms_reader text 0 ≡ got f j → Said text f j
unfolding forms_reader site_text Said
forms-says text f j e =
    from-both _ _ text 0 f j e λ n o po eo.
    from-both _ _ text o f j eo λ w a pa ea.
    from-both _ _ text a f j ea λ ts b pb eb.
    from-both _ _ text b f j eb λ qs c pc ec.
    from-both _ _ text c f j ec λ u d pd ed.
    let h = site-says text 0 n o po in
    let y = some-words-says text o w a pa in
    let m = many-says triple_line TripleU32 text triple_reader (triple-says text) most_lines a ts b pb in
    let k = many-says ask_line AskForm text ask_reader (ask-says text) most_asks b qs c pc in
    let z = end-says text c u d pd in
    from-give text d (Said text) (forms n w ts qs) f j ed
    (record {
      says = h.held ∙ ap (λ l. site_line n ++ l)
          (y.held ∙ ap (λ l. words_text w ++ l) (m.held ∙ ap (λ l. collect triple_line ts ++ l)
          (k.held ∙ ap (λ l. collect ask_line qs ++ l) z ∙ append-nil (collect ask_line qs))));
      size = h.right;
      words = y.right;
      few_triples = m.few;
      triples = m.right;
      few_asks = k.few;
      asks = k.right;
    })

-- whatever is read is in the site form
pub read-says : (text : List ℕ) (f : Forms) → read_forms text ≡ some f → SiteForm text f.size f.words f.triples f.asks
unfolding read_forms Said
read-says text f e = go (forms_reader text 0) refl e
  where
    go : (s : Step Forms) → forms_reader text 0 ≡ s → value s ≡ some f → SiteForm text f.size f.words f.triples f.asks
    go bad p q = let z : ◌≡◌ {A = ℕ} 0 1 = cc in absurd (omega arith)
    go (got g j) p q = let h : g ≡ f = cc in subst (λ g. SiteForm text g.size g.words g.triples g.asks) h (forms-says text g j p)

-- the text of any forms within the limits is read as those forms
pub read-takes : (text : List ℕ) (n : ℕ) (w : Option Vocabulary) (ts : List Triple) (qs : List (List Pattern)) → SiteForm text n w ts qs → read_forms text ≡ some (forms n w ts qs)
unfolding read_forms
read-takes text n w ts qs h = ap value (forms-takes text n w ts qs h).gives

not_read : (text : List ℕ) (n : ℕ) (w : Option Vocabulary) (ts : List Triple) (qs : List (List Pattern)) → read_forms text ≡ none → SiteForm text n w ts qs → ⊥
not_read text n w ts qs e h = let f = read-takes text n w ts qs h in let z : ◌≡◌ {A = ℕ} 0 1 = cc in omega arith

read_none : (text : List ℕ) → ((n : ℕ) (w : Option Vocabulary) (ts : List Triple) (qs : List (List Pattern)) → SiteForm text n w ts qs → ⊥) → read_forms text ≡ none
read_none text k = go (read_forms text) refl
  where
    go : (o : Option Forms) → read_forms text ≡ o → read_forms text ≡ none
    go none e = e
    go (some f) e = absurd (k f.size f.words f.triples f.asks (read-says text f e))

pub reads_exactly : ReadsExactly
reads_exactly =
    record {
      takes = λ text n w ts qs. (read-says text (forms n w ts qs), read-takes text n w ts qs);
      refuses = λ text. (λ e n w ts qs. not_read text n w ts qs e, read_none text);
    }
