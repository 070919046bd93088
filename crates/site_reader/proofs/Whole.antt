-- The call `read`, answer by answer.
-- Assumes nothing.
use Prim.Native.Nat.{ℕ, ◌*◌, ◌/◌, ◌<◌, ◌≤◌}
use mathlib.Core.Path.{◌≡◌, refl, sym, ◌∙◌, ap, subst}
use mathlib.Core.List.{List}
use mathlib.Core.Bool.{Bool, true, false, cond}
use lib.Dec.{ltb}
use mathlib.Core.Option.{Option, none, some}
use native.Mathlib.Omega.{arith}
use lib.ListN.{length, replicate}
use borrow.Author.Tests.{lt-ltb, le-ltb}
use Rattle.model.specs.declared.Refusal.{Refusal}
use Rattle.model.specs.declared.Refusal.TheVariants.{Slots as slots-refusal, Form as form-refusal}
use Rattle.model.specs.declared.Vocabulary.{Vocabulary}
use Rattle.model.specs.Codes.{rdfs}
use Rattle.model.specs.Lists.{any, zeros}
use Rattle.model.specs.Triples.{slots, listed}
use Rattle.model.specs.Outcomes.{refused, accepted, refusal_number, decided, left, zeroed}
use Rattle.query.specs.declared.Query.{Query}
use Rattle.lists.specs.Flat.{Cleared}
use Rattle.site_form.specs.declared.Site.{Site}
use Rattle.std.specs.Prelude.{Result, Ok, Err, Option as Answer, Some, None, []}
use Rattle.std.specs.Option.{unwrap_or, ok_or}
use Rattle.std.specs.Result.{is_err}
use Rattle.site_form.specs.Text.{most_lines, most_asks}
use Rattle.site_form.specs.Reading.{Step, bad, got, Reader, ◌>>=◌, give, optional, many, text_end, site_reader, words_reader, triple_reader, ask_reader}
use Rattle.site_form.specs.Reading.{Forms, forms, forms_reader, value, read_forms, query_of, queries_of, site_of, outcome_of, read_outcome}
use Rattle.site_form.specs.Reading.{no_forms, site_in, read_site, read_list}
use Rattle.site_form.proofs.Readers.{fails}
use Rattle.site_tokens.specs.declared.Read.{Read}
use Rattle.site_tokens.specs.Steps.{step, items, standing, behind}
use Rattle.site_reader.specs.Queries.{ask_lines, AsksFrom}
use Rattle.site_reader.specs.Calls.{some_words, WordsFrom, triple_lines, LinesFrom, FormsRead, ReadCall}
use Rattle.site_tokens.proofs.Steps.{then_got}
use Rattle.site_reader.proofs.Many.{many-got}
use Rattle.site_reader.proofs.Triples.{all-length, all_listed}

-- ── the reserved codes ──
-- a form that may stand always gives something
optional-got : {A : Type 0} (r : Reader A) (text : List ℕ) (at : ℕ) → optional r text at ≡ got (standing (optional r text at)) (behind (optional r text at))
unfolding optional
optional-got {A} r text at = go (r text at) refl
  where
    go : (s : Step A) → r text at ≡ s → optional r text at ≡ got (standing (optional r text at)) (behind (optional r text at))
    go bad e = rw e
    go (got x i) e = rw e

module _ (text : List ℕ) (at : ℕ) where
  pub words-none : words_reader text at ≡ bad → (v : Vocabulary) → v ≡ rdfs → WordsFrom text at (record { value = v; next = at })
  unfolding optional
  words-none e v h = record { words = h ∙ rw e; next = rw e }

  pub words_stand : (v : Vocabulary) (i : ℕ) → words_reader text at ≡ got v i → WordsFrom text at (record { value = v; next = i })
  unfolding optional
  words_stand v i e = record { words = rw e; next = rw e }

-- the line of words, or 0 to 4 where none stands
module _ (text : List ℕ) (at : ℕ) (d : Read Vocabulary) (ev : d.value ≡ rdfs) (en : d.next ≡ at) where
  pub words_or : (o : Answer (Read Vocabulary)) → step o ≡ words_reader text at → WordsFrom text at (unwrap_or o d)
  words_or (Some r) e = words_stand text at r.value r.next (sym e)
  words_or None e = subst (λ (i : ℕ). WordsFrom text at (record { value = d.value; next = i })) (sym en) (words-none text at (sym e) d.value ev)

-- nothing was read
pub nothing : (q : Query) (v : Vocabulary) → v ≡ rdfs → q ≡ query_of [] → record { size = 0; words = v; count = 0; asks = 0; queries = replicate 16 q } ≡ site_of no_forms
unfolding site_of queries_of
nothing q v ev e = λ i. record { size = 0; words = ev i; count = 0; asks = 0; queries = replicate 16 (e i) }

-- which refusal a missing form makes
pub refused_as : {T : Type 0} {r : Refusal} (o : Answer T) → o ≡ None → (x : Refusal) → ◌≡◌ {A = Result T Refusal} (Err x) (ok_or o r) → x ≡ r
refused_as {T} {r} o d x e = let f : ◌≡◌ {A = Result T Refusal} (Err x) (Err r) = e ∙ ap (λ (a : Answer T). ok_or a r) d in cc

-- ── what the text says ──
module _ (text : List ℕ) where
  pub no_site : site_reader text 0 ≡ bad → read_forms text ≡ none
  unfolding read_forms forms_reader
  no_site e = ap value (fails _ _ text 0 e)

  module _ (n i : ℕ) (e : site_reader text 0 ≡ got n i) (r : Read Vocabulary) (hw : WordsFrom text i r) (l l' : List ℕ) (lines : Read ℕ)
      (hl : LinesFrom text r.next l lines l') (asks : Read ℕ) (qs : List Query) (ha : AsksFrom text lines.next asks qs) where
    abbrev said : Forms
    said = forms n (standing (some_words text i)) (items (triple_lines text r.next)) (items (ask_lines text lines.next))

    words-got : optional words_reader text i ≡ got (standing (some_words text i)) r.next
    words-got = optional-got words_reader text i ∙ ap (got (standing (some_words text i))) (sym hw.next)

    triples-got : many most_lines triple_reader text r.next ≡ got (items (triple_lines text r.next)) lines.next
    triples-got = many-got triple_reader text most_lines r.next ∙ ap (got (items (triple_lines text r.next))) (sym hl.next)

    asks-got : many most_asks ask_reader text lines.next ≡ got (items (ask_lines text lines.next)) asks.next
    asks-got = many-got ask_reader text most_asks lines.next ∙ ap (got (items (ask_lines text lines.next))) (sym ha.next)

    to_end : forms_reader text 0 ≡ (text_end >>= λ u. give said) text asks.next
    unfolding forms_reader
    to_end = then_got _ _ text 0 n i e ∙ then_got _ _ text i _ _ words-got ∙ then_got _ _ text r.next _ _ triples-got ∙ then_got _ _ text lines.next _ _ asks-got

    not_ended : text_end text asks.next ≡ bad → read_forms text ≡ none
    unfolding read_forms
    not_ended h = ap value (to_end ∙ fails text_end _ text asks.next h)

    ended : (u : Unit {0}) (j : ℕ) → text_end text asks.next ≡ got u j → read_forms text ≡ some said
    unfolding read_forms give
    ended u j h = ap value (to_end ∙ then_got text_end _ text asks.next u j h)

-- ── the answers ──
module _ (text l : List ℕ) where
  by_form : read_forms text ≡ none → (l' : List ℕ) → length l' ≡ length l → FormsRead text l (Err form-refusal) l'
  unfolding read_outcome refusal_number
  by_form e l' k = record { outcome = sym (ap (λ (o : Option Forms). outcome_of o l) e); list = tt; size = k }

  module _ (f : Forms) (e : read_forms text ≡ some f) where
    by_slots : slots l < length f.triples → (l' : List ℕ) → length l' ≡ length l → FormsRead text l (Err slots-refusal) l'
    unfolding read_outcome refusal_number decided
    by_slots s l' k = record { outcome = rw (e, lt-ltb _ _ s); list = tt; size = k }

    by_read : length f.triples ≤ slots l → (s : Site) → s ≡ site_of f → (m : List ℕ) → m ≡ listed (length l) f.triples → length m ≡ length l → FormsRead text l (Ok s) m
    unfolding read_outcome read_list left decided
    by_read h s es m em k = record {
      outcome = rw (e, le-ltb _ _ h, es);
      list = rw (e, le-ltb _ _ h) em;
      size = k;
    }

-- ── the forms ──
module _ (text l : List ℕ) where
  pub read-no-site : site_reader text 0 ≡ bad → FormsRead text l (Err form-refusal) l
  read-no-site e = by_form text l (no_site text e) l refl

  module _ (n i : ℕ) (e : site_reader text 0 ≡ got n i) (w : Read Vocabulary) (hw : WordsFrom text i w) (l' : List ℕ) (lines : Read ℕ)
      (hl : LinesFrom text w.next l lines l') (asks : Read ℕ) (qs : List Query) (ha : AsksFrom text lines.next asks qs) where
    same_size : length l' ≡ length l
    same_size = ap length hl.list ∙ all-length l 0 (items (triple_lines text w.next))

    pub read_not_ended : text_end text asks.next ≡ bad → FormsRead text l (Err form-refusal) l'
    read_not_ended h = by_form text l (not_ended text n i e w hw l l' lines hl asks qs ha h) l' same_size

    module _ (u : Unit {0}) (j : ℕ) (h : text_end text asks.next ≡ got u j) where
      pub read-no-slots : length l' / 3 < lines.value → FormsRead text l (Err slots-refusal) l'
      unfolding slots
      read-no-slots s =
          let z = same_size in
          by_slots text l _ (ended text n i e w hw l l' lines hl asks qs ha u j h) (omega (arith, hl.count)) l' same_size

      pub read_all : lines.value ≤ length l' / 3 → (m : List ℕ) → Cleared l' m (3 * lines.value) (length l')
          → FormsRead text l (Ok (record { size = n; words = w.value; count = lines.value; asks = asks.value; queries = qs })) m
      unfolding slots site_of
      read_all s m c =
          let z = same_size in
          by_read text l _ (ended text n i e w hw l l' lines hl asks qs ha u j h) (omega (arith, hl.count)) _
          (λ k. record { size = n; words = hw.words k; count = hl.count k; asks = ha.count k; queries = ha.queries k }) m
          (all_listed l l' m (items (triple_lines text w.next)) lines.value hl.count (omega arith) hl.list c)
          (c.size ∙ same_size)

-- ── the call ──
module _ (text l : List ℕ) where
  pub read_passed : (r : Result Site Refusal) → is_err r ≡ false → (l' : List ℕ) → FormsRead text l r l' → ReadCall text l r l'
  unfolding read_site
  read_passed (Err r) e l' h = absurd (let z : ◌≡◌ {A = ℕ} 0 1 = cc in omega arith)
  read_passed (Ok s) e l' h = record { outcome = h.outcome; site = ap site_in h.outcome; list = h.list }

  -- the two refusals, 8 and 5, leave zeros
  emptied : (o : Option Forms) (r : ℕ) (m : List ℕ) → outcome_of o l ≡ refused r → left (outcome_of o l) l m ≡ zeros (length l)
  unfolding left zeroed any decided
  emptied none r m e = refl
  emptied (some f) r m e = go (ltb (slots l) (length f.triples)) e
    where
      go : (b : Bool) → cond b (refused 5) (accepted (site_of f)) ≡ refused r → left (cond b (refused 5) (accepted (site_of f))) l m ≡ zeros (length l)
      go true e = refl
      go false e = let z : ◌≡◌ {A = ℕ} 0 1 = cc in absurd (omega arith)

  pub read_refused : (r : Result Site Refusal) → is_err r ≡ true → (l' : List ℕ) → FormsRead text l r l' → (m : List ℕ) → m ≡ replicate (length l') 0 → ReadCall text l r m
  unfolding read_site read_outcome read_list zeros
  read_refused (Ok s) t l' h m e = absurd (let z : ◌≡◌ {A = ℕ} 0 1 = cc in omega arith)
  read_refused (Err r) t l' h m e = record {
    outcome = h.outcome;
    site = ap site_in h.outcome;
    list = e ∙ ap zeros h.size ∙ sym (emptied (read_forms text) (refusal_number r) _ (sym h.outcome));
  }
