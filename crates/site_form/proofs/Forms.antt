-- Each reader gives a form exactly where the text holds it.
-- Assumes nothing.
use Prim.Native.Nat.{ℕ}
use mathlib.Core.Path.{◌≡◌, refl, sym, ◌∙◌, subst}
use mathlib.Core.Logic.{inl, inr}
use mathlib.Core.Bool.{false}
use mathlib.Core.Option.{Option, none, some}
use mathlib.Core.List.Memᴰ
use mathlib.Core.List.{List, [], ◌∷◌, ◌++◌, append_assoc}
use lib.ListN.{drop}
use native.Mathlib.Omega.{arith}
use Rattle.model.specs.declared.Triple.{Triple}
use Rattle.model.specs.declared.Vocabulary.{Vocabulary}
use Rattle.model.specs.Codes.{vocabulary}
use Rattle.model.specs.Triples.{triple}
use Rattle.model.specs.Lists.{collect}
use Rattle.query.specs.declared.End.{End}
use Rattle.query.specs.declared.End.TheVariants.{Var, Code}
use Rattle.query.specs.declared.Pattern.{Pattern}
use Rattle.site_form.specs.Text.{bytes, numeral, site_line, words_line, words_text, triple_line, end_text, pattern_text, next_pattern, ask_line, U32}
use Rattle.site_form.specs.Text.{WordsU32, LineU32, TripleU32, EndU32, PatternU32, AskForm}
use Rattle.site_form.specs.Reading.{bad, got, Reader, ◌>>=◌, begins, word, digit, digit_first, number, line_end, site_reader, optional}
use Rattle.site_form.specs.Reading.{words_reader, triple_reader, end_in, end_reader, pattern, pattern_reader, next_reader, ask_reader}
use Rattle.site_form.proofs.Readers.{from-both, from-give, Takes, in_turn, fails, give-takes, or_got, or_first, or_second, optional-some}
use Rattle.site_form.proofs.Readers.{optional-none, optional-got, word-says, word-takes, word-bad, Says, many-says, many-takes}
use Rattle.site_form.proofs.Decimal.{number-takes, number-says}

module _ {A P : Type 0} where
  from-word : (w : List ℕ) (k : Unit {0} → Reader A) (text : List ℕ) (at : ℕ) (y : A) (j : ℕ) → (word w >>= k) text at ≡ got y j
      → ((i : ℕ) → drop at text ≡ w ++ drop i text → k tt text i ≡ got y j → P) → P
  from-word w k text at y j e f = from-both (word w) k text at y j e λ u i p q. f i (word-says w text at u i p) q

  from-number : (k : ℕ → Reader A) (text : List ℕ) (at : ℕ) (y : A) (j : ℕ) → (number >>= k) text at ≡ got y j
      → ((n i : ℕ) → U32 n → drop at text ≡ numeral n ++ drop i text → k n text i ≡ got y j → P) → P
  from-number k text at y j e f = from-both number k text at y j e λ n i p q. let h = number-says text at n i p in f n i h.right h.held q

-- ── the end of a line ──
module _ (text : List ℕ) (at : ℕ) where
  line-says : (u : Unit {0}) (j : ℕ) → line_end text at ≡ got u j → drop at text ≡ bytes ")\n" ++ drop j text
  unfolding line_end
  line-says = word-says (bytes ")\n") text at

  line-takes : (s : List ℕ) → drop at text ≡ bytes ")\n" ++ s → Takes line_end text at tt s
  unfolding line_end
  line-takes = word-takes (bytes ")\n") text at

from-line : {A P : Type 0} (k : Unit {0} → Reader A) (text : List ℕ) (at : ℕ) (y : A) (j : ℕ) → (line_end >>= k) text at ≡ got y j
    → ((i : ℕ) → drop at text ≡ bytes ")\n" ++ drop i text → k tt text i ≡ got y j → P) → P
from-line k text at y j e f = from-both line_end k text at y j e λ u i p q. f i (line-says text at u i p) q

-- ── the site line ──
module _ (text : List ℕ) (at n : ℕ) where
  pub site-takes : (s : List ℕ) → U32 n → drop at text ≡ site_line n ++ s → Takes site_reader text at n s
  unfolding site_reader site_line digit_first digit
  site-takes s u e =
      in_turn _ _ text at (word-takes (bytes "(site ") text at (numeral n ++ (bytes ")\n" ++ s)) (e ∙ simp append_assoc)) λ a ea.
      in_turn _ _ text a (number-takes text a n (bytes ")\n" ++ s) u refl ea) λ b eb.
      in_turn _ _ text b (line-takes text b s eb) λ c ec.
      give-takes text c n s ec

  pub site-says : (j : ℕ) → site_reader text at ≡ got n j → Says site_line U32 text at n j
  unfolding site_reader site_line
  site-says j e =
      from-word _ _ text at n j e λ a da ea.
      from-number _ text a n j ea λ m b u db eb.
      from-line _ text b n j eb λ c dc ec.
      from-give text c (Says site_line U32 text at) m n j ec (record { right = u; held = rw (da, db, dc) (simp append_assoc) })

-- ── the reserved codes ──
module _ (text : List ℕ) (at : ℕ) (v : Vocabulary) where
  words-takes : (s : List ℕ) → WordsU32 v → drop at text ≡ words_line v ++ s → Takes words_reader text at v s
  unfolding words_reader words_line digit_first digit
  words-takes s u e =
      in_turn _ _ text at (word-takes (bytes "(words ") text at _ (e ∙ simp append_assoc)) λ a ea.
      in_turn _ _ text a (number-takes text a v.instance _ u.instance refl ea) λ b eb.
      in_turn _ _ text b (word-takes (bytes " ") text b _ eb) λ c ec.
      in_turn _ _ text c (number-takes text c v.subclass _ u.subclass refl ec) λ d ed.
      in_turn _ _ text d (word-takes (bytes " ") text d _ ed) λ f ef.
      in_turn _ _ text f (number-takes text f v.subproperty _ u.subproperty refl ef) λ g eg.
      in_turn _ _ text g (word-takes (bytes " ") text g _ eg) λ h eh.
      in_turn _ _ text h (number-takes text h v.domain _ u.domain refl eh) λ k ek.
      in_turn _ _ text k (word-takes (bytes " ") text k _ ek) λ l el.
      in_turn _ _ text l (number-takes text l v.range _ u.range refl el) λ m em.
      in_turn _ _ text m (line-takes text m s em) λ n en.
      give-takes text n v s en

  words-says : (j : ℕ) → words_reader text at ≡ got v j → Says words_line WordsU32 text at v j
  unfolding words_reader words_line
  words-says j e =
      from-word _ _ text at v j e λ a da ea.
      from-number _ text a v j ea λ w1 b u1 db eb.
      from-word _ _ text b v j eb λ c dc ec.
      from-number _ text c v j ec λ w2 d u2 dd ed.
      from-word _ _ text d v j ed λ f df ef.
      from-number _ text f v j ef λ w3 g u3 dg eg.
      from-word _ _ text g v j eg λ h dh eh.
      from-number _ text h v j eh λ w4 k u4 dk ek.
      from-word _ _ text k v j ek λ l dl el.
      from-number _ text l v j el λ w5 m u5 dm em.
      from-line _ text m v j em λ n dn en.
      from-give text n (Says words_line WordsU32 text at) (vocabulary w1 w2 w3 w4 w5) v j en
      (record {
        right = record { instance = u1; subclass = u2; subproperty = u3; domain = u4; range = u5 };
        held = rw (da, db, dc, dd, df, dg, dh, dk, dl, dm, dn) (simp append_assoc);
      })

words-bad : (text : List ℕ) (at : ℕ) (s : List ℕ) → drop at text ≡ s → begins (bytes "(words ") s ≡ false → words_reader text at ≡ bad
unfolding words_reader
words-bad text at s e f = fails _ _ text at (word-bad (bytes "(words ") text at s e f)

module _ (text : List ℕ) (at : ℕ) where
  -- where the line does not stand, what follows does not begin like it
  pub some-words-takes : (w : Option Vocabulary) (s : List ℕ) → LineU32 w → begins (bytes "(words ") s ≡ false → drop at text ≡ words_text w ++ s → Takes (optional words_reader) text at w s
  unfolding words_text
  some-words-takes none s u f e = optional-none words_reader text at s (words-bad text at s e f) e
  some-words-takes (some v) s u f e = optional-some words_reader text at v s (words-takes text at v s (u v refl) e)

  pub some-words-says : (w : Option Vocabulary) (j : ℕ) → optional words_reader text at ≡ got w j → Says words_text LineU32 text at w j
  unfolding words_text
  some-words-says w j e =
      optional-got words_reader text at (Says words_text LineU32 text at) w j e
      (record { right = λ v q. absurd (none-some v q); held = refl })
      (λ x i p. let h = words-says text at x i p in record { right = λ v q. subst WordsU32 (some_same q) h.right; held = h.held })
    where
      none-some : (v : Vocabulary) → none ≡ some v → ⊥
      none-some v q = let z : ◌≡◌ {A = ℕ} 0 1 = cc in omega arith

      some_same : {x v : Vocabulary} → some x ≡ some v → x ≡ v
      some_same q = cc

-- ── triples ──
module _ (text : List ℕ) (at : ℕ) (t : Triple) where
  pub triple-takes : (s : List ℕ) → TripleU32 t → drop at text ≡ triple_line t ++ s → Takes triple_reader text at t s
  unfolding triple_reader triple_line digit_first digit
  triple-takes s u e =
      in_turn _ _ text at (word-takes (bytes "(t ") text at _ (e ∙ simp append_assoc)) λ a ea.
      in_turn _ _ text a (number-takes text a t.subject _ u.subject refl ea) λ b eb.
      in_turn _ _ text b (word-takes (bytes " ") text b _ eb) λ c ec.
      in_turn _ _ text c (number-takes text c t.property _ u.property refl ec) λ d ed.
      in_turn _ _ text d (word-takes (bytes " ") text d _ ed) λ f ef.
      in_turn _ _ text f (number-takes text f t.object _ u.object refl ef) λ g eg.
      in_turn _ _ text g (line-takes text g s eg) λ h eh.
      give-takes text h t s eh

  pub triple-says : (j : ℕ) → triple_reader text at ≡ got t j → Says triple_line TripleU32 text at t j
  unfolding triple_reader triple_line
  triple-says j e =
      from-word _ _ text at t j e λ a da ea.
      from-number _ text a t j ea λ s b us db eb.
      from-word _ _ text b t j eb λ c dc ec.
      from-number _ text c t j ec λ p d up dd ed.
      from-word _ _ text d t j ed λ f df ef.
      from-number _ text f t j ef λ o g uo dg eg.
      from-line _ text g t j eg λ h dh eh.
      from-give text h (Says triple_line TripleU32 text at) (triple s p o) t j eh
      (record { right = record { subject = us; property = up; object = uo }; held = rw (da, db, dc, dd, df, dg, dh) (simp append_assoc) })

pub triple-bad : (text : List ℕ) (at : ℕ) (s : List ℕ) → drop at text ≡ s → begins (bytes "(t ") s ≡ false → triple_reader text at ≡ bad
unfolding triple_reader
triple-bad text at s e f = fails _ _ text at (word-bad (bytes "(t ") text at s e f)

-- ── ends ──
module _ (opening : List ℕ) (make : ℕ → End) (text : List ℕ) (at : ℕ) where
  end_in_takes : (k : ℕ) (s : List ℕ) → U32 k → drop at text ≡ opening ++ (numeral k ++ (bytes ")" ++ s)) → Takes (end_in opening make) text at (make k) s
  unfolding end_in digit_first digit
  end_in_takes k s u e =
      in_turn _ _ text at (word-takes opening text at _ e) λ a ea.
      in_turn _ _ text a (number-takes text a k _ u refl ea) λ b eb.
      in_turn _ _ text b (word-takes (bytes ")") text b s eb) λ c ec.
      give-takes text c (make k) s ec

  end_in_says : (texts : (k : ℕ) → end_text (make k) ≡ opening ++ (numeral k ++ bytes ")")) (right : (k : ℕ) → U32 k
      → EndU32 (make k)) (x : End) (j : ℕ) → end_in opening make text at ≡ got x j → Says end_text EndU32 text at x j
  unfolding end_in
  end_in_says texts right x j e =
      from-word _ _ text at x j e λ a da ea.
      from-number _ text a x j ea λ k b u db eb.
      from-word _ _ text b x j eb λ c dc ec.
      from-give text c (Says end_text EndU32 text at) (make k) x j ec
      (record { right = right k u; held = rw (da, db, dc, texts k) (simp append_assoc) })

  end_in_bad : (s : List ℕ) → drop at text ≡ s → begins opening s ≡ false → end_in opening make text at ≡ bad
  unfolding end_in
  end_in_bad s e f = fails _ _ text at (word-bad opening text at s e f)

module _ (text : List ℕ) (at : ℕ) where
  pub end-takes : (x : End) (s : List ℕ) → EndU32 x → drop at text ≡ end_text x ++ s → Takes end_reader text at x s
  unfolding end_reader end_text begins
  end-takes (Var k) s u e = or_first text at _ _ (Var k) s (end_in_takes (bytes "(v ") Var text at k s u (e ∙ simp append_assoc))
  end-takes (Code k) s u e =
      let f : drop at text ≡ bytes "(c " ++ (numeral k ++ (bytes ")" ++ s)) = e ∙ simp append_assoc in
      or_second text at _ _ (Code k) s (end_in_bad (bytes "(v ") Var text at _ f refl) (end_in_takes (bytes "(c ") Code text at k s u f)

  pub end-says : (x : End) (j : ℕ) → end_reader text at ≡ got x j → Says end_text EndU32 text at x j
  unfolding end_reader end_text
  end-says x j e =
      elim (or_got text at _ _ x j e) [
        | inl p ↦ end_in_says (bytes "(v ") Var text at (λ k. refl) (λ k u. u) x j p
        | inr p ↦ end_in_says (bytes "(c ") Code text at (λ k. refl) (λ k u. u) x j p
      ]

module _ {A P : Type 0} where
  from_end : (k : End → Reader A) (text : List ℕ) (at : ℕ) (y : A) (j : ℕ) → (end_reader >>= k) text at ≡ got y j
      → ((x : End) (i : ℕ) → EndU32 x → drop at text ≡ end_text x ++ drop i text → k x text i ≡ got y j → P) → P
  from_end k text at y j e f = from-both end_reader k text at y j e λ x i p q. let h = end-says text at x i p in f x i h.right h.held q

-- ── patterns ──
module _ (text : List ℕ) (at : ℕ) (x : Pattern) where
  pattern-takes : (s : List ℕ) → PatternU32 x → drop at text ≡ pattern_text x ++ s → Takes pattern_reader text at x s
  unfolding pattern_reader pattern_text digit_first digit
  pattern-takes s u e =
      in_turn _ _ text at (word-takes (bytes "(") text at _ (e ∙ simp append_assoc)) λ a ea.
      in_turn _ _ text a (end-takes text a x.subject _ u.subject ea) λ b eb.
      in_turn _ _ text b (word-takes (bytes " ") text b _ eb) λ c ec.
      in_turn _ _ text c (number-takes text c x.property _ u.property refl ec) λ d ed.
      in_turn _ _ text d (word-takes (bytes " ") text d _ ed) λ f ef.
      in_turn _ _ text f (end-takes text f x.object _ u.object ef) λ g eg.
      in_turn _ _ text g (word-takes (bytes ")") text g s eg) λ h eh.
      give-takes text h x s eh

  pattern-says : (j : ℕ) → pattern_reader text at ≡ got x j → Says pattern_text PatternU32 text at x j
  unfolding pattern_reader pattern_text
  pattern-says j e =
      from-word _ _ text at x j e λ a da ea.
      from_end _ text a x j ea λ s b us db eb.
      from-word _ _ text b x j eb λ c dc ec.
      from-number _ text c x j ec λ p d up dd ed.
      from-word _ _ text d x j ed λ f df ef.
      from_end _ text f x j ef λ o g uo dg eg.
      from-word _ _ text g x j eg λ h dh eh.
      from-give text h (Says pattern_text PatternU32 text at) (pattern s p o) x j eh
      (record { right = record { subject = us; property = up; object = uo }; held = rw (da, db, dc, dd, df, dg, dh) (simp append_assoc) })

module _ (text : List ℕ) (at : ℕ) (x : Pattern) where
  next-takes : (s : List ℕ) → PatternU32 x → drop at text ≡ next_pattern x ++ s → Takes next_reader text at x s
  unfolding next_reader next_pattern
  next-takes s u e =
      in_turn _ _ text at (word-takes (bytes " ") text at _ (e ∙ simp append_assoc)) λ a ea.
      pattern-takes text a x s u ea

  next-says : (j : ℕ) → next_reader text at ≡ got x j → Says next_pattern PatternU32 text at x j
  unfolding next_reader next_pattern
  next-says j e =
      from-word _ _ text at x j e λ a da ea.
      let h = pattern-says text a x j ea in
      record { right = h.right; held = rw (da, h.held) (simp append_assoc) }

next-bad : (text : List ℕ) (at : ℕ) (s : List ℕ) → drop at text ≡ s → begins (bytes " ") s ≡ false → next_reader text at ≡ bad
unfolding next_reader
next-bad text at s e f = fails _ _ text at (word-bad (bytes " ") text at s e f)

-- ── queries ──
module _ (text : List ℕ) (at : ℕ) where
  pub ask-says : (ps : List Pattern) (j : ℕ) → ask_reader text at ≡ got ps j → Says ask_line AskForm text at ps j
  unfolding ask_reader ask_line collect
  ask-says ps j e =
      from-word _ _ text at ps j e λ a da ea.
      from-both _ _ text a ps j ea λ x b pb eb.
      from-both _ _ text b ps j eb λ xs c pc ec.
      from-line _ text c ps j ec λ d dd ed.
      let h = next-says text a x b pb in
      let m = many-says next_pattern PatternU32 text next_reader (next-says text) _ b xs c pc in
      from-give text d (Says ask_line AskForm text at) (x ∷ xs) ps j ed
      (record {
        right = record {
          some = omega arith;
          few = let f = m.few in omega arith;
          numbers = λ y n. elim (Memᴰ.cases_cons n) [ inl q ↦ subst PatternU32 (sym q) h.right | inr k ↦ m.right y k ];
        };
        held = rw (da, h.held, m.held, dd) (simp append_assoc);
      })

  pub ask-takes : (ps : List Pattern) (s : List ℕ) → AskForm ps → drop at text ≡ ask_line ps ++ s → Takes ask_reader text at ps s
  unfolding ask_reader ask_line collect begins
  ask-takes [] s u e = let h = u.some in absurd (omega arith)
  ask-takes (x ∷ xs) s u e =
      in_turn _ _ text at (word-takes (bytes "(ask") text at _ (e ∙ simp append_assoc)) λ a ea.
      in_turn _ _ text a (next-takes text a x _ (u.numbers x (Memᴰ.head refl)) ea) λ b eb.
      in_turn _ _ text b (many-takes next_pattern PatternU32 text next_reader (next-takes text) (bytes ")\n" ++ s) (λ i ei. next-bad text i _ ei refl)
      xs _ b (λ y m. u.numbers y (Memᴰ.tail m)) (let f = u.few in omega arith) eb) λ c ec.
      in_turn _ _ text c (line-takes text c s ec) λ d ed.
      give-takes text d (x ∷ xs) s ed

  pub ask-bad : (s : List ℕ) → drop at text ≡ s → begins (bytes "(ask") s ≡ false → ask_reader text at ≡ bad
  unfolding ask_reader
  ask-bad s e f = fails _ _ text at (word-bad (bytes "(ask") text at s e f)
