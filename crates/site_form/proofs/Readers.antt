-- Readers in general: what one gives after another, and what a sequence of forms gives.
-- Assumes nothing.
use Prim.Native.Nat.{ℕ, zero, suc, ◌+◌, ◌-◌, ◌≤◌}
use mathlib.Core.Path.{◌≡◌, refl, sym, ◌∙◌, ap, subst, subst₂}
use mathlib.Core.Logic.{◌⊎◌, inl, inr}
use mathlib.Core.Bool.{Bool, true, false, cond, ◌&&◌}
use mathlib.Core.Option.{Option, none, some}
use mathlib.Core.List.Memᴰ
use mathlib.Core.List.{List, [], ◌∷◌, ◌++◌, append_assoc, Memᴰ as Mem}
use lib.Dec.{eqb, leb}
use lib.ListN.{length, drop, length-drop, drop_of_length-le}
use lib.Seq.{drop-drop, drop-append_seam}
use borrow.Author.Tests.{eqb-true, eq-eqb, leb-true, le-leb}
use native.Mathlib.Omega.{arith}
use Rattle.model.specs.Lists.{collect}
use Rattle.site_form.specs.Reading.{Step, bad, got, Reader, and_then, ◌>>=◌, give, or_else, ◌or◌, given_else, optional, while_got, many, begins, word, text_end}

-- a reader that answers `bad` gives nothing
pub not_bad : {A : Type 0} {P : Type 0} (s : Step A) (x : A) (i : ℕ) → s ≡ bad → s ≡ got x i → P
not_bad s x i p q = let z : ◌≡◌ {A = ℕ} 0 1 = cc in absurd (omega arith)

pub got-value : {A : Type 0} {x y : A} {i j : ℕ} → got x i ≡ got y j → x ≡ y
got-value e = cc

pub got-next : {A : Type 0} {x y : A} {i j : ℕ} → got x i ≡ got y j → i ≡ j
got-next e = cc

-- ── one form after another ──
-- the reader gives x at this place, and the bytes s are left
pub record Takes {A : Type 0} (r : Reader A) (text : List ℕ) (at : ℕ) (x : A) (s : List ℕ) : Type 0 where
  pub next : ℕ
  pub gives : r text at ≡ got x next
  pub rest : drop next text ≡ s

module _ {A B : Type 0} (r : Reader A) (k : A → Reader B) (text : List ℕ) (at : ℕ) where
  -- what a sequence of two gave comes from what each gave
  pub from-both : {P : Type 0} (y : B) (j : ℕ) → (r >>= k) text at ≡ got y j → ((x : A) (i : ℕ) → r text at ≡ got x i → k x text i ≡ got y j → P) → P
  unfolding ◌>>=◌
  from-both {P} y j e f = go (r text at) refl e
    where
      go : (s : Step A) → r text at ≡ s → and_then s (λ x i. k x text i) ≡ got y j → P
      go bad p q = not_bad bad y j refl q
      go (got x i) p q = f x i p q

  pub in_turn : {x : A} {y : B} {s u : List ℕ} → Takes r text at x s → ((i : ℕ) → drop i text ≡ s → Takes (k x) text i y u) → Takes (r >>= k) text at y u
  unfolding ◌>>=◌
  in_turn h f = let g = f h.next h.rest in record { next = g.next; gives = rw h.gives g.gives; rest = g.rest }

  pub fails : r text at ≡ bad → (r >>= k) text at ≡ bad
  unfolding ◌>>=◌
  fails e = rw e

module _ {A : Type 0} (text : List ℕ) (at : ℕ) where
  pub give-takes : (x : A) (s : List ℕ) → drop at text ≡ s → Takes (give x) text at x s
  unfolding give
  give-takes x s e = record { next = at; gives = refl; rest = e }

  pub from-give : (Q : A → ℕ → Type 0) (x y : A) (j : ℕ) → give x text at ≡ got y j → Q x at → Q y j
  unfolding give
  from-give Q x y j e q = subst₂ Q (got-value e) (got-next e) q

  module _ (r s : Reader A) (x : A) where
    pub or_got : (j : ℕ) → (r or s) text at ≡ got x j → (r text at ≡ got x j) ⊎ (s text at ≡ got x j)
    unfolding ◌or◌
    or_got j e = go (r text at) refl e
      where
        go : (t : Step A) → r text at ≡ t → or_else t (s text at) ≡ got x j → (r text at ≡ got x j) ⊎ (s text at ≡ got x j)
        go bad p q = inr q
        go (got y i) p q = inl (p ∙ q)

    pub or_first : (u : List ℕ) → Takes r text at x u → Takes (r or s) text at x u
    unfolding ◌or◌
    or_first u h = record { next = h.next; gives = rw h.gives; rest = h.rest }

    pub or_second : (u : List ℕ) → r text at ≡ bad → Takes s text at x u → Takes (r or s) text at x u
    unfolding ◌or◌
    or_second u e h = record { next = h.next; gives = rw e h.gives; rest = h.rest }

-- ── a form that may stand ──
module _ {A : Type 0} (r : Reader A) (text : List ℕ) (at : ℕ) where
  pub optional-some : (x : A) (s : List ℕ) → Takes r text at x s → Takes (optional r) text at (some x) s
  unfolding optional
  optional-some x s h = record { next = h.next; gives = rw h.gives; rest = h.rest }

  pub optional-none : (s : List ℕ) → r text at ≡ bad → drop at text ≡ s → Takes (optional r) text at none s
  unfolding optional
  optional-none s e h = record { next = at; gives = rw e; rest = h }

  pub optional-got : (P : Option A → ℕ → Type 0) (o : Option A) (j : ℕ) → optional r text at ≡ got o j → P none at → ((x : A) (i : ℕ) → r text at ≡ got x i → P (some x) i) → P o j
  unfolding optional
  optional-got P o j e n f = go (r text at) refl e
    where
      go : (s : Step A) → r text at ≡ s → given_else s at ≡ got o j → P o j
      go bad p q = subst₂ P (got-value q) (got-next q) n
      go (got x i) p q = subst₂ P (got-value q) (got-next q) (f x i p)

-- ── bytes ──
pub begins-self : (w s : List ℕ) → begins w (w ++ s) ≡ true
unfolding begins
begins-self [] s = refl
begins-self (b ∷ w) s = rw (eq-eqb b b refl) (begins-self w s)

pub begins-append : (w s : List ℕ) → begins w s ≡ true → s ≡ w ++ drop (length w) s
unfolding begins
begins-append [] s e = refl
begins-append (b ∷ w) [] e = let z : ◌≡◌ {A = ℕ} 0 1 = cc in absurd (omega arith)
begins-append (b ∷ w) (c ∷ s) e = go (eqb b c) refl e (begins-append w s)
  where
    go : (t : Bool) → eqb b c ≡ t → (t && begins w s) ≡ true → (begins w s ≡ true → s ≡ w ++ drop (length w) s) → c ∷ s ≡ b ∷ (w ++ drop (length w) s)
    go false p q ih = let z : ◌≡◌ {A = ℕ} 0 1 = cc in absurd (omega arith)
    go true p q ih = let h = ih q in let e : b ≡ c = eqb-true b c p in cc

module _ (w text : List ℕ) (at : ℕ) where
  pub word-says : (u : Unit {0}) (j : ℕ) → word w text at ≡ got u j → drop at text ≡ w ++ drop j text
  unfolding word
  word-says u j e = go (begins w (drop at text)) refl e
    where
      go : (t : Bool) → begins w (drop at text) ≡ t → cond t (got tt (at + length w)) bad ≡ got u j → drop at text ≡ w ++ drop j text
      go false p q = not_bad bad u j refl q
      go true p q = let i : at + length w ≡ j = cc in begins-append w (drop at text) p ∙ ap (λ l. w ++ l) (drop-drop (length w) at text ∙ ap (λ n. drop n text) i)

  pub word-takes : (s : List ℕ) → drop at text ≡ w ++ s → Takes (word w) text at tt s
  unfolding word
  word-takes s e = record { next = at + length w; gives = rw (e, begins-self w s); rest = sym (drop-drop (length w) at text) ∙ ap (drop (length w)) e ∙ drop-append_seam w s }

  pub word-bad : (s : List ℕ) → drop at text ≡ s → begins w s ≡ false → word w text at ≡ bad
  unfolding word
  word-bad s e f = rw (e, f)

module _ (text : List ℕ) (at : ℕ) where
  pub end-says : (u : Unit {0}) (j : ℕ) → text_end text at ≡ got u j → drop at text ≡ []
  unfolding text_end
  end-says u j e = go (leb (length text) at) refl e
    where
      go : (t : Bool) → leb (length text) at ≡ t → cond t (got tt at) bad ≡ got u j → drop at text ≡ []
      go false p q = not_bad bad u j refl q
      go true p q = drop_of_length-le text (leb-true (length text) at p)

  pub end-takes : drop at text ≡ [] → Takes text_end text at tt []
  unfolding text_end
  end-takes e = let z : length text - at ≡ 0 = sym (length-drop at text) ∙ ap length e in record { next = at; gives = rw (le-leb (length text) at (omega arith)); rest = e }

-- ── forms that follow one another ──
-- the value is right, and the text holds its bytes between the two places
pub record Says {A : Type 0} (bytes_of : A → List ℕ) (Ok : A → Type 0) (text : List ℕ) (at : ℕ) (x : A) (j : ℕ) : Type 0 where
  pub right : Ok x
  pub held : drop at text ≡ bytes_of x ++ drop j text

module _ {A : Type 0} (r : Reader A) (text : List ℕ) (k at : ℕ) where
  pub many_stop : r text at ≡ bad → many (suc k) r text at ≡ got [] at
  unfolding many
  many_stop e = rw e

  pub many-on : (x : A) (i : ℕ) → r text at ≡ got x i → many (suc k) r text at ≡ and_then (many k r text i) (λ xs j. got (x ∷ xs) j)
  unfolding many
  many-on x i e = rw e

module _ {A : Type 0} (bytes_of : A → List ℕ) where
  -- each is right, there are at most k, and the text holds their bytes
  pub record Many (Ok : A → Type 0) (k : ℕ) (text : List ℕ) (at : ℕ) (xs : List A) (j : ℕ) : Type 0 where
    pub right : (x : A) → Mem x xs → Ok x
    pub few : length xs ≤ k
    pub held : drop at text ≡ collect bytes_of xs ++ drop j text

  module _ (Ok : A → Type 0) (text : List ℕ) where
    none-says : (k at : ℕ) → Many Ok k text at [] at
    unfolding collect
    none-says k at = record { right = λ x m. absurd (Memᴰ.not-nil m); few = omega arith; held = refl }

    more-says : (k at i j : ℕ) (x : A) (xs : List A) → Says bytes_of Ok text at x i → Many Ok k text i xs j → Many Ok (suc k) text at (x ∷ xs) j
    unfolding collect
    more-says k at i j x xs h m =
        record {
          right = λ y n. elim (Memᴰ.cases_cons n) [ inl e ↦ subst Ok (sym e) h.right | inr n' ↦ m.right y n' ];
          few = let f = m.few in omega arith;
          held = rw (h.held, m.held) (sym (append_assoc (bytes_of x) (collect bytes_of xs) (drop j text)));
        }

    module _ (r : Reader A) (says : (at : ℕ) (x : A) (j : ℕ) → r text at ≡ got x j → Says bytes_of Ok text at x j) where
      pub many-says : (k at : ℕ) (xs : List A) (j : ℕ) → many k r text at ≡ got xs j → Many Ok k text at xs j
      unfolding many
      many-says zero at xs j e = subst₂ (λ ys i. Many Ok 0 text at ys i) (got-value e) (got-next e) (none-says 0 at)
      many-says (suc k) at xs j e = go (r text at) refl e (λ i ys n. many-says k i ys n)
        where
          on : ((i : ℕ) (ys : List A) (n : ℕ) → many k r text i ≡ got ys n → Many Ok k text i ys n) → (x : A) (i : ℕ) → r text at ≡ got x i
              → (m : Step (List A)) → many k r text i ≡ m → and_then m (λ ys n. got (x ∷ ys) n) ≡ got xs j → Many Ok (suc k) text at xs j
          on ih x i p bad q f = not_bad bad xs j refl f
          on ih x i p (got ys n) q f = subst₂ (λ zs l. Many Ok (suc k) text at zs l) (got-value f) (got-next f) (more-says k at i n x ys (says at x i p) (ih i ys n q))

          go : (s : Step A) → r text at ≡ s → while_got s (λ x i. and_then (many k r text i) (λ ys n. got (x ∷ ys) n)) (got [] at) ≡ got xs j
              → ((i : ℕ) (ys : List A) (n : ℕ) → many k r text i ≡ got ys n → Many Ok k text i ys n) → Many Ok (suc k) text at xs j
          go bad p f ih = subst₂ (λ ys i. Many Ok (suc k) text at ys i) (got-value f) (got-next f) (none-says (suc k) at)
          go (got x i) p f ih = on ih x i p (many k r text i) refl f

  module _ (Ok : A → Type 0) (text : List ℕ) (r : Reader A) (takes : (at : ℕ) (x : A) (s : List ℕ) → Ok x → drop at text ≡ bytes_of x ++ s → Takes r text at x s) where
    module _ (s : List ℕ) (stop : (i : ℕ) → drop i text ≡ s → r text i ≡ bad) where
      none-takes : (k at : ℕ) → drop at text ≡ s → Takes (many k r) text at [] s
      unfolding many
      none-takes zero at e = record { next = at; gives = refl; rest = e }
      none-takes (suc k) at e = record { next = at; gives = rw (stop at e); rest = e }

      pub many-takes : (xs : List A) (k at : ℕ) → ((x : A) → Mem x xs → Ok x) → length xs ≤ k → drop at text ≡ collect bytes_of xs ++ s → Takes (many k r) text at xs s
      unfolding many collect
      many-takes [] k at ok few e = none-takes k at e
      many-takes (x ∷ xs) zero at ok few e = absurd (omega arith)
      many-takes (x ∷ xs) (suc k) at ok few e =
          let h = takes at x (collect bytes_of xs ++ s) (ok x (Mem.head refl)) (e ∙ append_assoc (bytes_of x) (collect bytes_of xs) s) in
          let g = many-takes xs k h.next (λ y m. ok y (Mem.tail m)) (omega arith) h.rest in
          record { next = g.next; gives = rw (h.gives, g.gives); rest = g.rest }
