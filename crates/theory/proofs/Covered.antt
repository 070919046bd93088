-- A triple that the checks 3 and 4 pass, as a statement: no reserved code at an end, and each role marked.
-- Assumes nothing.
use Prim.Native.Nat.{ℕ, zero, suc, ◌≤◌, ◌<◌}
use mathlib.Core.Path.{◌≡◌, refl, sym, subst, ◌∙◌, ap}
use mathlib.Core.Logic.{◌⊎◌, inl, inr, ⊎_elim}
use mathlib.Core.Bool.{Bool, true, false, cond, ◌||◌, true≢false}
use mathlib.Core.List.Memᴰ.{head as here}
use mathlib.Core.List.Memᴰ.{not-nil as no-mem}
use mathlib.Core.List.Memᴰ.{tail as there}
use mathlib.Core.List.{List, [], ◌∷◌, Memᴰ as Mem}
use native.Mathlib.Omega.{arith}
use lib.Dec.{eqb, leb}
use lib.ListN.{length, get_or}
use borrow.Author.Tests.{eqb-true, eq-eqb, ne_eqb, leb-false, lt-leb, ltb-false, le-ltb}
use Rattle.model.specs.declared.Triple.{Triple}
use Rattle.model.specs.declared.Vocabulary.{Vocabulary}
use Rattle.model.specs.Codes.{codes, kind, reserved, code_of, repeated, wrong_words}
use Rattle.model.specs.Lists.{any, all}
use Rattle.model.specs.Roster.{mark, is_class, is_property, unmarked, class_row, property_row, class_roles, property_roles, covers_triple, covers, wrong_end, wrong_triple, wrong_codes}
use Rattle.theory.specs.Tables.{Below}
use Rattle.theory.proofs.Tests.{or_true, or-false, or_neither, and_true, and_both, bool_cases}
use Rattle.theory.proofs.Lists.{all-at, at_all, any-holds, any_none, none_any, mem_get_d}

-- the kind by its five tests
abbrev first_true : Bool → Bool → Bool → Bool → Bool → ℕ
first_true a b c d e = cond a 0 (cond b 1 (cond c 2 (cond d 3 (cond e 4 5))))

-- a kind is at most 5
pub kind_top : (v : Vocabulary) (p : ℕ) → kind v p ≤ 5
unfolding kind
kind_top v p = go (eqb p v.instance) (eqb p v.subclass) (eqb p v.subproperty) (eqb p v.domain) (eqb p v.range)
  where
    go : (a b c d e : Bool) → first_true a b c d e ≤ 5
    go true b c d e = omega arith
    go false true c d e = omega arith
    go false false true d e = omega arith
    go false false false true e = omega arith
    go false false false false true = omega arith
    go false false false false false = omega arith

-- a code of a kind below 5 is the vocabulary's of that kind
pub code_of_kind : (v : Vocabulary) (p k : ℕ) → kind v p ≡ k → k < 5 → p ≡ code_of v k
unfolding kind code_of
code_of_kind v p k q h =
    subst (λ (z : ℕ). z < 5 → p ≡ code_of v z) q (go (eqb p v.instance) (eqb p v.subclass) (eqb p v.subproperty) (eqb p v.domain) (eqb p v.range)
    (eqb-true _ _) (eqb-true _ _) (eqb-true _ _) (eqb-true _ _) (eqb-true _ _)) h
  where
    go : (a b c d e : Bool) → (a ≡ true → p ≡ v.instance) → (b ≡ true → p ≡ v.subclass) → (c ≡ true → p ≡ v.subproperty) → (d ≡ true → p ≡ v.domain) → (e ≡ true → p ≡ v.range)
        → first_true a b c d e < 5 → p ≡ get_or (codes v) (first_true a b c d e) v.instance
    go true b c d e f1 f2 f3 f4 f5 h = f1 refl
    go false true c d e f1 f2 f3 f4 f5 h = f2 refl
    go false false true d e f1 f2 f3 f4 f5 h = f3 refl
    go false false false true e f1 f2 f3 f4 f5 h = f4 refl
    go false false false false true f1 f2 f3 f4 f5 h = f5 refl
    go false false false false false f1 f2 f3 f4 f5 h = absurd (omega (arith, h))

-- a list without repeats has different numbers at different places
places-differ : (xs : List ℕ) (d i j : ℕ) → repeated xs ≡ false → i < length xs → j < length xs → get_or xs i d ≡ get_or xs j d → i ≡ j
unfolding repeated any
places-differ [] d i j h p q e = absurd (omega arith)
places-differ (x ∷ xs) d zero zero h p q e = refl
places-differ (x ∷ xs) d zero (suc j) h p q e =
    absurd (true≢false (sym (eq-eqb x _ e) ∙ any_none (λ y. eqb x y) xs (or-false (any (λ y. eqb x y) xs) _ h).0 _ (mem_get_d xs d j (omega arith))))
places-differ (x ∷ xs) d (suc i) zero h p q e =
    absurd (true≢false (sym (eq-eqb x _ (sym e)) ∙ any_none (λ y. eqb x y) xs (or-false (any (λ y. eqb x y) xs) _ h).0 _ (mem_get_d xs d i (omega arith))))
places-differ (x ∷ xs) d (suc i) (suc j) h p q e = ap suc (places-differ xs d i j (or-false (any (λ y. eqb x y) xs) _ h).1 (omega arith) (omega arith) e)

-- one of the five codes has a kind below 5
code-reserved : (v : Vocabulary) (c : ℕ) → Mem c (codes v) → kind v c < 5
unfolding kind any
code-reserved v c m =
    go (eqb c v.instance) (eqb c v.subclass) (eqb c v.subproperty) (eqb c v.domain) (eqb c v.range)
    (any-holds (λ x. eqb c x) (codes v) c m (eq-eqb c c refl))
  where
    go : (a b c d e : Bool) → (a || (b || (c || (d || (e || false))))) ≡ true → first_true a b c d e < 5
    go true b c d e h = omega arith
    go false true c d e h = omega arith
    go false false true d e h = omega arith
    go false false false true e h = omega arith
    go false false false false true h = omega arith
    go false false false false false h = absurd (true≢false (sym h))

-- where no two codes are equal, a code's kind is its place
pub kind_of_code : (v : Vocabulary) (n : ℕ) → wrong_words v n ≡ false → (k : ℕ) → k < 5 → kind v (code_of v k) ≡ k
unfolding wrong_words code_of
kind_of_code v n h k l =
    let r = code-reserved v (code_of v k) (mem_get_d (codes v) v.instance k l) in
    let q = code_of_kind v (code_of v k) (kind v (code_of v k)) refl r in
    sym (places-differ (codes v) v.instance k _ (or-false (any (λ c. leb n c) (codes v)) _ h).1 l r q)

pub kind-type : (v : Vocabulary) → kind v v.instance ≡ 0
unfolding kind
kind-type v = rw (eq-eqb v.instance v.instance refl)

pub one_of : {c x : ℕ} {P : Type 0} → (c ≡ x → P) → Mem c (x ∷ []) → P
one_of f (here e) = f e
one_of f (there m) = absurd (no-mem m)

pub two_of : {c x y : ℕ} {P : Type 0} → (c ≡ x → P) → (c ≡ y → P) → Mem c (x ∷ y ∷ []) → P
two_of f g (here e) = f e
two_of f g (there m) = one_of g m

module _ (roster : List ℕ) where
  abbrev pub Marked : ℕ → Type 0
  Marked c = unmarked roster c ≡ false

  abbrev pub Plain : ℕ → Type 0
  Plain c = unmarked roster c ≡ true

  pub by-mark : (c : ℕ) → Marked c ⊎ Plain c
  by-mark c = ⊎_elim inr inl (bool_cases (unmarked roster c))

  abbrev pub Class : ℕ → Type 0
  Class c = is_class (mark roster c) ≡ true

  abbrev pub Property : ℕ → Type 0
  Property c = is_property (mark roster c) ≡ true

  pub class-marked : (c : ℕ) → Class c → Marked c
  unfolding is_class unmarked
  class-marked c h =
      ⊎_elim (λ e. ne_eqb (mark roster c) 0 (λ z. absurd (omega (arith, eqb-true (mark roster c) 1 e)))) (λ e. ne_eqb (mark roster c) 0 (λ z. absurd (omega (arith, eqb-true (mark roster c) 3 e))))
      (or_true (eqb (mark roster c) 1) _ h)

  pub property-marked : (c : ℕ) → Property c → Marked c
  unfolding is_property unmarked
  property-marked c h =
      ⊎_elim (λ e. ne_eqb (mark roster c) 0 (λ z. absurd (omega (arith, eqb-true (mark roster c) 2 e)))) (λ e. ne_eqb (mark roster c) 0 (λ z. absurd (omega (arith, eqb-true (mark roster c) 3 e))))
      (or_true (eqb (mark roster c) 2) _ h)

  module _ (v : Vocabulary) where
    pub record Covered (t : Triple) : Type 0 where
      pub subject_free : 5 ≤ kind v t.subject
      pub object_free : 5 ≤ kind v t.object
      pub classes : (c : ℕ) → Mem c (class_row t (kind v t.property)) → Class c
      pub properties : (c : ℕ) → Mem c (property_row t (kind v t.property)) → Property c

    -- the roles of a triple whose kind is known
    pub class-at : (t : Triple) (k : ℕ) → kind v t.property ≡ k → Covered t → (c : ℕ) → Mem c (class_row t k) → Class c
    class-at t k e h = subst (λ (z : ℕ). (c : ℕ) → Mem c (class_row t z) → Class c) e h.classes

    pub property-at : (t : Triple) (k : ℕ) → kind v t.property ≡ k → Covered t → (c : ℕ) → Mem c (property_row t k) → Property c
    property-at t k e h = subst (λ (z : ℕ). (c : ℕ) → Mem c (property_row t z) → Property c) e h.properties

    -- and a triple that is covered by its kind
    pub covered-at : (t : Triple) (k : ℕ) → kind v t.property ≡ k → 5 ≤ kind v t.subject → 5 ≤ kind v t.object
        → ((c : ℕ) → Mem c (class_row t k) → Class c) → ((c : ℕ) → Mem c (property_row t k) → Property c) → Covered t
    covered-at t k e s o f g =
        record {
          subject_free = s;
          object_free = o;
          classes = subst (λ (z : ℕ). (c : ℕ) → Mem c (class_row t z) → Class c) (sym e) f;
          properties = subst (λ (z : ℕ). (c : ℕ) → Mem c (property_row t z) → Property c) (sym e) g;
        }

    -- the object of a type triple is marked
    pub type-marked : (t : Triple) → kind v t.property ≡ 0 → Covered t → Marked t.object
    type-marked t e h = class-marked t.object (class-at t 0 e h t.object (here refl))

    -- both ends of a schema triple are marked
    pub schema-marked : (t : Triple) → 1 ≤ kind v t.property → kind v t.property ≤ 4 → Covered t → Marked t.subject × Marked t.object
    schema-marked t l u h = go (kind v t.property) refl l u
      where
        go : (k : ℕ) → kind v t.property ≡ k → 1 ≤ k → k ≤ 4 → Marked t.subject × Marked t.object
        go zero e l u = absurd (omega arith)
        go (suc zero) e l u = (class-marked _ (class-at t 1 e h _ (here refl)), class-marked _ (class-at t 1 e h _ (there (here refl))))
        go (suc (suc zero)) e l u = (property-marked _ (property-at t 2 e h _ (here refl)), property-marked _ (property-at t 2 e h _ (there (here refl))))
        go (suc (suc (suc zero))) e l u = (property-marked _ (property-at t 3 e h _ (here refl)), class-marked _ (class-at t 3 e h _ (here refl)))
        go (suc (suc (suc (suc zero)))) e l u = (property-marked _ (property-at t 4 e h _ (here refl)), class-marked _ (class-at t 4 e h _ (here refl)))
        go (suc (suc (suc (suc (suc k))))) e l u = absurd (omega arith)

-- ── the checks as statements ──
module _ (v : Vocabulary) where
  free_test : (n c : ℕ) → wrong_end v n c ≡ false → (c < n) × (5 ≤ kind v c)
  unfolding wrong_end reserved
  free_test n c h = let x = or-false (leb n c) _ h in (leb-false n c x.0, ltb-false (kind v c) 5 x.1)

  test_free : (n c : ℕ) → c < n → 5 ≤ kind v c → wrong_end v n c ≡ false
  unfolding wrong_end reserved
  test_free n c l k = or_neither (leb n c) _ (lt-leb n c l) (le-ltb (kind v c) 5 k)

  pub record Codes (n : ℕ) (t : Triple) : Type 0 where
    pub below : Below n t
    pub subject_free : 5 ≤ kind v t.subject
    pub object_free : 5 ≤ kind v t.object

  pub codes-right : (n : ℕ) (t : Triple) → wrong_triple v n t ≡ false → Codes n t
  unfolding wrong_triple
  codes-right n t h =
      let x = or-false (wrong_end v n t.subject) _ h in
      let y = or-false (leb n t.property) _ x.1 in
      let s = free_test n t.subject x.0 in
      let o = free_test n t.object y.1 in
      record {
        below = record { subject = s.0; property = leb-false n t.property y.0; object = o.0 };
        subject_free = s.1;
        object_free = o.1;
      }

  pub right-codes : (n : ℕ) (t : Triple) → Codes n t → wrong_triple v n t ≡ false
  unfolding wrong_triple
  right-codes n t h =
      or_neither (wrong_end v n t.subject) _ (test_free n t.subject h.below.subject h.subject_free)
      (or_neither (leb n t.property) _ (lt-leb n t.property h.below.property) (test_free n t.object h.below.object h.object_free))

  pub all_codes : (n : ℕ) (ts : List Triple) → wrong_codes v n ts ≡ false → (t : Triple) → Mem t ts → Codes n t
  unfolding wrong_codes
  all_codes n ts h t m = codes-right n t (any_none (wrong_triple v n) ts h t m)

  pub codes_all : (n : ℕ) (ts : List Triple) → ((t : Triple) → Mem t ts → Codes n t) → wrong_codes v n ts ≡ false
  unfolding wrong_codes
  codes_all n ts h = none_any (wrong_triple v n) ts (λ t m. right-codes n t (h t m))

  module _ (roster : List ℕ) where
    pub covers-covered : (n : ℕ) (t : Triple) → covers_triple v roster t ≡ true → Codes n t → Covered roster v t
    unfolding covers_triple class_roles property_roles
    covers-covered n t h k =
        let x = and_true (all (λ c. is_class (mark roster c)) (class_roles v t)) _ h in
        record {
          subject_free = k.subject_free;
          object_free = k.object_free;
          classes = all-at (λ c. is_class (mark roster c)) (class_roles v t) x.0;
          properties = all-at (λ c. is_property (mark roster c)) (property_roles v t) x.1;
        }

    pub covered-covers : (t : Triple) → Covered roster v t → covers_triple v roster t ≡ true
    unfolding covers_triple class_roles property_roles
    covered-covers t h =
        and_both (all (λ c. is_class (mark roster c)) (class_roles v t)) _
        (at_all (λ c. is_class (mark roster c)) (class_roles v t) h.classes) (at_all (λ c. is_property (mark roster c)) (property_roles v t) h.properties)

    pub all-covered : (n : ℕ) (ts : List Triple) → wrong_codes v n ts ≡ false → covers v roster ts ≡ true → (t : Triple) → Mem t ts → Covered roster v t
    unfolding covers
    all-covered n ts h k t m = covers-covered n t (all-at (covers_triple v roster) ts k t m) (all_codes n ts h t m)

    pub covered-all : (ts : List Triple) → ((t : Triple) → Mem t ts → Covered roster v t) → covers v roster ts ≡ true
    unfolding covers
    covered-all ts h = at_all (covers_triple v roster) ts (λ t m. covered-covers t (h t m))
