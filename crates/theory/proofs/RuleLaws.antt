-- What the theory needs of a rule, shown of each line of the table: a further line is one more entry of
-- `all_laws`, of Strata's `levels` and of Constraints' `all_join`.
-- Assumes nothing.
use Prim.Native.Nat.{ℕ, ◌≤◌}
use mathlib.Core.Path.{◌≡◌, refl, sym, subst, ◌∙◌, ap}
use mathlib.Core.Logic.{◌⊎◌, inl, inr, ⊎_elim}
use mathlib.Core.Bool.{Bool, true, ◌&&◌}
use mathlib.Core.List.Memᴰ.{cases_cons as mem-cases}
use mathlib.Core.List.Memᴰ.{head as here}
use mathlib.Core.List.Memᴰ.{not-nil as no-mem}
use mathlib.Core.List.Memᴰ.{tail as there}
use mathlib.Core.List.{List, [], ◌∷◌, Memᴰ as Mem}
use native.Mathlib.Omega.{arith}
use lib.Dec.{eqb}
use borrow.Author.Tests.{eqb-true, eq-eqb}
use Rattle.model.specs.Rules.{Rule}
use Rattle.model.specs.declared.Triple.{Triple}
use Rattle.model.specs.declared.Vocabulary.{Vocabulary}
use Rattle.model.specs.Codes.{kind}
use Rattle.model.specs.Triples.{triple}
use Rattle.model.specs.Rules.{rule, rules, place, fits, gives}
use Rattle.model.specs.Roster.{class_row, property_row}
use Rattle.model.specs.Summary.{moved}
use Rattle.theory.proofs.Tests.{and_true, and_both}
use Rattle.theory.proofs.Covered.{kind_top, kind-type, one_of, two_of, Marked, Class, Property, Covered, class-at, property-at, covered-at, type-marked, schema-marked}

module _ (v : Vocabulary) (roster : List ℕ) where
  -- an end of one of two triples
  pub data EndOf (a b : Triple) (c : ℕ) : Type 0 where
    first_subject : c ≡ a.subject → EndOf a b c
    first_object : c ≡ a.object → EndOf a b c
    second_subject : c ≡ b.subject → EndOf a b c
    second_object : c ≡ b.object → EndOf a b c

  -- the conclusion is a data triple: then it has the ends of the second premise, a data triple too
  pub record FromData (t b : Triple) : Type 0 where
    pub data_triple : 5 ≤ kind v b.property
    pub subject : t.subject ≡ b.subject
    pub object : t.object ≡ b.object

  -- a map that leaves the marked ends of a triple alone
  pub record Fixes (f : ℕ → ℕ) (t : Triple) : Type 0 where
    pub subject : Marked roster t.subject → f t.subject ≡ t.subject
    pub object : Marked roster t.object → f t.object ≡ t.object

  pub record Laws (r : Rule) : Type 0 where
    -- the first premise is a schema triple
    pub schema : (a b : Triple) → fits v r a b ≡ true → (1 ≤ kind v a.property) × (kind v a.property ≤ 4)
    -- the conclusion's ends are ends of the premises
    pub subject_end : (a b : Triple) → EndOf a b (gives v r a b).subject
    pub object_end : (a b : Triple) → EndOf a b (gives v r a b).object
    pub covered : (a b : Triple) → fits v r a b ≡ true → Covered roster v a → Covered roster v b → Covered roster v (gives v r a b)
    pub from_data : (a b : Triple) → fits v r a b ≡ true → Covered roster v a → Covered roster v b → 5 ≤ kind v (gives v r a b).property → FromData (gives v r a b) b
    -- with the first premise fixed, the rule goes along a map of the second premise's ends, and back
    pub along : (f : ℕ → ℕ) (a b : Triple) → fits v r a b ≡ true → f a.subject ≡ a.subject → f a.object ≡ a.object
        → (fits v r a (moved f b) ≡ true) × (gives v r a (moved f b) ≡ moved f (gives v r a b))
    pub back : (f : ℕ → ℕ) (a b : Triple) → Covered roster v b → Fixes f b → fits v r a (moved f b) ≡ true → fits v r a b ≡ true

  -- ── the premises' kinds and the join, for each second kind ──
  pub any-parts : (a b : Triple) (k : ℕ) → (eqb (kind v a.property) k && eqb a.subject b.property) ≡ true → (kind v a.property ≡ k) × (a.subject ≡ b.property)
  any-parts a b k h = let s = and_true (eqb (kind v a.property) k) _ h in (eqb-true _ _ s.0, eqb-true _ _ s.1)

  pub both-parts : (a b : Triple) (k l x y : ℕ) → (eqb (kind v a.property) k && (eqb (kind v b.property) l && eqb x y)) ≡ true
      → (kind v a.property ≡ k) × (kind v b.property ≡ l) × (x ≡ y)
  both-parts a b k l x y h =
      let s = and_true (eqb (kind v a.property) k) _ h in
      let t = and_true (eqb (kind v b.property) l) _ s.1 in
      (eqb-true _ _ s.0, eqb-true _ _ t.0, eqb-true x y t.1)

  -- ── a domain c | a range c, s a o gives s | o type c ──
  -- k is domain or range; e the place of the second premise's subject or object
  typed_end_covered : (k : ℕ) (a : Triple) (c : ℕ) → kind v a.property ≡ k → ((t : Triple) → class_row t k ≡ t.object ∷ []) → Covered roster v a → 5 ≤ kind v c
      → Covered roster v (triple c v.instance a.object)
  typed_end_covered k a c e row h low =
      covered-at roster v (triple c v.instance a.object) 0 (kind-type v) low h.object_free
      (λ d m. one_of (λ q. subst (Class roster) (sym q) (class-at roster v a k e h a.object (subst (Mem a.object) (sym (row a)) (here refl)))) m)
      (λ d m. absurd (no-mem m))

  -- the place of an end of the second premise
  data EndPlace : ℕ → Type 0 where
    at_subject : EndPlace 3
    at_object : EndPlace 5

  typed_end_lem : (k e : ℕ) → EndPlace e → 1 ≤ k → k ≤ 4 → ((t : Triple) → class_row t k ≡ t.object ∷ []) → Laws (rule k 5 0 4 e 6 2)
  unfolding fits gives place
  typed_end_lem k e at_subject l u row =
      record {
        schema = λ a b h. let e = (any-parts a b k h).0 in (omega arith, omega arith);
        subject_end = λ a b. second_subject refl;
        object_end = λ a b. first_object refl;
        covered = λ a b h x y. typed_end_covered k a b.subject (any-parts a b k h).0 row x y.subject_free;
        from_data = λ a b h x y d. absurd (omega (arith, kind-type v));
        along = λ f a b h p q. (h, λ i. triple (f b.subject) v.instance (sym q i));
        back = λ f a b x y h. h;
      }
  typed_end_lem k e at_object l u row =
      record {
        schema = λ a b h. let e = (any-parts a b k h).0 in (omega arith, omega arith);
        subject_end = λ a b. second_object refl;
        object_end = λ a b. first_object refl;
        covered = λ a b h x y. typed_end_covered k a b.object (any-parts a b k h).0 row x y.object_free;
        from_data = λ a b h x y d. absurd (omega (arith, kind-type v));
        along = λ f a b h p q. (h, λ i. triple (f b.object) v.instance (sym q i));
        back = λ f a b x y h. h;
      }

  -- ── a subproperty b, s a o gives s b o ──
  free-kind : (c : ℕ) → 5 ≤ kind v c → kind v c ≡ 5
  free-kind c h = omega (arith, kind_top v c)

  renamed : Laws (rule 2 5 0 4 3 2 5)
  unfolding fits gives place
  renamed =
      record {
        schema = λ a b h. let e = (any-parts a b 2 h).0 in (omega arith, omega arith);
        subject_end = λ a b. second_subject refl;
        object_end = λ a b. second_object refl;
        covered = λ a b h x y.
            covered-at roster v (triple b.subject a.object b.object) 5 (free-kind a.object x.object_free) y.subject_free y.object_free
            (λ c m. absurd (no-mem m))
            (λ c m. one_of (λ q. subst (Property roster) (sym q) (property-at roster v a 2 (any-parts a b 2 h).0 x a.object (there (here refl)))) m);
        from_data = λ a b h x y d.
            record { data_triple = subst (λ (z : ℕ). 5 ≤ kind v z) (any-parts a b 2 h).1 x.subject_free; subject = refl; object = refl };
        along = λ f a b h p q. (h, refl);
        back = λ f a b x y h. h;
      }

  -- ── c subclass d, s type c gives s type d ──
  retyped : Laws (rule 1 0 0 5 3 4 2)
  unfolding fits gives place
  retyped =
      record {
        schema = λ a b h. let e = (both-parts a b 1 0 a.subject b.object h).0 in (omega arith, omega arith);
        subject_end = λ a b. second_subject refl;
        object_end = λ a b. first_object refl;
        covered = λ a b h x y.
            let w = both-parts a b 1 0 a.subject b.object h in
            covered-at roster v (triple b.subject b.property a.object) 0 w.1 y.subject_free x.object_free
            (λ c m. one_of (λ q. subst (Class roster) (sym q) (class-at roster v a 1 w.0 x a.object (there (here refl)))) m)
            (λ c m. absurd (no-mem m));
        from_data = λ a b h x y d. absurd (omega (arith, (both-parts a b 1 0 a.subject b.object h).1));
        along = λ f a b h p q.
            let w = both-parts a b 1 0 a.subject b.object h in (
              and_both (eqb (kind v a.property) 1) _ (eq-eqb _ _ w.0) (and_both (eqb (kind v b.property) 0) _ (eq-eqb _ _ w.1) (eq-eqb _ _ (sym p ∙ ap f w.2))),
              λ i. triple (f b.subject) b.property (sym q i),
            );
        back = λ f a b x y h.
            let w = both-parts a (moved f b) 1 0 a.subject (f b.object) h in
            and_both (eqb (kind v a.property) 1) _ (eq-eqb _ _ w.0)
            (and_both (eqb (kind v b.property) 0) _ (eq-eqb _ _ w.1) (eq-eqb _ _ (w.2 ∙ y.object (type-marked roster v b w.1 x))));
      }

  -- ── x k y, y l z gives x m z, where m is the one property or the other ──
  -- the roles that m asks of x are those of k, and the roles that it asks of z are those of l
  pub record Chains (k l m : ℕ) : Type 0 where
    pub classes : (x p y u q z r c : ℕ) → Mem c (class_row (triple x r z) m) → Mem c (class_row (triple x p y) k) ⊎ Mem c (class_row (triple u q z) l)
    pub properties : (x p y u q z r c : ℕ) → Mem c (property_row (triple x r z) m) → Mem c (property_row (triple x p y) k) ⊎ Mem c (property_row (triple u q z) l)

  -- the place of a premise's property
  pub data PropertyPlace (k l : ℕ) : ℕ → ℕ → Type 0 where
    of_first : PropertyPlace k l 1 k
    of_second : PropertyPlace k l 4 l

  pub data Schema : ℕ → Type 0 where
    is_subclass : Schema 1
    is_subproperty : Schema 2
    is_domain : Schema 3
    is_range : Schema 4

  pub schema-bounds : {k : ℕ} → Schema k → (1 ≤ k) × (k ≤ 4)
  schema-bounds is_subclass = (omega arith, omega arith)
  schema-bounds is_subproperty = (omega arith, omega arith)
  schema-bounds is_domain = (omega arith, omega arith)
  schema-bounds is_range = (omega arith, omega arith)

  -- the test of a rule whose second kind is a schema kind
  abbrev chain_fits : ℕ → ℕ → Triple → Triple → Bool
  chain_fits k l a b = eqb (kind v a.property) k && (eqb (kind v b.property) l && eqb a.object b.subject)

  chain_fits_lem : (k l p : ℕ) → Schema l → (a b : Triple) → fits v (rule k l 2 3 0 p 5) a b ≡ chain_fits k l a b
  unfolding fits place
  chain_fits_lem k l p is_subclass a b = refl
  chain_fits_lem k l p is_subproperty a b = refl
  chain_fits_lem k l p is_domain a b = refl
  chain_fits_lem k l p is_range a b = refl

  pub chain-parts : (k l p : ℕ) → Schema l → (a b : Triple) → fits v (rule k l 2 3 0 p 5) a b ≡ true → (kind v a.property ≡ k) × (kind v b.property ≡ l) × (a.object ≡ b.subject)
  chain-parts k l p s a b h = both-parts a b k l a.object b.subject (sym (chain_fits_lem k l p s a b) ∙ h)

  pub chain-whole : (k l p : ℕ) → Schema l → (a b : Triple) → kind v a.property ≡ k → kind v b.property ≡ l → a.object ≡ b.subject → fits v (rule k l 2 3 0 p 5) a b ≡ true
  chain-whole k l p s a b e g j =
      chain_fits_lem k l p s a b
      ∙ and_both (eqb (kind v a.property) k) _ (eq-eqb _ _ e) (and_both (eqb (kind v b.property) l) _ (eq-eqb _ _ g) (eq-eqb _ _ j))

  pub chain-kind : {k l p m : ℕ} → PropertyPlace k l p m → (a b : Triple) → kind v a.property ≡ k → kind v b.property ≡ l → kind v (place v a b p) ≡ m
  unfolding place
  chain-kind of_first a b e f = e
  chain-kind of_second a b e f = f

  chain-place : {k l p m : ℕ} → PropertyPlace k l p m → (f : ℕ → ℕ) (a b : Triple) → place v a (moved f b) p ≡ place v a b p
  unfolding place
  chain-place of_first f a b = refl
  chain-place of_second f a b = refl

  chain-schema : {k l p m : ℕ} → PropertyPlace k l p m → Schema k → Schema l → m ≤ 4
  chain-schema of_first x y = (schema-bounds x).1
  chain-schema of_second x y = (schema-bounds y).1

  chained : (k l p m : ℕ) → Schema k → Schema l → PropertyPlace k l p m → Chains k l m → Laws (rule k l 2 3 0 p 5)
  unfolding gives place
  chained k l p m sk sl pl ch =
      record {
        schema = λ a b h. let e = (chain-parts k l p sl a b h).0 in let u = schema-bounds sk in (omega arith, omega arith);
        subject_end = λ a b. first_subject refl;
        object_end = λ a b. second_object refl;
        covered = λ a b h x y. cover a b (chain-parts k l p sl a b h) x y;
        from_data = λ a b h x y d. let w = chain-parts k l p sl a b h in absurd (omega (arith, chain-kind pl a b w.0 w.1, chain-schema pl sk sl));
        along = λ f a b h fs fo.
            let w = chain-parts k l p sl a b h in (
              chain-whole k l p sl a (moved f b) w.0 w.1 (sym fo ∙ ap f w.2),
              λ i. triple (sym fs i) (chain-place pl f a b i) (f b.object),
            );
        back = λ f a b x y h.
            let w = chain-parts k l p sl a (moved f b) h in
            let u = schema-bounds sl in
            chain-whole k l p sl a b w.0 w.1 (w.2 ∙ y.subject (schema-marked roster v b (omega (arith, w.1)) (omega (arith, w.1)) x).0);
      }
    where
      cover : (a b : Triple) → (kind v a.property ≡ k) × (kind v b.property ≡ l) × (a.object ≡ b.subject) → Covered roster v a → Covered roster v b
          → Covered roster v (triple a.subject (place v a b p) b.object)
      cover a b w x y =
          covered-at roster v (triple a.subject (place v a b p) b.object) m (chain-kind pl a b w.0 w.1) x.subject_free y.object_free
          (λ c n. ⊎_elim (λ i. class-at roster v a k w.0 x c i) (λ i. class-at roster v b l w.1 y c i)
          (ch.classes a.subject a.property a.object b.subject b.property b.object (place v a b p) c n))
          (λ c n. ⊎_elim (λ i. property-at roster v a k w.0 x c i) (λ i. property-at roster v b l w.1 y c i)
          (ch.properties a.subject a.property a.object b.subject b.property b.object (place v a b p) c n))

  -- ── the table ──
  pub data All (P : Rule → Type 0) : List Rule → Type 0 where
    none : All P []
    more : {r : Rule} {rs : List Rule} → P r → All P rs → All P (r ∷ rs)

  pub all_in : {P : Rule → Type 0} {rs : List Rule} → All P rs → (r : Rule) → Mem r rs → P r
  all_in none r m = absurd (no-mem m)
  all_in {P} (more x xs) r m = ⊎_elim (λ e. subst P (sym e) x) (λ k. all_in xs r k) (mem-cases m)

  subclasses : Chains 1 1 1
  subclasses =
      record {
        classes = λ x p y u q z r c m. two_of (λ e. inl (here e)) (λ e. inr (there (here e))) m;
        properties = λ x p y u q z r c m. absurd (no-mem m);
      }

  subproperties : Chains 2 2 2
  subproperties =
      record {
        classes = λ x p y u q z r c m. absurd (no-mem m);
        properties = λ x p y u q z r c m. two_of (λ e. inl (here e)) (λ e. inr (there (here e))) m;
      }

  -- a kind whose triples lead from a property to a class: domain and range
  record ToClass (k : ℕ) : Type 0 where
    classes : (t : Triple) → class_row t k ≡ t.object ∷ []
    properties : (t : Triple) → property_row t k ≡ t.subject ∷ []

  domains : ToClass 3
  domains = record { classes = λ t. refl; properties = λ t. refl }

  ranges : ToClass 4
  ranges = record { classes = λ t. refl; properties = λ t. refl }

  inherited : {k : ℕ} → ToClass k → Chains 2 k k
  inherited w =
      record {
        classes = λ x p y u q z r c m. inr (subst (Mem c) (w.classes (triple x r z) ∙ sym (w.classes (triple u q z))) m);
        properties = λ x p y u q z r c m. inl (one_of (λ e. here e) (subst (Mem c) (w.properties (triple x r z)) m));
      }

  widened : {k : ℕ} → ToClass k → Chains k 1 k
  widened w =
      record {
        classes = λ x p y u q z r c m. inr (one_of (λ e. there (here e)) (subst (Mem c) (w.classes (triple x r z)) m));
        properties = λ x p y u q z r c m. inl (subst (Mem c) (w.properties (triple x r z) ∙ sym (w.properties (triple x p y))) m);
      }

  all_laws : All Laws rules
  all_laws =
      more (typed_end_lem 3 3 at_subject (omega arith) (omega arith) (λ t. refl))
      (more (typed_end_lem 4 5 at_object (omega arith) (omega arith) (λ t. refl))
      (more (chained 2 2 1 2 is_subproperty is_subproperty of_first subproperties)
      (more renamed
      (more retyped
      (more (chained 1 1 1 1 is_subclass is_subclass of_first subclasses)
      (more (chained 2 3 4 3 is_subproperty is_domain of_second (inherited domains))
      (more (chained 2 4 4 4 is_subproperty is_range of_second (inherited ranges))
      (more (chained 3 1 1 3 is_domain is_subclass of_first (widened domains))
      (more (chained 4 1 1 4 is_range is_subclass of_first (widened ranges)) none)))))))))

  pub laws : (r : Rule) → Mem r rules → Laws r
  laws r m = all_in all_laws r m
