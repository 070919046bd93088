-- The rules in strata. Where no reserved code is subject or object, the rules derive schema triples from schema triples alone; and closed
-- schema triples give with the table's own triples, in one step, all that they give in several. So it is enough to close the schema
-- triples, to add the others, and then to make one pass each with the rule that retypes (5), with the rules that type an end (1, 2), and
-- with the rule that renames (4): `strata`.
-- Assumes nothing.
use Prim.Native.Nat.{ℕ, zero, suc, ◌≤◌}
use mathlib.Core.Path.{◌≡◌, refl, sym, subst, ◌∙◌, ap}
use mathlib.Core.Logic.{◌⊎◌, inl, inr, ⊎_elim, ◌↔◌}
use mathlib.Core.Bool.{true}
use mathlib.Core.List.Memᴰ.{head as here}
use mathlib.Core.List.Memᴰ.{tail as there}
use mathlib.Core.List.{List, [], ◌∷◌, Memᴰ as Mem}
use native.Mathlib.Omega.{arith}
use lib.Dec.{eqb, ltb}
use borrow.Author.Tests.{eq-eqb, ltb-true, ltb-false}
use Rattle.model.specs.Rules.{Rule}
use Rattle.model.specs.declared.Triple.{Triple}
use Rattle.model.specs.declared.Vocabulary.{Vocabulary}
use Rattle.model.specs.Codes.{kind}
use Rattle.model.specs.Triples.{triple}
use Rattle.model.specs.Rules.{rule, rules, place, fits, gives, Derives, given, by_rule}
use Rattle.model.specs.Cliques.{Graph}
use Rattle.theory.proofs.Tests.{and_both, bool_cases}
use Rattle.theory.proofs.Lists.{mem_get_d}
use Rattle.theory.proofs.Covered.{kind-type}
use Rattle.theory.proofs.RuleLaws.{EndOf, first_subject, first_object, second_subject, second_object, PropertyPlace, of_first, of_second}
use Rattle.theory.proofs.RuleLaws.{Schema, is_subclass, is_subproperty, is_domain, is_range, schema-bounds, any-parts, both-parts, chain-parts}
use Rattle.theory.proofs.RuleLaws.{chain-whole, chain-kind, All, none, more, all_in, laws}
use Rattle.theory.proofs.Saturated.{derives_cut}

-- the rules of each pass
abbrev pub retyping : List Rule
retyping = rule 1 0 0 5 3 4 2 ∷ []

abbrev pub typing : List Rule
typing = rule 3 5 0 4 3 6 2 ∷ rule 4 5 0 4 5 6 2 ∷ []

abbrev pub renaming : List Rule
renaming = rule 2 5 0 4 3 2 5 ∷ []

-- the kinds that type an end: domain the subject, range the object
pub data Types : ℕ → Type 0 where
  subjects : Types 3
  objects : Types 4

typed_end : {k : ℕ} → Types k → Triple → ℕ
typed_end subjects t = t.subject
typed_end objects t = t.object

typing_rule : {k : ℕ} → Types k → Rule
typing_rule subjects = rule 3 5 0 4 3 6 2
typing_rule objects = rule 4 5 0 4 5 6 2

in_typing : {k : ℕ} (w : Types k) → Mem (typing_rule w) typing
unfolding typing_rule
in_typing subjects = here refl
in_typing objects = there (here refl)

-- a renamed triple has the same ends
same_end : {k : ℕ} (w : Types k) (t u : Triple) (p : ℕ) → t ≡ triple u.subject p u.object → typed_end w t ≡ typed_end w u
unfolding typed_end
same_end subjects t u p e = ap (λ (z : Triple). z.subject) e
same_end objects t u p e = ap (λ (z : Triple). z.object) e

module _ (v : Vocabulary) where
  -- 01: reserved codes "stand only in the property place"
  abbrev pub Free : Triple → Type 0
  Free t = (5 ≤ kind v t.subject) × (5 ≤ kind v t.object)

  abbrev pub IsSchema : Triple → Type 0
  IsSchema t = (1 ≤ kind v t.property) × (kind v t.property ≤ 4)

  -- ── the level of a rule: what it takes and what it gives ──
  data Level (r : Rule) (a b : Triple) : Type 0 where
    schemas : IsSchema a → IsSchema b → IsSchema (gives v r a b) → Level r a b
    renames : kind v a.property ≡ 2 → a.subject ≡ b.property → gives v r a b ≡ triple b.subject a.object b.object → Level r a b
    types : {k : ℕ} (w : Types k) → kind v a.property ≡ k → a.subject ≡ b.property → gives v r a b ≡ triple (typed_end w b) v.instance a.object → Level r a b
    retypes : kind v a.property ≡ 1 → kind v b.property ≡ 0 → a.subject ≡ b.object → gives v r a b ≡ triple b.subject b.property a.object → Level r a b

  abbrev Levelled : Rule → Type 0
  Levelled r = (a b : Triple) → fits v r a b ≡ true → Level r a b

  schema_of : {k : ℕ} (p : ℕ) → Schema v [] k → kind v p ≡ k → (1 ≤ kind v p) × (kind v p ≤ 4)
  schema_of p s e = let u = schema-bounds v [] s in (omega arith, omega arith)

  types-schema : {k : ℕ} → Types k → (p : ℕ) → kind v p ≡ k → (1 ≤ kind v p) × (kind v p ≤ 4)
  types-schema subjects p e = schema_of p is_domain e
  types-schema objects p e = schema_of p is_range e

  end_typed : {k : ℕ} (w : Types k) → Levelled (typing_rule w)
  unfolding fits gives place typing_rule typed_end
  end_typed subjects a b h = let w = any-parts v [] a b 3 h in types subjects w.0 w.1 refl
  end_typed objects a b h = let w = any-parts v [] a b 4 h in types objects w.0 w.1 refl

  chained : (k l p m : ℕ) → Schema v [] k → Schema v [] l → Schema v [] m → PropertyPlace v [] k l p m → Levelled (rule k l 2 3 0 p 5)
  unfolding gives
  chained k l p m sk sl sm pl a b h =
      let w = chain-parts v [] k l p sl a b h in
      schemas (schema_of a.property sk w.0) (schema_of b.property sl w.1) (schema_of (place v a b p) sm (chain-kind v [] pl a b w.0 w.1))

  renamed : Levelled (rule 2 5 0 4 3 2 5)
  unfolding fits gives place
  renamed a b h = let w = any-parts v [] a b 2 h in renames w.0 w.1 refl

  retyped : Levelled (rule 1 0 0 5 3 4 2)
  unfolding fits gives place
  retyped a b h = let w = both-parts v [] a b 1 0 a.subject b.object h in retypes w.0 w.1 w.2 refl

  levels : All v [] Levelled rules
  unfolding typing_rule
  levels =
      more (end_typed subjects)
      (more (end_typed objects)
      (more (chained 2 2 1 2 is_subproperty is_subproperty is_subproperty of_first)
      (more renamed
      (more retyped
      (more (chained 1 1 1 1 is_subclass is_subclass is_subclass of_first)
      (more (chained 2 3 4 3 is_subproperty is_domain is_domain of_second)
      (more (chained 2 4 4 4 is_subproperty is_range is_range of_second)
      (more (chained 3 1 1 3 is_domain is_subclass is_domain of_first)
      (more (chained 4 1 1 4 is_range is_subclass is_range of_first) none)))))))))

  level : (r : Rule) → Mem r rules → Levelled r
  level r m = all_in v [] levels r m

  -- the two kinds that chain with themselves
  pub data Chain : ℕ → Type 0 where
    subclasses : Chain 1
    subproperties : Chain 2

  chain_in : {k : ℕ} → Chain k → Mem (rule k k 2 3 0 1 5) rules
  chain_in subclasses = mem_get_d rules (rule 1 1 2 3 0 1 5) 5 (omega arith)
  chain_in subproperties = mem_get_d rules (rule 2 2 2 3 0 1 5) 2 (omega arith)

  chain-schema : {k : ℕ} → Chain k → Schema v [] k
  chain-schema subclasses = is_subclass
  chain-schema subproperties = is_subproperty

  chain-gives : (k : ℕ) (a b : Triple) → gives v (rule k k 2 3 0 1 5) a b ≡ triple a.subject a.property b.object
  unfolding gives place
  chain-gives k a b = refl

  -- what a rule gives that joins two schema triples, of the kinds k and l
  follows : {G : Graph} (k l p : ℕ) → Schema v [] l → Mem (rule k l 2 3 0 p 5) rules → (a b : Triple) → kind v a.property ≡ k → kind v b.property ≡ l
      → a.object ≡ b.subject → Derives v G a → Derives v G b → Derives v G (gives v (rule k l 2 3 0 p 5) a b)
  follows k l p s m a b e f g d d' = by_rule (rule k l 2 3 0 p 5) a b m (chain-whole v [] k l p s a b e f g) refl d d'

  -- a property's constraint is also that of a property below it
  pub inherit : {k : ℕ} {G : Graph} → Types k → (a b : Triple) → kind v a.property ≡ 2 → kind v b.property ≡ k → a.object ≡ b.subject
      → Derives v G a → Derives v G b → Derives v G (triple a.subject b.property b.object)
  unfolding gives place
  inherit subjects a b e f g d d' = follows 2 3 4 is_domain (mem_get_d rules (rule 2 3 2 3 0 4 5) 6 (omega arith)) a b e f g d d'
  inherit objects a b e f g d d' = follows 2 4 4 is_range (mem_get_d rules (rule 2 4 2 3 0 4 5) 7 (omega arith)) a b e f g d d'

  -- a constraint holds with each class above its class too
  pub widen : {k : ℕ} {G : Graph} → Types k → (a b : Triple) → kind v a.property ≡ k → kind v b.property ≡ 1 → a.object ≡ b.subject
      → Derives v G a → Derives v G b → Derives v G (triple a.subject a.property b.object)
  unfolding gives place
  widen subjects a b e f g d d' = follows 3 1 1 is_subclass (mem_get_d rules (rule 3 1 2 3 0 1 5) 8 (omega arith)) a b e f g d d'
  widen objects a b e f g d d' = follows 4 1 1 is_subclass (mem_get_d rules (rule 4 1 2 3 0 1 5) 9 (omega arith)) a b e f g d d'

  type-whole : {k : ℕ} (w : Types k) (a b : Triple) → kind v a.property ≡ k → a.subject ≡ b.property → fits v (typing_rule w) a b ≡ true
  unfolding fits place typing_rule
  type-whole subjects a b e f = and_both (eqb (kind v a.property) 3) _ (eq-eqb _ _ e) (eq-eqb _ _ f)
  type-whole objects a b e f = and_both (eqb (kind v a.property) 4) _ (eq-eqb _ _ e) (eq-eqb _ _ f)

  type-gives : {k : ℕ} (w : Types k) (a b : Triple) → gives v (typing_rule w) a b ≡ triple (typed_end w b) v.instance a.object
  unfolding gives place typing_rule typed_end
  type-gives subjects a b = refl
  type-gives objects a b = refl

  rename_whole : (a b : Triple) → kind v a.property ≡ 2 → a.subject ≡ b.property → fits v (rule 2 5 0 4 3 2 5) a b ≡ true
  unfolding fits place
  rename_whole a b e f = and_both (eqb (kind v a.property) 2) _ (eq-eqb _ _ e) (eq-eqb _ _ f)

  rename_gives : (a b : Triple) → gives v (rule 2 5 0 4 3 2 5) a b ≡ triple b.subject a.object b.object
  unfolding gives place
  rename_gives a b = refl

  retype_whole : (a b : Triple) → kind v a.property ≡ 1 → kind v b.property ≡ 0 → a.subject ≡ b.object → fits v (rule 1 0 0 5 3 4 2) a b ≡ true
  unfolding fits place
  retype_whole a b e f g = and_both (eqb (kind v a.property) 1) _ (eq-eqb _ _ e) (and_both (eqb (kind v b.property) 0) _ (eq-eqb _ _ f) (eq-eqb _ _ g))

  retype_gives : (a b : Triple) → gives v (rule 1 0 0 5 3 4 2) a b ≡ triple b.subject b.property a.object
  unfolding gives place
  retype_gives a b = refl

  -- ── a pass ──
  -- what a pass with some rules leaves: what was there, their conclusions from it, and nothing that is not derived from it
  pub record Passed (rs : List Rule) (X Y : Graph) : Type 0 where
    pub keeps : (t : Triple) → X t → Y t
    pub draws : (r : Rule) → Mem r rs → (a b : Triple) → X a → X b → fits v r a b ≡ true → Y (gives v r a b)
    pub derived : (t : Triple) → Y t → Derives v X t

  -- the schema triples of a graph
  abbrev pub SchemaOf : Graph → Graph
  SchemaOf G t = G t × IsSchema t

  module _ (G : Graph) (free : (t : Triple) → G t → Free t) where
    abbrev pub S : Graph
    S = Derives v (SchemaOf G)

    -- ── no reserved code comes to an end ──
    end-free : {a b : Triple} {n : ℕ} → Free a → Free b → EndOf v [] a b n → 5 ≤ kind v n
    end-free x y (first_subject e) = subst (λ (z : ℕ). 5 ≤ kind v z) (sym e) x.0
    end-free x y (first_object e) = subst (λ (z : ℕ). 5 ≤ kind v z) (sym e) x.1
    end-free x y (second_subject e) = subst (λ (z : ℕ). 5 ≤ kind v z) (sym e) y.0
    end-free x y (second_object e) = subst (λ (z : ℕ). 5 ≤ kind v z) (sym e) y.1

    pub derives_free : {t : Triple} → Derives v G t → Free t
    derives_free (given {t} x) = free t x
    derives_free (by_rule r a b k e g x y) =
        subst Free (sym g) (end-free (derives_free x) (derives_free y) ((laws v [] r k).subject_end a b), end-free (derives_free x) (derives_free y) ((laws v [] r k).object_end a b))

    -- ── schema triples come from schema triples ──
    pub schema_in : {t : Triple} → Derives v G t → IsSchema t → S t
    schema_in (given x) h = given (x, h)
    schema_in {t} (by_rule r a b k e g x y) h = go (level r k a b e) (λ p. schema_in x p) (λ p. schema_in y p) (derives_free x) (subst IsSchema g h)
      where
        go : Level r a b → (IsSchema a → S a) → (IsSchema b → S b) → Free a → IsSchema (gives v r a b) → S t
        go (schemas p q w) i j f s = by_rule r a b k e g (i p) (j q)
        go (renames p q w) i j f s = absurd (omega (arith, f.1, (subst IsSchema w s).1))
        go (types w p q z) i j f s = absurd (omega (arith, kind-type v, (subst IsSchema z s).0))
        go (retypes p q u w) i j f s = absurd (omega (arith, (subst IsSchema w s).0))

    -- ── data triples are given ones, renamed at most once ──
    -- p is q, or a schema triple of the kind k leads from p to q
    pub data Up (k p q : ℕ) : Type 0 where
      stays : p ≡ q → Up k p q
      leads : (a : Triple) → S a → kind v a.property ≡ k → a.subject ≡ p → a.object ≡ q → Up k p q

    pub climb : {k p q : ℕ} → Chain k → Up k p q → (a : Triple) → S a → kind v a.property ≡ k → a.subject ≡ q → Up k p a.object
    climb ch (stays e) a s h f = leads a s h (f ∙ sym e) refl
    climb {k} ch (leads b z i e e') a s h f =
        let c : S (triple b.subject b.property a.object) = subst S (chain-gives k b a) (follows k k 1 (chain-schema ch) (chain_in ch) b a i h (e' ∙ sym f) z s) in
        leads (triple b.subject b.property a.object) c i e refl

    record Renamed (t : Triple) : Type 0 where
      from : Triple
      held : G from
      up : Up 2 from.property t.property
      is : t ≡ triple from.subject t.property from.object

    data_in : {t : Triple} → Derives v G t → 5 ≤ kind v t.property → Renamed t
    data_in (given {t} x) h = record { from = t; held = x; up = stays refl; is = refl }
    data_in {t} (by_rule r a b k e g x y) h = go (level r k a b e) (λ p. data_in y p) (derives_free x) (subst (λ (z : Triple). 5 ≤ kind v z.property) g h)
      where
        go : Level r a b → (5 ≤ kind v b.property → Renamed b) → Free a → 5 ≤ kind v (gives v r a b).property → Renamed t
        go (schemas p q w) i f d = absurd (omega (arith, w.1))
        go (types w p q z) i f d = absurd (omega (arith, kind-type v, subst (λ (y : Triple). 5 ≤ kind v y.property) z d))
        go (retypes p q u w) i f d = absurd (omega (arith, subst (λ (z : Triple). 5 ≤ kind v z.property) w d))
        go (renames p q w) i f d =
            let R = i (subst (λ (z : ℕ). 5 ≤ kind v z) q f.0) in
            subst Renamed (sym (g ∙ w))
            (record {
              from = R.from;
              held = R.held;
              up = climb subproperties R.up a (schema_in x (schema_of a.property is_subproperty p)) p q;
              is = λ n. triple (R.is n).subject a.object (R.is n).object;
            })

    -- ── type triples are given ones, retyped at most once, or typed ends of given data triples ──
    record Retyped (t : Triple) : Type 0 where
      from : Triple
      held : G from
      type : kind v from.property ≡ 0
      up : Up 1 from.object t.object
      is : t ≡ triple from.subject from.property t.object

    record Typed (t : Triple) : Type 0 where
      kind_of : ℕ
      types_end : Types kind_of
      first : Triple
      second : Triple
      first_in : S first
      first_kind : kind v first.property ≡ kind_of
      second_in : G second
      meets : first.subject ≡ second.property
      is : t ≡ triple (typed_end types_end second) v.instance first.object

    -- the constraint of a property at or above that of a given triple is a constraint of the given triple's own property
    typed_below : {k : ℕ} {b t : Triple} (w : Types k) (a : Triple) → S a → kind v a.property ≡ k → a.subject ≡ b.property
        → t ≡ triple (typed_end w b) v.instance a.object → Renamed b → Typed t
    typed_below {k} {b} {t} w a s e f g R = go R.up
      where
        is_typed : t ≡ triple (typed_end w R.from) v.instance a.object
        is_typed = g ∙ (λ i. triple (same_end w b R.from b.property R.is i) v.instance a.object)

        go : Up 2 R.from.property b.property → Typed t
        go (stays q) = record { kind_of = k; types_end = w; first = a; second = R.from; first_in = s; first_kind = e; second_in = R.held; meets = f ∙ sym q; is = is_typed }
        go (leads c z h q q') =
            record {
              kind_of = k;
              types_end = w;
              first = triple c.subject a.property a.object;
              second = R.from;
              first_in = inherit w c a h e (q' ∙ sym f) z s;
              first_kind = e;
              second_in = R.held;
              meets = q;
              is = is_typed;
            }

    -- and so is one with a class above
    retyped_typed : {b t : Triple} (a : Triple) → S a → kind v a.property ≡ 1 → a.subject ≡ b.object → t ≡ triple b.subject b.property a.object → Typed b → Typed t
    retyped_typed a s e f g T =
        record {
          kind_of = T.kind_of;
          types_end = T.types_end;
          first = triple T.first.subject T.first.property a.object;
          second = T.second;
          first_in = widen T.types_end T.first a T.first_kind e (sym (f ∙ ap (λ (z : Triple). z.object) T.is)) T.first_in s;
          first_kind = T.first_kind;
          second_in = T.second_in;
          meets = T.meets;
          is = g ∙ (λ i. triple (T.is i).subject (T.is i).property a.object);
        }

    type_in : {t : Triple} → Derives v G t → kind v t.property ≡ 0 → Retyped t ⊎ Typed t
    type_in (given {t} x) h = inl (record { from = t; held = x; type = h; up = stays refl; is = refl })
    type_in {t} (by_rule r a b k e g x y) h = go (level r k a b e) (λ p. type_in y p) (derives_free x) (subst (λ (z : Triple). kind v z.property ≡ 0) g h)
      where
        go : Level r a b → (kind v b.property ≡ 0 → Retyped b ⊎ Typed b) → Free a → kind v (gives v r a b).property ≡ 0 → Retyped t ⊎ Typed t
        go (schemas p q w) i f d = absurd (omega (arith, w.0))
        go (renames p q w) i f d = absurd (omega (arith, f.1, subst (λ (z : Triple). kind v z.property ≡ 0) w d))
        go (types w p q z) i f d = inr (typed_below w a (schema_in x (types-schema w a.property p)) p q (g ∙ z) (data_in y (subst (λ (c : ℕ). 5 ≤ kind v c) q f.0)))
        go (retypes p q u w) i f d =
            let s : S a = schema_in x (schema_of a.property is_subclass p) in
            ⊎_elim
            (λ R. inl (subst Retyped (sym (g ∙ w))
            (record { from = R.from; held = R.held; type = R.type; up = climb subclasses R.up a s p u; is = λ n. triple (R.is n).subject (R.is n).property a.object })))
            (λ T. inr (retyped_typed a s p u (g ∙ w) T)) (i q)

    -- ── the strata ──
    module _ (X₀ X₁ X₂ X₃ : Graph) (schema : (t : Triple) → S t → X₀ t) (rest : (t : Triple) → G t → X₀ t) (inside : (t : Triple) → X₀ t → Derives v G t)
        (P₁ : Passed retyping X₀ X₁) (P₂ : Passed typing X₁ X₂) (P₃ : Passed renaming X₂ X₃) where
      second_stratum : (t : Triple) → X₀ t → X₂ t
      second_stratum t x = P₂.keeps t (P₁.keeps t x)

      has-retyped : {t : Triple} → Retyped t → X₁ t
      has-retyped {t} R = go R.up
        where
          go : Up 1 R.from.object t.object → X₁ t
          go (stays e) = subst X₁ (sym (R.is ∙ (λ i. triple R.from.subject R.from.property (sym e i)))) (P₁.keeps R.from (rest R.from R.held))
          go (leads a s h e f) =
              subst X₁ (retype_gives a R.from ∙ (λ i. triple R.from.subject R.from.property (f i)) ∙ sym R.is)
              (P₁.draws _ (here refl) a R.from (schema a s) (rest R.from R.held) (retype_whole a R.from h R.type e))

      has_typed : {t : Triple} → Typed t → X₂ t
      has_typed T =
          subst X₂ (type-gives T.types_end T.first T.second ∙ sym T.is)
          (P₂.draws _ (in_typing T.types_end) T.first T.second (P₁.keeps T.first (schema T.first T.first_in))
          (P₁.keeps T.second (rest T.second T.second_in)) (type-whole T.types_end T.first T.second T.first_kind T.meets))

      has_data : {t : Triple} → Renamed t → X₃ t
      has_data {t} R = go R.up
        where
          go : Up 2 R.from.property t.property → X₃ t
          go (stays e) = subst X₃ (sym (R.is ∙ (λ i. triple R.from.subject (sym e i) R.from.object))) (P₃.keeps R.from (second_stratum R.from (rest R.from R.held)))
          go (leads a s h e f) =
              subst X₃ (rename_gives a R.from ∙ (λ i. triple R.from.subject (f i) R.from.object) ∙ sym R.is)
              (P₃.draws _ (here refl) a R.from (second_stratum a (schema a s)) (second_stratum R.from (rest R.from R.held)) (rename_whole a R.from h e))

      complete : (t : Triple) → Derives v G t → X₃ t
      complete t d = go (kind v t.property) refl
        where
          go : (k : ℕ) → kind v t.property ≡ k → X₃ t
          go zero e = ⊎_elim (λ R. P₃.keeps t (P₂.keeps t (has-retyped R))) (λ T. P₃.keeps t (has_typed T)) (type_in d e)
          go (suc k) e =
              ⊎_elim (λ l. P₃.keeps t (second_stratum t (schema t (schema_in d (omega arith, omega (arith, ltb-true (suc k) 5 l))))))
              (λ l. has_data (data_in d (omega (arith, ltb-false (suc k) 5 l)))) (bool_cases (ltb (suc k) 5))

      sound : (t : Triple) → X₃ t → Derives v G t
      sound t x = derives_cut v (λ u y. derives_cut v (λ w z. derives_cut v inside (P₁.derived w z)) (P₂.derived u y)) (P₃.derived t x)

      -- the last stratum holds exactly what the rules derive
      pub strata : (t : Triple) → X₃ t ↔ Derives v G t
      strata t = (sound t, complete t)
