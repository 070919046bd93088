-- Domains and ranges that follow from others: which triples of a graph they come from. And a summary keeps schema triples as they are.
-- Assumes nothing.
use Prim.Native.Nat.{ℕ, ◌≤◌, ◌<◌}
use mathlib.Core.Path.{◌≡◌, refl, sym, subst, ◌∙◌, ap}
use mathlib.Core.Logic.{◌⊎◌, inl, inr, ◌↔◌}
use mathlib.Core.Bool.{true}
use mathlib.Core.List.{List, [], Memᴰ as Mem}
use native.Mathlib.Omega.{arith}
use Rattle.model.specs.Rules.{Rule}
use Rattle.model.specs.declared.Triple.{Triple}
use Rattle.model.specs.declared.Vocabulary.{Vocabulary}
use Rattle.model.specs.Codes.{kind, code_of}
use Rattle.model.specs.Triples.{triple}
use Rattle.model.specs.Rules.{rule, rules, place, fits, gives, Derives, given, by_rule}
use Rattle.model.specs.Partition.{label}
use Rattle.model.specs.Cliques.{Graph, Node}
use Rattle.model.specs.Classes.{map_of}
use Rattle.model.specs.Summary.{moved, summary}
use Rattle.theory.proofs.Covered.{code_of_kind, kind-type, Marked}
use Rattle.theory.proofs.RuleLaws.{Schema, is_subclass, is_subproperty, is_domain, is_range, both-parts, chain-parts, All, none, more, all_in}
use Rattle.theory.specs.Tables.{In, Right}
use Rattle.theory.proofs.Saturated.{derives_map}
use Rattle.theory.proofs.Strata.{Types, subjects, objects, Free, subclasses, subproperties, S, derives_free, schema_in, Up, stays, leads, climb}
use Rattle.theory.proofs.Images.{still, unmoved}
use Rattle.theory.proofs.Mapped.{map-reps}
use Rattle.theory.proofs.Summaries.{condensed-exact}
use Rattle.theory.proofs.Accepted.{room, below, covered}

module _ (v : Vocabulary) where
  -- ── the rules that give a domain or range triple ──
  abbrev IsConstraint : ℕ → Type 0
  IsConstraint p = (3 ≤ kind v p) × (kind v p ≤ 4)

  constraint : {k : ℕ} → Types k → (p : ℕ) → kind v p ≡ k → IsConstraint p
  constraint subjects p e = (omega (arith, e), omega (arith, e))
  constraint objects p e = (omega (arith, e), omega (arith, e))

  -- t is b's constraint at the property below, or a's constraint with the class above
  data Joined (a b t : Triple) : Type 0 where
    inherited : kind v a.property ≡ 2 → a.object ≡ b.subject → t ≡ triple a.subject b.property b.object → Joined a b t
    widened : kind v b.property ≡ 1 → a.object ≡ b.subject → t ≡ triple a.subject a.property b.object → Joined a b t

  abbrev Joins : Rule → Type 0
  Joins r = (a b : Triple) → fits v r a b ≡ true → Free v a → IsConstraint (gives v r a b).property → Joined a b (gives v r a b)

  types : (k e : ℕ) → Joins (rule k 5 0 4 e 6 2)
  unfolding gives place
  types k e a b h f c = absurd (omega (arith, kind-type v, c.0))

  renames : Joins (rule 2 5 0 4 3 2 5)
  unfolding gives place
  renames a b h f c = absurd (omega (arith, f.1, c.1))

  retypes : Joins (rule 1 0 0 5 3 4 2)
  unfolding fits gives place
  retypes a b h f c = absurd (omega (arith, (both-parts v [] a b 1 0 a.subject b.object h).1, c.0))

  chains : (k : ℕ) → k ≤ 2 → Schema v [] k → Joins (rule k k 2 3 0 1 5)
  unfolding gives place
  chains k u s a b h f c = absurd (omega (arith, (chain-parts v [] k k 1 s a b h).0, c.0))

  inherits : (k : ℕ) → Schema v [] k → Joins (rule 2 k 2 3 0 4 5)
  unfolding gives place
  inherits k s a b h f c = let w = chain-parts v [] 2 k 4 s a b h in inherited w.0 w.2 refl

  widens : (k : ℕ) → Joins (rule k 1 2 3 0 1 5)
  unfolding gives place
  widens k a b h f c = let w = chain-parts v [] k 1 1 is_subclass a b h in widened w.1 w.2 refl

  all_join : All v [] Joins rules
  all_join =
      more (types 3 3)
      (more (types 4 5)
      (more (chains 2 (omega arith) is_subproperty)
      (more renames
      (more retypes
      (more (chains 1 (omega arith) is_subclass)
      (more (inherits 3 is_domain)
      (more (inherits 4 is_range)
      (more (widens 3)
      (more (widens 4) none)))))))))

  -- ── where a constraint comes from ──
  module _ (G : Graph) (free : (t : Triple) → G t → Free v t) where
    -- a triple of the graph, at the property or one above it, with the class or one below it
    record From (t : Triple) : Type 0 where
      from : Triple
      held : G from
      property : t.property ≡ from.property
      above : Up v G free 2 t.subject from.subject
      below : Up v G free 1 from.object t.object

    descend : {p q : ℕ} (a : Triple) → S v G free a → kind v a.property ≡ 2 → a.object ≡ p → Up v G free 2 p q → Up v G free 2 a.subject q
    descend a s h e (stays f) = leads a s h refl (e ∙ f)
    descend a s h e (leads b z i j l) = subst (Up v G free 2 a.subject) l (climb v G free subproperties (leads a s h refl e) b z i j)

    traced : {t : Triple} → Derives v G t → IsConstraint t.property → From t
    traced (given {t} x) c = record { from = t; held = x; property = refl; above = stays refl; below = stays refl }
    traced {t} (by_rule r a b k e g x y) c =
        go (λ p. traced x p) (λ p. traced y p) (all_in v [] all_join r k a b e (derives_free v G free x) (subst IsConstraint (ap (λ (z : Triple). z.property) g) c))
      where
        go : (IsConstraint a.property → From a) → (IsConstraint b.property → From b) → Joined a b (gives v r a b) → From t
        go i j (inherited p q w) =
            let F = j (subst IsConstraint (ap (λ (z : Triple). z.property) (g ∙ w)) c) in
            subst From (sym (g ∙ w))
            (record {
              from = F.from;
              held = F.held;
              property = F.property;
              above = descend a (schema_in v G free x (omega (arith, p), omega (arith, p))) p q F.above;
              below = F.below;
            })
        go i j (widened p q w) =
            let F = i (subst IsConstraint (ap (λ (z : Triple). z.property) (g ∙ w)) c) in
            subst From (sym (g ∙ w))
            (record {
              from = F.from;
              held = F.held;
              property = F.property;
              above = F.above;
              below = climb v G free subclasses F.below b (schema_in v G free y (omega (arith, p), omega (arith, p))) p (sym q);
            })

    reached : (k : ℕ) → k < 5 → {p q : ℕ} → Up v G free k p q → (p ≡ q) ⊎ Derives v G (triple p (code_of v k) q)
    reached k l (stays e) = inl e
    reached k l (leads a s h e f) =
        let w : a.property ≡ code_of v k = code_of_kind v a.property k h l in
        inr (subst (Derives v G) (λ i. triple (e i) (w i) (f i)) (derives_map v (λ t x. x.0) s))

    pub record Origin (p a d : ℕ) : Type 0 where
      pub property : ℕ
      pub class : ℕ
      pub held : G (triple property p class)
      pub above : (a ≡ property) ⊎ Derives v G (triple a v.subproperty property)
      pub below : (class ≡ d) ⊎ Derives v G (triple class v.subclass d)

    pub origin_of : {k : ℕ} → Types k → (p a d : ℕ) → kind v p ≡ k → Derives v G (triple a p d) → Origin p a d
    unfolding code_of
    origin_of w p a d e x =
        let F = traced x (constraint w p e) in
        record {
          property = F.from.subject;
          class = F.from.object;
          held = subst G (λ i. triple F.from.subject (sym F.property i) F.from.object) F.held;
          above = reached 2 (omega arith) F.above;
          below = reached 1 (omega arith) F.below;
        }

  -- ── a summary keeps schema triples ──
  module _ (roster : List ℕ) (ts : List Triple) (R : Right v roster ts) where
    abbrev f : ℕ → ℕ
    f = label (map_of v roster ts)

    own : (n : ℕ) → Node (In ts) n → Marked roster n → f n ≡ n
    own n x m = (map-reps v roster ts (below v roster ts R) (room v roster ts R)).of_marked n x m

    own-image : (t : Triple) → Mem t ts → 1 ≤ kind v t.property → kind v t.property ≤ 4 → moved f t ≡ t
    own-image t m l h = unmoved v roster (In ts) (covered v roster ts R) f own (still v roster (In ts) (covered v roster ts R) f own (given m) l h)

    pub schema-kept : (t : Triple) → 1 ≤ kind v t.property → kind v t.property ≤ 4 → Mem t (summary v roster ts) ↔ Mem t ts
    schema-kept t l h = (down, up)
      where
        up : Mem t ts → Mem t (summary v roster ts)
        up m = (condensed-exact _ ts t).1 (t, m, sym (own-image t m l h))

        down : Mem t (summary v roster ts) → Mem t ts
        down m =
            let w = (condensed-exact _ ts t).0 m in
            let p : t.property ≡ w.0.property = ap (λ (u : Triple). u.property) w.2 in
            let same : t ≡ w.0 = w.2 ∙ own-image w.0 w.1 (subst (λ (c : ℕ). 1 ≤ kind v c) p l) (subst (λ (c : ℕ). kind v c ≤ 4) p h) in
            subst (λ (u : Triple). Mem u ts) (sym same) w.1
