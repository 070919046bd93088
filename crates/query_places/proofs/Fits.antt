-- The first place whose triple may fit a pattern.
-- Assumes nothing.
use Rattle.std.specs.Prelude.{Option, Some, None}
use Prim.Native.Nat.{ℕ, ◌+◌, ◌<◌, ◌≤◌}
use native.Mathlib.Omega.{arith}
use mathlib.Core.Path.{◌≡◌, refl, sym, ap, ◌∙◌, subst}
use mathlib.Core.Bool.{Bool, true, false, cond, true≢false}
use mathlib.Core.Logic.{◌⊎◌, inl, inr, ⊎_elim}
use mathlib.Core.List.{List}
use lib.Dec.{eqb}
use lib.ListN.{get_or, set}
use borrow.Author.Tests.{eqb-true, eqb-false, eq-eqb, ne_eqb}
use Rattle.model.specs.declared.Triple.{Triple}
use Rattle.model.specs.Codes.{absent}
use Rattle.model.specs.Lists.{First}
use Rattle.model.specs.Triples.{triple, same}
use Rattle.theory.proofs.Tests.{and_left, and_right, and_true, and_both, bool_cases, not_true_false}
use Rattle.theory.proofs.Order.{triple-eq, same-eq, same_refl}
use Rattle.lists.specs.Flat.{RisingPart, Bound}
use Rattle.lists.proofs.Compare.{Cmp, lt, eq, gt, cmp}
use Rattle.lists.proofs.Search.{at_bound}
use Rattle.lists.proofs.Fronts.{front_not_before, front-later}
use Rattle.query.specs.declared.End.{End}
use Rattle.query.specs.declared.End.TheVariants.{Var, Code}
use Rattle.query.specs.declared.Pattern.{Pattern}
use Rattle.query.specs.Ask.{fit, fit_end, fit_triple}
use Rattle.query_places.specs.Places.{with_property, FirstOf, FirstSame, FirstFit, front, wanted_of}

-- ── the node that an end must have ──
-- what an end fits is what it wants
met : Option ℕ → ℕ → Bool
met None y = true
met (Some x) y = eqb x y

fits-met : (map : List ℕ) (e : End) (b : List ℕ) (y : ℕ) → (fit_end map e y b).fits ≡ met (wanted_of map e b) y
unfolding wanted_of fit_end met
fits-met map (Var v) b y = ⊎_elim (λ z. rw z) (λ z. rw z) (bool_cases (eqb (get_or b v 0) absent))
fits-met map (Code c) b y = refl

-- an end that must have a node fits no other
wanted_only : (map : List ℕ) (e : End) (b : List ℕ) (x y : ℕ) → Some x ≡ wanted_of map e b → (y ≡ x → ⊥) → (fit_end map e y b).fits ≡ false
unfolding met
wanted_only map e b x y h n = fits-met map e b y ∙ ap (λ (w : Option ℕ). met w y) (sym h) ∙ ne_eqb x y (λ q. n (sym q))

wanted_node : (map : List ℕ) (e : End) (b : List ℕ) (x y : ℕ) → Some x ≡ wanted_of map e b → (fit_end map e y b).fits ≡ true → y ≡ x
unfolding met
wanted_node map e b x y h z = sym (eqb-true x y (sym (fits-met map e b y ∙ ap (λ (w : Option ℕ). met w y) (sym h)) ∙ z))

not_any : (x : ℕ) → Some x ≡ None → ⊥
unfolding met
not_any x h = true≢false (sym (sym (ne_eqb x (x + 1) (λ e. omega arith)) ∙ ap (λ (w : Option ℕ). met w (x + 1)) h))

-- ── the front ──
front-has : (t : Triple) (s p : ℕ) → front s p t ≡ true → (t.subject ≡ s) × (t.property ≡ p)
unfolding front
front-has t s p h = let z = and_true (eqb t.subject s) _ h in (eqb-true _ _ z.0, eqb-true _ _ z.1)

front-is : (t : Triple) (s p : ℕ) → t.subject ≡ s → t.property ≡ p → front s p t ≡ true
unfolding front
front-is t s p e q = and_both (eqb t.subject s) _ (eq-eqb _ _ e) (eq-eqb _ _ q)

module _ (f : ℕ → Triple) (s p a b i : ℕ) (w : Bound f a b (triple s p 0) i) where
  pub first-here : {r : Bool} → r ≡ front s p (f i) → r ≡ true → FirstOf f s p a b i
  first-here e h =
      record {
        low = w.low;
        high = w.high;
        others = λ j x y. front_not_before (f j) s p (w.below j x y);
        has = λ z. (front-has (f i) s p (sym e ∙ h)).1;
      }

  ends : ((j : ℕ) → i ≤ j → j < b → (f j).subject ≡ s → (f j).property ≡ p → ⊥) → FirstOf f s p a b b
  ends none =
      record {
        low = omega (arith, w.low, w.high);
        high = omega arith;
        others = λ j x y. go j x y (cmp j i);
        has = λ z. absurd (omega arith);
      }
    where
      go : (j : ℕ) → a ≤ j → j < b → Cmp j i → (f j).subject ≡ s → (f j).property ≡ p → ⊥
      go j x y (lt z) = front_not_before (f j) s p (w.below j x z)
      go j x y (eq z) = none j (omega arith) y
      go j x y (gt z) = none j (omega arith) y

  pub first_past : b ≤ i → FirstOf f s p a b b
  first_past h = ends (λ j x y. absurd (omega arith))

  pub first-other : RisingPart f a b → i < b → {r : Bool} → r ≡ front s p (f i) → r ≡ false → FirstOf f s p a b b
  first-other R h e n = ends (λ j x y. go j x y (cmp i j))
    where
      off : (f i).subject ≡ s → (f i).property ≡ p → ⊥
      off u v = true≢false (sym (front-is (f i) s p u v) ∙ sym e ∙ n)

      go : (j : ℕ) → i ≤ j → j < b → Cmp i j → (f j).subject ≡ s → (f j).property ≡ p → ⊥
      go j x y (lt z) = front-later (f i) (f j) s p (w.above i (omega arith) h) off (R i j w.low z y)
      go j x y (eq z) = subst (λ (k : ℕ). (f k).subject ≡ s → (f k).property ≡ p → ⊥) z off
      go j x y (gt z) = absurd (omega arith)

-- ── the whole triple ──
module _ (f : ℕ → Triple) (t : Triple) (a b i : ℕ) (R : RisingPart f a b) (w : Bound f a b t i) where
  nowhere : ((j : ℕ) → a ≤ j → j < b → t ≡ f j → ⊥) → FirstSame f t a b b
  nowhere none = record { low = omega (arith, w.low, w.high); high = omega arith; others = none; has = λ z. absurd (omega arith) }

  pub same-past : b ≤ i → FirstSame f t a b b
  same-past h = nowhere (λ j x y e. let z : j ≡ i = at_bound f a b t i R w j x y e in omega arith)

  pub same-other : same t (f i) ≡ false → FirstSame f t a b b
  same-other n = nowhere (λ j x y e.
      true≢false (sym (same_refl t (f i) (subst (λ (k : ℕ). t ≡ f k) (at_bound f a b t i R w j x y e) e)) ∙ n))

-- ── what does not fit ──
module _ (f : ℕ → Triple) (map : List ℕ) (p : Pattern) (bindings : List ℕ) (a b r : ℕ) where
  other-property : (t : Triple) → (t.property ≡ p.property → ⊥) → (fit_triple map p t bindings).fits ≡ false
  unfolding fit_triple
  other-property t n = rw (ne_eqb _ _ n)

  other-node : (x : ℕ) → Some x ≡ wanted_of map p.subject bindings → (t : Triple) → (t.subject ≡ x → t.property ≡ p.property → ⊥) → (fit_triple map p t bindings).fits ≡ false
  unfolding fit_triple
  other-node x h t n = go (bool_cases (eqb t.property p.property))
    where
      go : (eqb t.property p.property ≡ true) ⊎ (eqb t.property p.property ≡ false) → (fit_triple map p t bindings).fits ≡ false
      go (inl e) = rw (e, wanted_only map p.subject bindings x t.subject h (λ q. n q (eqb-true _ _ e)))
      go (inr e) = rw e

  pub fit_with : First (with_property f p.property) a b r → FirstFit f map p bindings a b r
  unfolding with_property
  fit_with w = record {
    low = w.low;
    high = w.high;
    others = λ i x y. other-property (f i) (eqb-false _ _ (w.others i x y));
    has = λ l. eqb-true _ _ (w.holds l);
  }

  pub fit_of : (x : ℕ) → Some x ≡ wanted_of map p.subject bindings → FirstOf f x p.property a b r → FirstFit f map p bindings a b r
  fit_of x h w = record { low = w.low; high = w.high; others = λ i y z. other-node x h (f i) (w.others i y z); has = w.has }

  -- an end that must have a node leaves the bindings as they are
  bindings_kept : (e : End) (x y : ℕ) → Some x ≡ wanted_of map e bindings → (fit_end map e y bindings).bindings ≡ bindings
  unfolding fit_end wanted_of
  bindings_kept (Code c) x y h = refl
  bindings_kept (Var v) x y h = go (eqb (get_or bindings v 0) absent) h
    where
      go : (t : Bool) → Some x ≡ cond t None (Some (get_or bindings v 0))
          → (cond t (fit true (set bindings v y)) (fit (eqb (get_or bindings v 0) y) bindings)).bindings ≡ bindings
      go true h = absurd (not_any x h)
      go false h = refl

  other-object : (x y : ℕ) → Some x ≡ wanted_of map p.subject bindings → Some y ≡ wanted_of map p.object bindings
      → (t : Triple) → (triple x p.property y ≡ t → ⊥) → (fit_triple map p t bindings).fits ≡ false
  unfolding fit_triple
  other-object x y h g t n = not_true_false _ (λ z.
      let s : t.subject ≡ x = wanted_node map p.subject bindings x t.subject h (and_left _ _ (and_right (eqb t.property p.property) _ z)) in
      let o : t.object ≡ y = wanted_node map p.object bindings y t.object g
      (ap (λ (b : List ℕ). (fit_end map p.object t.object b).fits) (sym (bindings_kept p.subject x t.subject h))
      ∙ and_right (fit_end map p.subject t.subject bindings).fits _ (and_right (eqb t.property p.property) _ z)) in
      n (triple-eq (sym s) (sym (eqb-true _ _ (and_left _ _ z))) (sym o)))

  pub fit-both : (x y : ℕ) → Some x ≡ wanted_of map p.subject bindings → Some y ≡ wanted_of map p.object bindings
      → FirstSame f (triple x p.property y) a b r → FirstFit f map p bindings a b r
  fit-both x y h g w = record {
    low = w.low;
    high = w.high;
    others = λ i l m. other-object x y h g (f i) (w.others i l m);
    has = λ l. ap (λ (t : Triple). t.property) (sym (w.has l));
  }
