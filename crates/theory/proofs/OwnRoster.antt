-- The own roster covers its table and is the smallest that does.
-- Assumes nothing.
use Prim.Native.Nat.{ℕ, zero, suc, ◌≤◌, ◌<◌, ◌+◌}
use mathlib.Core.Path.{◌≡◌, refl, sym, subst, ◌∙◌, ap}
use mathlib.Core.Logic.{⊎_elim}
use mathlib.Core.Bool.{Bool, true, false, cond, not}
use mathlib.Core.List.Memᴰ.{head as here}
use mathlib.Core.List.Memᴰ.{not-nil as no-mem}
use mathlib.Core.List.Memᴰ.{tail as there}
use mathlib.Core.List.{List, Memᴰ as Mem}
use native.Mathlib.Omega.{arith}
use lib.Dec.{eqb, leb, ltb}
use lib.ListN.{length}
use borrow.Author.Tests.{eq-eqb, eqb-false, leb-true, leb-false}
use Rattle.model.specs.declared.Triple.{Triple}
use Rattle.model.specs.declared.Vocabulary.{Vocabulary}
use Rattle.model.specs.Codes.{codes, kind}
use Rattle.model.specs.Lists.{any, all, among}
use Rattle.model.specs.Roster.{mark, is_class, is_property, unmarked, class_row, property_row, class_roles, property_roles, covers_triple, covers, class_in, property_in, own_roster, wrong_roster}
use Rattle.theory.proofs.Tests.{and_true, and_both, or_neither, bool_cases}
use Rattle.theory.proofs.Lists.{any_found, any-holds, none_any, all-at, at_all, among-mem, mem-among, tabulate-at, tabulate-out, tabulate-mem, length-tabulate}
use Rattle.theory.specs.Tables.{AllBelow}
use Rattle.theory.proofs.Covered.{one_of, two_of, Codes}

bits-class : (a b : Bool) → is_class (cond a 1 0 + cond b 2 0) ≡ a
unfolding is_class
bits-class true true = refl
bits-class true false = refl
bits-class false true = refl
bits-class false false = refl

bits-property : (a b : Bool) → is_property (cond a 1 0 + cond b 2 0) ≡ b
unfolding is_property
bits-property true true = refl
bits-property true false = refl
bits-property false true = refl
bits-property false false = refl

bits-low : (a b : Bool) → ltb 3 (cond a 1 0 + cond b 2 0) ≡ false
bits-low true true = refl
bits-low true false = refl
bits-low false true = refl
bits-low false false = refl

-- the codes of a triple that can stand in a role: its property only where it is a data triple
pub data Role (v : Vocabulary) (t : Triple) (c : ℕ) : Type 0 where
  as_subject : c ≡ t.subject → Role v t c
  as_object : c ≡ t.object → Role v t c
  as_property : 5 ≤ kind v t.property → c ≡ t.property → Role v t c

module _ (v : Vocabulary) where
  pub class_role : (t : Triple) (c : ℕ) → Mem c (class_roles v t) → Role v t c
  unfolding class_roles
  class_role t c m = go (kind v t.property) m
    where
      go : (k : ℕ) → Mem c (class_row t k) → Role v t c
      go zero m = one_of (λ e. as_object e) m
      go (suc zero) m = two_of (λ e. as_subject e) (λ e. as_object e) m
      go (suc (suc zero)) m = absurd (no-mem m)
      go (suc (suc (suc zero))) m = one_of (λ e. as_object e) m
      go (suc (suc (suc (suc zero)))) m = one_of (λ e. as_object e) m
      go (suc (suc (suc (suc (suc k))))) m = absurd (no-mem m)

  pub property_role : (t : Triple) (c : ℕ) → Mem c (property_roles v t) → Role v t c
  unfolding property_roles
  property_role t c m = go (kind v t.property) refl m
    where
      go : (k : ℕ) → kind v t.property ≡ k → Mem c (property_row t k) → Role v t c
      go zero e m = absurd (no-mem m)
      go (suc zero) e m = absurd (no-mem m)
      go (suc (suc zero)) e m = two_of (λ q. as_subject q) (λ q. as_object q) m
      go (suc (suc (suc zero))) e m = one_of (λ q. as_subject q) m
      go (suc (suc (suc (suc zero)))) e m = one_of (λ q. as_subject q) m
      go (suc (suc (suc (suc (suc k))))) e m = one_of (λ q. as_property (omega (arith, e)) q) m

  role_below : (n c : ℕ) (ts : List Triple) → AllBelow n ts → (t : Triple) → Mem t ts → Role v t c → c < n
  role_below n c ts b t m (as_subject e) = omega (arith, (b t m).subject)
  role_below n c ts b t m (as_object e) = omega (arith, (b t m).object)
  role_below n c ts b t m (as_property h e) = omega (arith, (b t m).property)

  module _ (n : ℕ) (ts : List Triple) where
    own_at : (c : ℕ) → c < n → mark (own_roster v n ts) c ≡ cond (class_in v ts c) 1 0 + cond (property_in v ts c) 2 0
    unfolding own_roster
    own_at c l =
        tabulate-at (λ c. cond (class_in v ts c) 1 0 + cond (property_in v ts c) 2 0) 0 0 n c l
        ∙ ap (λ (z : ℕ). cond (class_in v ts z) 1 0 + cond (property_in v ts z) 2 0) (omega arith)

    pub own-class : (c : ℕ) → c < n → is_class (mark (own_roster v n ts) c) ≡ class_in v ts c
    own-class c l = ap is_class (own_at c l) ∙ bits-class (class_in v ts c) (property_in v ts c)

    pub own-property : (c : ℕ) → c < n → is_property (mark (own_roster v n ts) c) ≡ property_in v ts c
    own-property c l = ap is_property (own_at c l) ∙ bits-property (class_in v ts c) (property_in v ts c)

    pub own-length : length (own_roster v n ts) ≡ n
    unfolding own_roster
    own-length = length-tabulate _ 0 n

    -- it covers the table
    pub own-covers : AllBelow n ts → covers v (own_roster v n ts) ts ≡ true
    unfolding covers covers_triple class_in property_in
    own-covers b =
        at_all (covers_triple v (own_roster v n ts)) ts
        (λ t m. and_both (all (λ c. is_class (mark (own_roster v n ts) c)) (class_roles v t)) _
        (at_all (λ c. is_class (mark (own_roster v n ts) c)) (class_roles v t)
        (λ c k. own-class c (role_below n c ts b t m (class_role t c k)) ∙ any-holds (λ t. among c (class_roles v t)) ts t m (mem-among c (class_roles v t) k)))
        (at_all (λ c. is_property (mark (own_roster v n ts) c)) (property_roles v t)
        (λ c k. own-property c (role_below n c ts b t m (property_role t c k)) ∙ any-holds (λ t. among c (property_roles v t)) ts t m (mem-among c (property_roles v t) k))))

    -- no roster that covers the table marks less
    pub own-least : (roster : List ℕ) → covers v roster ts ≡ true → (c : ℕ) → c < n
        → (is_class (mark (own_roster v n ts) c) ≡ true → is_class (mark roster c) ≡ true) × (is_property (mark (own_roster v n ts) c) ≡ true → is_property (mark roster c) ≡ true)
    unfolding covers covers_triple class_in property_in
    own-least roster h c l = (
      λ e.
          let x = any_found (λ t. among c (class_roles v t)) ts (sym (own-class c l) ∙ e) in
          let y = and_true (all (λ c. is_class (mark roster c)) (class_roles v x.0)) _ (all-at (covers_triple v roster) ts h x.0 x.1) in
          all-at (λ c. is_class (mark roster c)) (class_roles v x.0) y.0 c (among-mem c (class_roles v x.0) x.2),
      λ e.
          let x = any_found (λ t. among c (property_roles v t)) ts (sym (own-property c l) ∙ e) in
          let y = and_true (all (λ c. is_class (mark roster c)) (class_roles v x.0)) _ (all-at (covers_triple v roster) ts h x.0 x.1) in
          all-at (λ c. is_property (mark roster c)) (property_roles v x.0) y.1 c (among-mem c (property_roles v x.0) x.2),
    )

  -- ── it passes check 2 ──
  word-kind : (c : ℕ) → Mem c (codes v) → kind v c < 5
  unfolding kind
  word-kind c m = go (eqb c v.instance) refl (eqb c v.subclass) refl (eqb c v.subproperty) refl (eqb c v.domain) refl (eqb c v.range) refl
    where
      go : (a : Bool) → eqb c v.instance ≡ a → (b : Bool) → eqb c v.subclass ≡ b → (d : Bool) → eqb c v.subproperty ≡ d → (e : Bool)
          → eqb c v.domain ≡ e → (f : Bool) → eqb c v.range ≡ f
          → cond a 0 (cond b 1 (cond d 2 (cond e 3 (cond f 4 5)))) < 5
      go true q b q₁ d q₂ e q₃ f q₄ = omega arith
      go false q true q₁ d q₂ e q₃ f q₄ = omega arith
      go false q false q₁ true q₂ e q₃ f q₄ = omega arith
      go false q false q₁ false q₂ true q₃ f q₄ = omega arith
      go false q false q₁ false q₂ false q₃ true q₄ = omega arith
      go false q false q₁ false q₂ false q₃ false q₄ = absurd (none m)
        where
          none : Mem c (codes v) → ⊥
          none (here w) = eqb-false _ _ q w
          none (there (here w)) = eqb-false _ _ q₁ w
          none (there (there (here w))) = eqb-false _ _ q₂ w
          none (there (there (there (here w)))) = eqb-false _ _ q₃ w
          none (there (there (there (there (here w))))) = eqb-false _ _ q₄ w
          none (there (there (there (there (there w))))) = no-mem w

  role_free : (n c : ℕ) (ts : List Triple) → ((t : Triple) → Mem t ts → Codes v n t) → (t : Triple) → Mem t ts → Role v t c → 5 ≤ kind v c
  role_free n c ts h t m (as_subject e) = subst (λ (z : ℕ). 5 ≤ kind v z) (sym e) (h t m).subject_free
  role_free n c ts h t m (as_object e) = subst (λ (z : ℕ). 5 ≤ kind v z) (sym e) (h t m).object_free
  role_free n c ts h t m (as_property k e) = subst (λ (z : ℕ). 5 ≤ kind v z) (sym e) k

  pub own-right : (n : ℕ) (ts : List Triple) → ((t : Triple) → Mem t ts → Codes v n t) → wrong_roster v (own_roster v n ts) ≡ false
  unfolding wrong_roster own_roster unmarked class_in property_in
  own-right n ts h =
      or_neither (any (λ m. ltb 3 m) (own_roster v n ts)) _
      (none_any (λ m. ltb 3 m) (own_roster v n ts)
      (λ x m. let w = tabulate-mem (λ c. cond (class_in v ts c) 1 0 + cond (property_in v ts c) 2 0) 0 n m in ap (ltb 3) w.3 ∙ bits-low (class_in v ts w.0) (property_in v ts w.0)))
      (none_any (λ c. not (unmarked (own_roster v n ts) c)) (codes v) (λ c m. ap not (eq-eqb _ _ (bare c (word-kind c m)))))
    where
      no-class : (c : ℕ) → kind v c < 5 → class_in v ts c ≡ false
      no-class c l = none_any (λ t. among c (class_roles v t)) ts
          (λ t m. ⊎_elim (λ e. absurd (omega (arith, role_free n c ts h t m (class_role t c (among-mem c _ e))))) (λ e. e) (bool_cases (among c (class_roles v t))))

      no-property : (c : ℕ) → kind v c < 5 → property_in v ts c ≡ false
      no-property c l = none_any (λ t. among c (property_roles v t)) ts
          (λ t m. ⊎_elim (λ e. absurd (omega (arith, role_free n c ts h t m (property_role t c (among-mem c _ e))))) (λ e. e) (bool_cases (among c (property_roles v t))))

      bare : (c : ℕ) → kind v c < 5 → mark (own_roster v n ts) c ≡ 0
      bare c l =
          ⊎_elim (λ (e : leb n c ≡ true). tabulate-out (λ c. cond (class_in v ts c) 1 0 + cond (property_in v ts c) 2 0) 0 0 n c (leb-true _ _ e))
          (λ (e : leb n c ≡ false). own_at n ts c (leb-false _ _ e) ∙ (λ i. cond (no-class c l i) 1 0 + cond (no-property c l i) 2 0)) (bool_cases (leb n c))
