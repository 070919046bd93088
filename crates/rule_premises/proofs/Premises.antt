-- Premises of a rule: places, kinds, and where a partner stands.
-- Assumes nothing.
use Prim.Native.Nat.{ℕ, zero, suc, ◌<◌, ◌≤◌}
use mathlib.Core.Path.{◌≡◌, refl, sym, ◌∙◌, ap, subst}
use mathlib.Core.Logic.{◌⊎◌, inl, inr, ⊎_elim}
use mathlib.Core.Bool.{Bool, true, false, cond, ◌||◌}
use mathlib.Core.List.{[], Memᴰ as Mem}
use native.Mathlib.Omega.{arith}
use lib.Dec.{eqb}
use borrow.Author.Tests.{eqb-true, eqb-false, eq-eqb, ne_eqb}
use Rattle.model.specs.Rules.{Rule}
use Rattle.model.specs.declared.Triple.{Triple}
use Rattle.model.specs.declared.Vocabulary.{Vocabulary}
use Rattle.model.specs.Codes.{kind, code_of}
use Rattle.model.specs.Triples.{triple}
use Rattle.model.specs.Rules.{rule, rules, place, fits}
use Rattle.theory.proofs.Tests.{and_true, or_true, bool_cases}
use Rattle.theory.proofs.RuleLaws.{All, none, more, all_in}
use Rattle.theory.proofs.Covered.{code_of_kind}
use Rattle.rule_premises.specs.Premises.{drives, partner_key, first_of, second_of}

module _ (v : Vocabulary) where
  -- ── places ──
  module _ (a b : Triple) where
    place_0 : a.subject ≡ place v a b 0
    unfolding place
    place_0 = refl

    place_3 : b.subject ≡ place v a b 3
    unfolding place
    place_3 = refl

  -- ── the partner ──
  module _ (r : Rule) (d t : Triple) where
    key-first : (r.left ≡ 0 → ⊥) → triple (place v d d r.left) (code_of v r.second) 0 ≡ partner_key v r d
    unfolding partner_key
    key-first n = rw (ne_eqb _ _ n)

    order-second : r.left ≡ 0 → (first_of r d t ≡ t) × (second_of r d t ≡ d)
    unfolding first_of second_of
    order-second e = (rw (eq-eqb _ _ e), rw (eq-eqb _ _ e))

    order-first : (r.left ≡ 0 → ⊥) → (first_of r d t ≡ d) × (second_of r d t ≡ t)
    unfolding first_of second_of
    order-first n = (rw (ne_eqb _ _ n), rw (ne_eqb _ _ n))

  -- a rule whose partner's subject is shared: the second premise drives, or the first does
  pub data Shape : Rule → Type 0 where
    second_drives : (f s w x y z : ℕ) → f < 5 → 3 ≤ w → w ≤ 5 → Shape (rule f s 0 w x y z)
    first_drives : (f s l x y z : ℕ) → s < 5 → 1 ≤ l → l ≤ 2 → Shape (rule f s l 3 x y z)

  -- a place of the second premise alone, and of the first alone
  second-place : (a b c : Triple) (w : ℕ) → 3 ≤ w → w ≤ 5 → place v a b w ≡ place v c b w
  unfolding place
  second-place a b c zero l u = absurd (omega arith)
  second-place a b c (suc zero) l u = absurd (omega arith)
  second-place a b c (suc (suc zero)) l u = absurd (omega arith)
  second-place a b c (suc (suc (suc zero))) l u = refl
  second-place a b c (suc (suc (suc (suc zero)))) l u = refl
  second-place a b c (suc (suc (suc (suc (suc zero))))) l u = refl
  second-place a b c (suc (suc (suc (suc (suc (suc w)))))) l u = absurd (omega arith)

  first-place : (a b c : Triple) (l : ℕ) → l ≤ 2 → place v a b l ≡ place v a c l
  unfolding place
  first-place a b c zero u = refl
  first-place a b c (suc zero) u = refl
  first-place a b c (suc (suc zero)) u = refl
  first-place a b c (suc (suc (suc l))) u = absurd (omega arith)

  -- the partner of a driving premise has the key's subject and property
  pub record Partner (r : Rule) (d t : Triple) : Type 0 where
    pub subject : t.subject ≡ (partner_key v r d).subject
    pub property : t.property ≡ (partner_key v r d).property

  second-kind : (s p : ℕ) → s < 5 → (eqb s 5 || eqb (kind v p) s) ≡ true → kind v p ≡ s
  second-kind s p h k = ⊎_elim (λ w. absurd (omega (arith, eqb-true s 5 w))) (λ w. eqb-true _ _ w) (or_true (eqb s 5) _ k)

  partner_of : {r : Rule} → Shape r → (d t : Triple) → fits v r (first_of r d t) (second_of r d t) ≡ true → Partner r d t
  unfolding fits first_of second_of partner_key
  partner_of (second_drives f s w x y z h l u) d t e =
      let p = and_true (eqb (kind v t.property) f) _ e in
      let q = and_true (eqb s 5 || eqb (kind v d.property) s) _ p.1 in
      record { subject = place_0 t d ∙ eqb-true _ _ q.1 ∙ second-place t d d w l u; property = code_of_kind v t.property f (eqb-true _ _ p.0) h }
  partner_of (first_drives f s l x y z h m u) d t e =
      let n : l ≡ 0 → ⊥ = omega arith in
      let r : Rule = rule f s l 3 x y z in
      let o = order-first r d t n in
      let e' : fits v r d t ≡ true = subst (λ (w : Triple). fits v r w t ≡ true) o.0 (subst (λ (w : Triple). fits v r (first_of r d t) w ≡ true) o.1 e) in
      let p = and_true (eqb (kind v d.property) f) _ e' in
      let q = and_true (eqb s 5 || eqb (kind v t.property) s) _ p.1 in
      let k = key-first r d t n in
      record {
        subject = place_3 d t ∙ sym (eqb-true _ _ q.1) ∙ first-place d t d l u ∙ ap (λ (w : Triple). w.subject) k;
        property = code_of_kind v t.property s (second-kind s t.property h q.0) h ∙ ap (λ (w : Triple). w.property) k;
      }

  -- each line of the table has such a shape
  shapes : All v [] Shape rules
  shapes =
      more (second_drives 3 5 4 3 6 2 (omega arith) (omega arith) (omega arith))
      (more (second_drives 4 5 4 5 6 2 (omega arith) (omega arith) (omega arith))
      (more (first_drives 2 2 2 0 1 5 (omega arith) (omega arith) (omega arith))
      (more (second_drives 2 5 4 3 2 5 (omega arith) (omega arith) (omega arith))
      (more (second_drives 1 0 5 3 4 2 (omega arith) (omega arith) (omega arith))
      (more (first_drives 1 1 2 0 1 5 (omega arith) (omega arith) (omega arith))
      (more (first_drives 2 3 2 0 4 5 (omega arith) (omega arith) (omega arith))
      (more (first_drives 2 4 2 0 4 5 (omega arith) (omega arith) (omega arith))
      (more (first_drives 3 1 2 0 1 5 (omega arith) (omega arith) (omega arith))
      (more (first_drives 4 1 2 0 1 5 (omega arith) (omega arith) (omega arith)) none)))))))))

  pub partner : (r : Rule) → Mem r rules → (d t : Triple) → fits v r (first_of r d t) (second_of r d t) ≡ true → Partner r d t
  partner r m d t e = partner_of (all_in v [] shapes r m) d t e

  -- whichever premise drives, the two premises are a driver and a partner
  pub record Driven (r : Rule) (a b : Triple) : Type 0 where
    pub driver : Triple
    pub other : Triple
    pub first : first_of r driver other ≡ a
    pub second : second_of r driver other ≡ b
    pub which : ((driver ≡ b) × (other ≡ a)) ⊎ ((driver ≡ a) × (other ≡ b))

  pub driven : (r : Rule) (a b : Triple) → Driven r a b
  driven r a b = go (bool_cases (eqb r.left 0))
    where
      go : (eqb r.left 0 ≡ true) ⊎ (eqb r.left 0 ≡ false) → Driven r a b
      go (inl e) = let o = order-second r b a (eqb-true _ _ e) in record { driver = b; other = a; first = o.0; second = o.1; which = inl (refl, refl) }
      go (inr e) = let o = order-first r a b (eqb-false _ _ e) in record { driver = a; other = b; first = o.0; second = o.1; which = inr (refl, refl) }

  -- ── the kind of the driving premise ──
  drives-second : (r : Rule) (d : Triple) (x : Bool) → r.left ≡ 0 → x ≡ (eqb r.second 5 || eqb (kind v d.property) r.second) → x ≡ drives v r d
  unfolding drives
  drives-second r d x e h = h ∙ ap (λ (b : Bool). cond b (eqb r.second 5 || eqb (kind v d.property) r.second) (eqb (kind v d.property) r.first)) (sym (eq-eqb r.left 0 e))

  drives-first : (r : Rule) (d : Triple) (k : ℕ) → (r.left ≡ 0 → ⊥) → k ≡ kind v d.property → eqb k r.first ≡ drives v r d
  unfolding drives
  drives-first r d k n h =
      ap (λ (x : ℕ). eqb x r.first) h
      ∙ ap (λ (b : Bool). cond b (eqb r.second 5 || eqb (kind v d.property) r.second) (eqb (kind v d.property) r.first)) (sym (ne_eqb r.left 0 n))

  -- a triple that drives nothing is no premise
  pub fits-drives : (r : Rule) (d t : Triple) → fits v r (first_of r d t) (second_of r d t) ≡ true → drives v r d ≡ true
  unfolding fits first_of second_of drives
  fits-drives r d t h = go (bool_cases (eqb r.left 0))
    where
      go : (eqb r.left 0 ≡ true) ⊎ (eqb r.left 0 ≡ false) → drives v r d ≡ true
      go (inl e) =
          let w : fits v r t d ≡ true = subst (λ (b : Bool). fits v r (cond b t d) (cond b d t) ≡ true) e h in
          sym (drives-second r d _ (eqb-true r.left 0 e) refl) ∙
          (and_true (eqb r.second 5 || eqb (kind v d.property) r.second) _
          (and_true (eqb (kind v t.property) r.first) _ w).1).0
      go (inr e) =
          let w : fits v r d t ≡ true = subst (λ (b : Bool). fits v r (cond b t d) (cond b d t) ≡ true) e h in
          sym (drives-first r d _ (eqb-false r.left 0 e) refl) ∙ (and_true (eqb (kind v d.property) r.first) _ w).0
