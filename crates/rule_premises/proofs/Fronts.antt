-- The front of a triple: its subject and its property.
-- Assumes nothing.
use mathlib.Core.Path.{◌≡◌, sym, ◌∙◌, ap, subst}
use mathlib.Core.Bool.{Bool, true, false, ◌&&◌, true≢false}
use lib.Dec.{eqb}
use borrow.Author.Tests.{eqb-true, eq-eqb}
use Rattle.model.specs.declared.Triple.{Triple}
use Rattle.model.specs.Triples.{triple, before}
use Rattle.model.specs.Order.{Lt}
use Rattle.theory.proofs.Tests.{and_true, and_both}
use Rattle.lists.proofs.Fronts as fronts

abbrev pub front : Triple → Triple → Bool
front t k = eqb t.subject k.subject && eqb t.property k.property

-- a front as a test, and as two equations
front-has : (t k : Triple) → front t k ≡ true → (t.subject ≡ k.subject) × (t.property ≡ k.property)
front-has t k e = let p = and_true (eqb t.subject k.subject) _ e in (eqb-true _ _ p.0, eqb-true _ _ p.1)

least : (k : Triple) → k.object ≡ 0 → k ≡ triple k.subject k.property 0
least k z = ap (triple k.subject k.property) z

-- a triple with the front of the least such triple does not come before it
pub front_not_before : (t k : Triple) → k.object ≡ 0 → front t k ≡ true → Lt t k → ⊥
front_not_before t k z e h = let p = front-has t k e in fronts.front_not_before t k.subject k.property (subst (Lt t) (least k z) h) p.0 p.1

-- a triple that has not the front and does not come before: no later triple has the front
pub front-later : (t u k : Triple) → k.object ≡ 0 → before t k ≡ false → front t k ≡ false → Lt t u → front u k ≡ true → ⊥
front-later t u k z b n h e =
    let p = front-has u k e in
    fronts.front-later t u k.subject k.property (subst (λ (x : Triple). before t x ≡ false) (least k z) b)
    (λ x y. true≢false (sym (and_both (eqb t.subject k.subject) _ (eq-eqb _ _ x) (eq-eqb _ _ y)) ∙ n)) h p.0 p.1
