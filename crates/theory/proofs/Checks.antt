-- Laws of checks in order.
-- Assumes nothing.
use Prim.Native.Nat.{ℕ}
use mathlib.Core.Path.{◌≡◌, refl, sym, subst, ◌∙◌, ap}
use mathlib.Core.Logic.{◌⊎◌, inl, inr, ⊎_elim}
use mathlib.Core.Bool.{Bool, false, cond}
use mathlib.Core.List.{List, [], ◌∷◌}
use Rattle.model.specs.Lists.{any}
use Rattle.model.specs.Outcomes.{Outcome, refused, accepted, Check, decided, checked, Passes}
use Rattle.theory.proofs.Tests.{or-false, or_neither, bool_cases}

pub passes-first : (c : Check) (cs : List Check) → Passes (c ∷ cs) → (c.fails ≡ false) × Passes cs
unfolding any
passes-first c cs h = or-false c.fails _ h

pub first_passes : (c : Check) (cs : List Check) → c.fails ≡ false → Passes cs → Passes (c ∷ cs)
unfolding any
first_passes c cs e h = or_neither c.fails _ e h

pub no_checks : Passes []
unfolding any
no_checks = refl

-- what the first check says decides, or the others do
pub first-decides : {A : Type 0} (c : Check) (cs : List Check) (rest : Outcome A) {b : Bool} → c.fails ≡ b → decided (c ∷ cs) rest ≡ cond b (refused c.returns) (decided cs rest)
unfolding decided
first-decides c cs rest e = ap (λ (b : Bool). cond b (refused c.returns) (decided cs rest)) e

pub decided-passes : {A : Type 0} (cs : List Check) (rest : Outcome A) → Passes cs → decided cs rest ≡ rest
unfolding decided any
decided-passes [] rest h = refl
decided-passes (c ∷ cs) rest h = let x = or-false c.fails _ h in first-decides c cs rest x.0 ∙ decided-passes cs rest x.1

-- the first failing check decides, or none fails
pub decided_cases : {A : Type 0} (cs : List Check) (rest : Outcome A) → ((r : ℕ) × (decided cs rest ≡ refused r)) ⊎ Passes cs
unfolding decided any
decided_cases [] rest = inr refl
decided_cases (c ∷ cs) rest =
    ⊎_elim (λ e. inl (c.returns, first-decides c cs rest e))
    (λ e. ⊎_elim (λ w. inl (w.0, first-decides c cs rest e ∙ w.1)) (λ h. inr (or_neither c.fails _ e h)) (decided_cases cs rest))
    (bool_cases c.fails)

IsAccepted : {A : Type 0} → Outcome A → Type 0
IsAccepted (refused r) = ⊥
IsAccepted (accepted x) = Unit {0}

pub not_accepted : {A : Type 0} {r : ℕ} {x : A} → ◌≡◌ {A = Outcome A} (refused r) (accepted x) → ⊥
unfolding IsAccepted
not_accepted e = subst IsAccepted (sym e) tt

-- an accepted value is one value
pub same-value : {A : Type 0} {x y : A} → ◌≡◌ {A = Outcome A} (accepted x) (accepted y) → x ≡ y
same-value e = cc

-- where checks accept, none fails
pub accepted-passes : {A : Type 0} (cs : List Check) (x y : A) → checked cs x ≡ accepted y → Passes cs
accepted-passes cs x y e = ⊎_elim (λ w. absurd (not_accepted (sym w.1 ∙ e))) (λ h. h) (decided_cases cs (accepted x))

-- an accepted call has passed its first check
pub passed : {A : Type 0} (c : Check) (cs : List Check) (x y : A) → checked (c ∷ cs) x ≡ accepted y → (c.fails ≡ false) × (checked cs x ≡ accepted y)
passed c cs x y e =
    ⊎_elim (λ t. absurd (not_accepted (sym (first-decides c cs (accepted x) t) ∙ e))) (λ t. (t, sym (first-decides c cs (accepted x) t) ∙ e)) (bool_cases c.fails)

pub passed-all : {A : Type 0} (x y : A) → checked [] x ≡ accepted y → x ≡ y
unfolding decided
passed-all x y e = same-value e
