-- Stored outcomes by another name.
-- Assumes nothing.
use Prim.Native.Nat.{ℕ}
use mathlib.Core.Path.{◌≡◌, ◌∙◌, ap, subst}
use Rattle.model.specs.Outcomes.{Outcome, Answer}
use Rattle.call_numbers.specs.Status.{status_of, value_or, Stores, Reports}

pub stores_as : {o p : Outcome ℕ} {before status after : ℕ} → o ≡ p → Stores o before status after → Stores p before status after
stores_as e s = record { answer = s.answer ∙ ap status_of e; value = s.value ∙ ap (value_or _) e }

pub reports_as : {A : Type 0} (number : A → ℕ) {o p : Outcome (Answer A)} {before status after place : ℕ} → o ≡ p → Reports number o before status after place → Reports number p before status after place
reports_as number {o} {p} {before} {status} {after} {place} e R = subst (λ (z : Outcome (Answer _)). Reports number z before status after place) e R
