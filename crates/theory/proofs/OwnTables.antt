-- A table that passes 1, 10 and 3, with its own roster: it passes 2 and 4 too, and so does its saturation.
-- Assumes nothing.
use Prim.Native.Nat.{ℕ}
use mathlib.Core.Path.{◌≡◌, sym, subst}
use mathlib.Core.Bool.{false}
use mathlib.Core.List.{List}
use lib.ListN.{length}
use Rattle.model.specs.declared.Triple.{Triple}
use Rattle.model.specs.declared.Vocabulary.{Vocabulary}
use Rattle.model.specs.Codes.{wrong_words}
use Rattle.model.specs.Roster.{own_roster, wrong_codes}
use Rattle.model.specs.Saturation.{saturation}
use Rattle.model.specs.Outcomes.{wrong_size}
use Rattle.theory.specs.Tables.{Right}
use Rattle.theory.proofs.Accepted.{saturation-right}
use Rattle.theory.proofs.Theorems.{own-roster-least}

module _ (v : Vocabulary) (n : ℕ) (ts : List Triple) where
  pub own-size : wrong_codes v n ts ≡ false → length (own_roster v n ts) ≡ n
  own-size h = (own-roster-least v n ts h).size

  pub own-right : wrong_size n ≡ false → wrong_words v n ≡ false → wrong_codes v n ts ≡ false → Right v (own_roster v n ts) ts
  own-right w k h =
      let O = own-roster-least v n ts h in
      record {
        size = subst (λ (z : ℕ). wrong_size z ≡ false) (sym O.size) w;
        words = subst (λ (z : ℕ). wrong_words v z ≡ false) (sym O.size) k;
        marks = O.right;
        codes = subst (λ (z : ℕ). wrong_codes v z ts ≡ false) (sym O.size) h;
        cover = O.covering;
      }

  pub sat-right : wrong_size n ≡ false → wrong_words v n ≡ false → wrong_codes v n ts ≡ false → Right v (own_roster v n ts) (saturation v n ts)
  sat-right w k h =
      let own = own_roster v n ts in
      subst (λ (z : ℕ). Right v own (saturation v z ts)) (own-size h) (saturation-right v own ts (own-right w k h))
