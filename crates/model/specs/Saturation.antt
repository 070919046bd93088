-- Saturation, computed in rounds over the rule table.
-- Assumes nothing.
use Rattle.std.specs.Prelude.{ℕ, zero, suc, ◌*◌, cond, List, ◌++◌, eqb, length}
use Rattle.model.specs.Rules.{Rule}
use Rattle.model.specs.declared.Triple.{Triple}
use Rattle.model.specs.declared.Vocabulary.{Vocabulary}
use Rattle.model.specs.Lists.{collect, when}
use Rattle.model.specs.Triples.{sorted}
use Rattle.model.specs.Rules.{rules, fits, gives}

module _ (v : Vocabulary) where
  -- what a rule gives from two triples of the list
  unfoldable pub conclusions : List Triple → Rule → List Triple
  conclusions ts r = collect (λ a. collect (λ b. when (fits v r a b) (gives v r a b)) ts) ts

  -- the list with all that the rules give from it
  unfoldable pub round : List Triple → List Triple
  round ts = sorted (collect (conclusions ts) rules ++ ts)

  -- rounds until one adds nothing, at most so many
  unfoldable pub rounds : ℕ → List Triple → List Triple
  rounds zero ts = ts
  rounds (suc d) ts =
      let next = round ts in
      let rest = rounds d next in
      cond (eqb (length next) (length ts)) ts rest

  -- The saturation of triples whose codes are below n, in rising order: each round but the last adds at least one of n * n * n triples.
  unfoldable pub saturation : ℕ → List Triple → List Triple
  saturation n ts = rounds (n * n * n) (sorted ts)
