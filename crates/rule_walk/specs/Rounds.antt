-- What drawing conclusions does to the list.
-- Assumes nothing.
use Rattle.std.specs.Prelude.{ℕ, ◌/◌, ◌<◌, ◌≤◌, ◌≡◌, true, length, get_or, Result, IfOk, OnErr}
use mathlib.Core.List.{List, Memᴰ as Mem}
use Rattle.model.specs.Rules.{Rule}
use Rattle.model.specs.declared.Triple.{Triple}
use Rattle.model.specs.declared.Vocabulary.{Vocabulary}
use Rattle.model.specs.Rules.{rules, fits, gives}
use Rattle.model.specs.Saturation.{round}
use Rattle.builder.specs.declared.Builder.{Builder}
use Rattle.builder.specs.declared.Full.{Full}
use Rattle.builder.specs.Builder.{first, Built, Growing, GrownBy}
use Rattle.rule_premises.specs.Premises.{no_rule, first_of, second_of}

module _ (v : Vocabulary) where
  -- the conclusion of a rule from two triples, where they fit
  pub record Drawn (l l' : List ℕ) (b : Builder) (x : Result Builder Full) (r : Rule) (a p : Triple) : Type 0 where
    pub steps : (X : List Triple) → Growing (round v X) X l b → Mem r rules → Mem a X → Mem p X → GrownBy (round v X) X l l' b x
    pub drawn : IfOk x (λ b'. fits v r a p ≡ true → Mem (gives v r a p) (first l' b'.filled))

  -- the list before a step of a round
  abbrev pub RoundReady : List ℕ → Builder → Type 0
  RoundReady l b = Growing (round v (first l b.base)) (first l b.base) l b

  abbrev pub RoundStep : List ℕ → List ℕ → Builder → Result Builder Full → Type 0
  RoundStep l l' b x = GrownBy (round v (first l b.base)) (first l b.base) l l' b x

  -- the conclusion from a driving premise and another, where they fit, is held
  abbrev pub Concluded : List ℕ → Builder → Rule → Triple → Triple → Type 0
  Concluded l b r d t = fits v r (first_of r d t) (second_of r d t) ≡ true → Mem (gives v r (first_of r d t) (second_of r d t)) (first l b.filled)

  -- all conclusions of a rule from a driving premise and any partner of the frozen part
  pub record DrawnPartners (l l' : List ℕ) (b : Builder) (x : Result Builder Full) (r : Rule) (d : Triple) : Type 0 where
    pub step : RoundStep l l' b x
    pub drawn : IfOk x (λ b'. (t : Triple) → Mem t (first l b.base) → Concluded l' b' r d t)

  -- all conclusions of a rule from two triples of the frozen part
  pub record DrawnRule (l l' : List ℕ) (b : Builder) (x : Result Builder Full) (r : Rule) : Type 0 where
    pub step : RoundStep l l' b x
    pub drawn : IfOk x (λ b'. (d t : Triple) → Mem d (first l b.base) → Mem t (first l b.base) → Concluded l' b' r d t)

  -- all conclusions from two triples of X, by the rules from one place of the table to before another, are in Y
  abbrev pub Draws : ℕ → ℕ → List Triple → List Triple → Type 0
  Draws low high X Y =
      (k : ℕ) → low ≤ k → k < high → (a b : Triple) → Mem a X → Mem b X → fits v (get_or rules k no_rule) a b ≡ true → Mem (gives v (get_or rules k no_rule) a b) Y

  -- the list holds what it held and all that the rules from one place of the table to before another give from it, and nothing that a
  -- round of all rules does not give
  pub record Walked (l l' : List ℕ) (count low high : ℕ) (b' : Builder) : Type 0 where
    pub built : Built l' b'
    pub base : first l' b'.base ≡ first l count
    pub base_count : b'.base ≡ count
    pub keeps : (u : Triple) → Mem u (first l count) → Mem u (first l' b'.filled)
    pub drawn : Draws low high (first l count) (first l' b'.filled)
    pub inside : (u : Triple) → Mem u (first l' b'.filled) → Mem u (round v (first l count))

  -- one round with these rules; or a round of all rules gives more than the slots
  pub record Rounded (l l' : List ℕ) (count low high : ℕ) (x : Result Builder Full) : Type 0 where
    pub size : length l' ≡ length l
    pub walked : IfOk x (λ b'. Walked l l' count low high b')
    pub over : OnErr x (length l / 3 < length (round v (first l count)))
