-- The conclusion of one rule from two triples.
-- Assumes nothing.
use Prim.Native.Nat.{ℕ}
use mathlib.Core.Path.{◌≡◌, sym, ◌∙◌, subst}
use mathlib.Core.Bool.{true, false, true≢false}
use mathlib.Core.List.{List, Memᴰ as Mem}
use Rattle.model.specs.Rules.{Rule}
use Rattle.model.specs.declared.Triple.{Triple}
use Rattle.model.specs.declared.Vocabulary.{Vocabulary}
use Rattle.model.specs.Rules.{rules, fits, gives}
use Rattle.model.specs.Saturation.{round}
use Rattle.theory.proofs.Saturated.{round-has, round-rising}
use Rattle.builder.specs.declared.Builder.{Builder}
use Rattle.builder.specs.declared.Full.{Full}
use Rattle.std.specs.declared.result.Result.{Result}
use Rattle.std.specs.declared.result.Result.TheVariants.{Ok, Err}
use Rattle.builder.specs.Builder.{first, Offered, Growing, GrownBy}
use Rattle.builder.proofs.Collecting.{offer_step, offer_held, step-none}
use Rattle.rule_walk.specs.Rounds.{Drawn}

module _ (v : Vocabulary) where
  -- ── one conclusion ──
  module _ (l l' : List ℕ) (b : Builder) (r : Rule) (a p t : Triple) (f : fits v r a p ≡ true) (e : t ≡ gives v r a p) where
    step : (x : Result Builder Full) → Offered l l' b x t → (X : List Triple) → Growing (round v X) X l b → Mem r rules → Mem a X → Mem p X → GrownBy (round v X) X l l' b x
    step x O X S k n m = offer_step (round v X) X (round-rising v X) l l' b t S (subst (λ (z : Triple). Mem z (round v X)) (sym e) (round-has v X r a p k n m f)) x O

    pub drawn_offer : (x : Result Builder Full) → Offered l l' b x t → Drawn v l l' b x r a p
    drawn_offer (Ok c) O = record { steps = step (Ok c) O; drawn = λ h. subst (λ (z : Triple). Mem z (first l' c.filled)) e (offer_held l l' b c t O) }
    drawn_offer (Err y) O = record { steps = step (Err y) O; drawn = tt }

  pub drawn-none : (l : List ℕ) (b : Builder) (r : Rule) (a p : Triple) → fits v r a p ≡ false → Drawn v l l b (Ok b) r a p
  drawn-none l b r a p f = record { steps = λ X S k x y. step-none (round v X) X l b S; drawn = λ h. absurd (true≢false (sym h ∙ f)) }
