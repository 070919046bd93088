-- What loading a part of the table does to the list.
-- Assumes nothing.
use Rattle.std.specs.Prelude.{ℕ, ◌*◌, ◌/◌, ◌<◌, ◌≤◌, ◌≡◌, Bool, true, not, ◌⊎◌, ◌↔◌, length, Result, IfOk, OnErr}
use mathlib.Core.List.{List, Memᴰ as Mem}
use Rattle.model.specs.declared.Triple.{Triple}
use Rattle.model.specs.declared.Vocabulary.{Vocabulary}
use Rattle.model.specs.Codes.{schema_property}
use Rattle.model.specs.Lists.{collect, when}
use Rattle.model.specs.Order.{Rising}
use Rattle.builder.specs.declared.Builder.{Builder}
use Rattle.builder.specs.declared.Full.{Full}
use Rattle.builder.specs.Builder.{first, Growing, GrownBy}
use Rattle.schema_load.specs.declared.Share.{Share}
use Rattle.schema_load.specs.declared.Share.TheVariants.{Schema, Other}

-- a triple offered, where the test is true
pub record OfferedIf (c : Bool) (l l' : List ℕ) (b : Builder) (x : Result Builder Full) (t : Triple) : Type 0 where
  pub steps : (U X : List Triple) → Rising U → Growing U X l b → (c ≡ true → Mem t U) → GrownBy U X l l' b x
  pub held : IfOk x (λ b'. c ≡ true → Mem t (first l' b'.filled))

module _ (v : Vocabulary) where
  -- a triple is in the part of the schema triples, or in that of the others
  unfoldable pub chosen : Share → Triple → Bool
  chosen Schema t = schema_property v t.property
  chosen Other t = not (schema_property v t.property)

  -- the triples of a part
  unfoldable pub part : Share → List Triple → List Triple
  part w ts = collect (λ t. when (chosen w t) t) ts

  -- a part of the triples behind the first n of the list, or both are more than the slots
  pub record Added (w : Share) (ts : List Triple) (l l' : List ℕ) (n : ℕ) (x : Result Builder Full) : Type 0 where
    pub size : length l' ≡ length l
    pub room : IfOk x (λ b'. 3 * b'.filled ≤ length l')
    pub members : IfOk x (λ b'. (u : Triple) → Mem u (first l' b'.filled) ↔ (Mem u (part w ts) ⊎ Mem u (first l n)))
    pub over : OnErr x ((out : List Triple) → ((u : Triple) → Mem u (part w ts) ⊎ Mem u (first l n) → Mem u out) → length l / 3 < length out)
