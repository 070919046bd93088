-- The schema triples closed, then one pass with each group of the other rules.
-- Assumes nothing.
use Rattle.std.specs.Prelude.{ℕ, ◌*◌, ◌/◌, ◌<◌, ◌≤◌, ◌≡◌, ◌↔◌, length, Result, IfOk, OnErr}
use mathlib.Core.List.{List, Memᴰ as Mem}
use Rattle.model.specs.declared.Triple.{Triple}
use Rattle.model.specs.declared.Vocabulary.{Vocabulary}
use Rattle.model.specs.Codes.{kind}
use Rattle.model.specs.Rules.{Derives}
use Rattle.model.specs.Cliques.{Graph}
use Rattle.builder.specs.declared.Builder.{Builder}
use Rattle.builder.specs.declared.Full.{Full}
use Rattle.builder.specs.Builder.{first}
use Rattle.rule_walk.specs.Rounds.{Draws}
use Rattle.schema_load.specs.declared.Share.TheVariants.{Schema}
use Rattle.schema_load.specs.Loading.{part}

-- the places of the rules of each pass, from one to before another: which retype, which type an end, which rename
abbrev pub retyping : ℕ × ℕ
retyping = (4, 5)

abbrev pub typing : ℕ × ℕ
typing = (0, 2)

abbrev pub renaming : ℕ × ℕ
renaming = (3, 4)

module _ (v : Vocabulary) where
  -- what the rules derive from G, or this is more than the slots
  pub record Closed (G : Graph) (l l' : List ℕ) (x : Result Builder Full) : Type 0 where
    pub size : length l' ≡ length l
    pub room : IfOk x (λ b'. 3 * b'.filled ≤ length l')
    pub exact : IfOk x (λ b'. (u : Triple) → Mem u (first l' b'.filled) ↔ Derives v G u)
    pub over : OnErr x ((out : List Triple) → ((u : Triple) → Derives v G u → Mem u out) → length l / 3 < length out)

  -- one pass with some rules over the first n triples, in any order
  pub record Swept (l l' : List ℕ) (n low high : ℕ) (x : Result Builder Full) : Type 0 where
    pub size : length l' ≡ length l
    pub room : IfOk x (λ b'. 3 * b'.filled ≤ length l')
    pub keeps : IfOk x (λ b'. (u : Triple) → Mem u (first l n) → Mem u (first l' b'.filled))
    pub drawn : IfOk x (λ b'. Draws v low high (first l n) (first l' b'.filled))
    pub derived : IfOk x (λ b'. (u : Triple) → Mem u (first l' b'.filled) → Derives v (λ t. Mem t (first l n)) u)
    pub over : OnErr x ((out : List Triple) → ((u : Triple) → Derives v (λ t. Mem t (first l n)) u → Mem u out) → length l / 3 < length out)

  -- no reserved code is subject or object
  abbrev pub FreeEnds : List Triple → Type 0
  FreeEnds ts = (t : Triple) → Mem t ts → (5 ≤ kind v t.subject) × (5 ≤ kind v t.object)

  -- X holds the triples, all that the rules derive from their schema triples, and nothing that the rules do not derive
  pub record Grounded (ts X : List Triple) : Type 0 where
    pub free : FreeEnds ts
    pub schema_in : (u : Triple) → Derives v (λ t. Mem t (part v Schema ts)) u → Mem u X
    pub all_in : (u : Triple) → Mem u ts → Mem u X
    pub derived : (u : Triple) → Mem u X → Derives v (λ t. Mem t ts) u

  -- one pass after another: from such an X all that the rules derive, or this is more than the slots
  pub record Stratified (l l' : List ℕ) (n : ℕ) (x : Result Builder Full) : Type 0 where
    pub size : length l' ≡ length l
    pub room : IfOk x (λ b'. 3 * b'.filled ≤ length l')
    pub exact : IfOk x (λ b'. (ts : List Triple) → Grounded ts (first l n) → (u : Triple) → Mem u (first l' b'.filled) ↔ Derives v (λ t. Mem t ts) u)
    pub over : OnErr x ((out : List Triple) → ((u : Triple) → Derives v (λ t. Mem t (first l n)) u → Mem u out) → length l / 3 < length out)
