-- What contracts of inner functions say of tables, beside the model's own words.
-- Assumes nothing.
use Rattle.std.specs.Prelude.{ℕ, ◌<◌, ◌≡◌, true, false, length}
use mathlib.Core.List.{List, Memᴰ as Mem}
use Rattle.model.specs.declared.Triple.{Triple}
use Rattle.model.specs.declared.Vocabulary.{Vocabulary}
use Rattle.model.specs.Codes.{wrong_words}
use Rattle.model.specs.Outcomes.{wrong_size}
use Rattle.model.specs.Roster.{covers, wrong_roster, wrong_codes}
use Rattle.model.specs.Triples.{is_data}
use Rattle.model.specs.declared.Side.{Side}
use Rattle.model.specs.Cliques.{Graph, end, Has}
use Rattle.model.specs.Classes.{DataNode}

-- the codes of a triple are below n
pub record Below (n : ℕ) (t : Triple) : Type 0 where
  pub subject : t.subject < n
  pub property : t.property < n
  pub object : t.object < n

-- the codes of each triple are below n
abbrev pub AllBelow : ℕ → List Triple → Type 0
AllBelow n ts = (t : Triple) → Mem t ts → Below n t

-- a vocabulary, a roster and triples that pass the checks 10, 2, 3 and 4, in a site of right size
pub record Right (v : Vocabulary) (roster : List ℕ) (ts : List Triple) : Type 0 where
  pub size : wrong_size (length roster) ≡ false
  pub words : wrong_words v (length roster) ≡ false
  pub marks : wrong_roster v roster ≡ false
  pub codes : wrong_codes v (length roster) ts ≡ false
  pub cover : covers v roster ts ≡ true

-- the triples of a list, as a set
abbrev pub In : List Triple → Graph
In ts t = Mem t ts

module _ (v : Vocabulary) where
  -- the code is an end of a data triple
  pub record HasData (G : Graph) (n : ℕ) : Type 0 where
    pub by : Triple
    pub held : G by
    pub data_triple : is_data v by ≡ true
    pub side : Side
    pub is_end : end side by ≡ n

  -- Weak equivalence by its generators: two data nodes at the same side of one data property, or both without data triples.
  -- Theory shows that it is the weak equivalence that 01 words through cliques.
  module _ (roster : List ℕ) where
    pub data Weak (G : Graph) : ℕ → ℕ → Type 0 where
      by_side : {e : Side} {n m p : ℕ} → Has v roster G e n p → Has v roster G e m p → Weak G n m
      by_none : {n m : ℕ} → DataNode v roster G n → DataNode v roster G m → (HasData G n → ⊥) → (HasData G m → ⊥) → Weak G n m
      itself : {n : ℕ} → DataNode v roster G n → Weak G n n
      turned : {n m : ℕ} → Weak G n m → Weak G m n
      chained : {n k m : ℕ} → Weak G n k → Weak G k m → Weak G n m
