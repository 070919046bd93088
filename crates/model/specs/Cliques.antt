-- Source and target cliques, first as 01 words them, then computed.
-- 01: "Properties p and q share a source if some data node is subject of both in data triples; a source clique is a class of the
-- transitive closure. Targets likewise, by objects. Marked nodes link nothing."
-- Assumes nothing.
use Rattle.model.specs.declared.Side.{Side}
use Rattle.model.specs.declared.Side.TheVariants.{Source as source, Target as target}
use Rattle.std.specs.Prelude.{ℕ, ◌≡◌, Bool, true, cond, ◌&&◌, List, eqb, length}
use Rattle.model.specs.declared.Triple.{Triple}
use Rattle.model.specs.declared.Vocabulary.{Vocabulary}
use Rattle.model.specs.Codes.{absent}
use Rattle.model.specs.Lists.{any, tabulate}
use Rattle.model.specs.Triples.{is_data}
use Rattle.model.specs.Roster.{unmarked}
use Rattle.model.specs.Partition.{pairs, merged}

-- a set of triples
abbrev pub Graph : Type 1
Graph = Triple → Type 0

-- a triple's end: its subject at the source side and its object at the target side
abbrev pub end : Side → Triple → ℕ
end source t = t.subject
end target t = t.object

-- 01: "A node is a code that is subject or object of a triple."
pub record Node (G : Graph) (n : ℕ) : Type 0 where
  pub by : Triple
  pub held : G by
  pub side : Side
  pub is_end : end side by ≡ n

module _ (v : Vocabulary) (roster : List ℕ) where
  -- the data node n is at this side of a data triple with the property p
  pub record Has (G : Graph) (e : Side) (n p : ℕ) : Type 0 where
    pub by : Triple
    pub held : G by
    pub data_triple : is_data v by ≡ true
    pub is_end : end e by ≡ n
    pub plain : unmarked roster n ≡ true
    pub property : by.property ≡ p

  -- "share a source if some data node is subject of both in data triples"
  pub record Share (G : Graph) (e : Side) (p q : ℕ) : Type 0 where
    pub node : ℕ
    pub one : Has G e node p
    pub two : Has G e node q

  -- "a source clique is a class of the transitive closure"
  pub data Clique (G : Graph) (e : Side) : ℕ → ℕ → Type 0 where
    shared : {p q : ℕ} → Share G e p q → Clique G e p q
    linked : {p q r : ℕ} → Clique G e p q → Clique G e q r → Clique G e p r

  -- ── computed ──
  -- a data triple with a data node at this side
  unfoldable pub links : Side → Triple → Bool
  links e t = is_data v t && unmarked roster (end e t)

  unfoldable pub shares : Side → Triple → Triple → Bool
  shares e a b = links e a && (links e b && eqb (end e a) (end e b))

  unfoldable pub has_clique : Side → List Triple → ℕ → Bool
  has_clique e ts p = any (λ t. eqb p t.property && links e t) ts

  -- 01: "per code taken as a property, the smallest property in its source clique and in its target clique, or absent where it
  -- has none"
  unfoldable pub cliques : Side → List Triple → List ℕ
  cliques e ts =
      merged (pairs (shares e) (λ (t : Triple). t.property) ts)
      (tabulate (λ p. cond (has_clique e ts p) p absent) 0 (length roster))
