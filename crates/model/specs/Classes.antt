-- Weak and strong equivalence and representatives, first as 01 and 02 word them, then computed.
-- Assumes nothing.
use Rattle.std.specs.Prelude.{ℕ, ◌≤◌, ◌≡◌, Bool, true, false, cond, not, ◌&&◌, ◌||◌, List, [], ◌∷◌, eqb, length}
use Rattle.model.specs.declared.Triple.{Triple}
use Rattle.model.specs.declared.Vocabulary.{Vocabulary}
use Rattle.model.specs.Codes.{absent}
use Rattle.model.specs.Lists.{collect, when, tabulate}
use Rattle.model.specs.Triples.{is_data}
use Rattle.model.specs.Roster.{unmarked, is_node}
use Rattle.model.specs.Partition.{label, pairs, merged}
use Rattle.model.specs.declared.Side.{Side}
use Rattle.model.specs.declared.Side.TheVariants.{Source as source, Target as target}
use Rattle.model.specs.Cliques.{Graph, end, Node, Has, Clique, cliques}

-- a data node with its two cliques, each by its smallest property, or absent
pub record Placed : Type 0 where
  pub node : ℕ
  pub from : ℕ
  pub to : ℕ

-- the same non-empty source clique, or the same non-empty target clique, or both no clique at all
unfoldable pub together : Placed → Placed → Bool
together a b =
    not (eqb a.from absent) && eqb a.from b.from
    || not (eqb a.to absent) && eqb a.to b.to
    || eqb a.from absent && (eqb a.to absent && (eqb b.from absent && eqb b.to absent))

-- the same source clique and the same target clique, none counting as a value: absent stands for none
unfoldable pub alike : Placed → Placed → Bool
alike a b = eqb a.from b.from && eqb a.to b.to

module _ (v : Vocabulary) (roster : List ℕ) where
  -- 01: "A data node is an unmarked node."
  pub record DataNode (G : Graph) (n : ℕ) : Type 0 where
    pub node : Node G n
    pub plain : unmarked roster n ≡ true

  -- no clique at all, neither source nor target
  abbrev pub NoClique : Graph → ℕ → Type 0
  NoClique G n = (e : Side) (p : ℕ) → Has v roster G e n p → ⊥

  -- 01: "Data nodes are weakly equivalent if they have the same non-empty source or target clique, or both have no clique at all,
  -- or a chain of such pairs joins them."
  pub data Weakly (G : Graph) : ℕ → ℕ → Type 0 where
    same_clique : {e : Side} {n m p q : ℕ} → Has v roster G e n p → Has v roster G e m q → Clique v roster G e p q → Weakly G n m
    no_clique : {n m : ℕ} → DataNode G n → DataNode G m → NoClique G n → NoClique G m → Weakly G n m
    chain : {n k m : ℕ} → Weakly G n k → Weakly G k m → Weakly G n m

  -- the same clique at a side, none counting as a value
  pub data SameClique (G : Graph) (e : Side) (n m : ℕ) : Type 0 where
    neither : ((p : ℕ) → Has v roster G e n p → ⊥) → ((p : ℕ) → Has v roster G e m p → ⊥) → SameClique G e n m
    in_one : {p q : ℕ} → Has v roster G e n p → Has v roster G e m q → Clique v roster G e p q → SameClique G e n m

  -- 02: "data nodes are together exactly if they have the same source clique and the same target clique, none counting as a value"
  pub record Strongly (G : Graph) (n m : ℕ) : Type 0 where
    pub one : DataNode G n
    pub two : DataNode G m
    pub each_side : (e : Side) → SameClique G e n m

  -- 01: "A representative is the smallest code of its class; a marked node represents itself."
  -- f gives the representatives of the nodes by the equivalence E of its data nodes.
  pub record RepresentsBy (E : ℕ → ℕ → Type 0) (G : Graph) (f : ℕ → ℕ) : Type 0 where
    pub of_marked : (n : ℕ) → Node G n → unmarked roster n ≡ false → f n ≡ n
    pub of_plain : (n : ℕ) → DataNode G n → E n (f n)
    pub least : (n m : ℕ) → DataNode G n → E n m → f n ≤ m

  -- ── computed ──
  -- the clique of a data node at a side: that of its first data triple there
  unfoldable pub clique_of : Side → List ℕ → ℕ → List Triple → ℕ
  clique_of e cs c [] = absent
  clique_of e cs c (t ∷ ts) = cond (is_data v t && eqb (end e t) c) (label cs t.property) (clique_of e cs c ts)

  -- the data nodes with their cliques, given the two clique lists
  abbrev pub placed_at : List ℕ → List ℕ → List Triple → ℕ → Placed
  placed_at sources targets ts c = record { node = c; from = clique_of source sources c ts; to = clique_of target targets c ts }

  unfoldable pub placed : List ℕ → List ℕ → List Triple → List Placed
  placed sources targets ts =
      collect (λ c. when (is_node ts c && unmarked roster c) (placed_at sources targets ts c)) (tabulate (λ c. c) 0 (length roster))

  -- 01: "a map of N u32 with each node's representative, absent for a code that is no node", where a test puts data nodes together
  unfoldable pub map_by : (Placed → Placed → Bool) → List Triple → List ℕ
  map_by test ts =
      merged (pairs test (λ (a : Placed). a.node) (placed (cliques v roster source ts) (cliques v roster target ts) ts))
      (tabulate (λ c. cond (is_node ts c) c absent) 0 (length roster))

  -- the map by weak equivalence, and that by strong equivalence
  unfoldable pub map_of : List Triple → List ℕ
  map_of ts = map_by together ts

  unfoldable pub strong_map_of : List Triple → List ℕ
  strong_map_of ts = map_by alike ts
