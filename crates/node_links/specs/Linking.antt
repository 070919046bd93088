-- What the map and the work list hold while a weak map is made.
-- Assumes nothing.
use Rattle.std.specs.Prelude.{ℕ, ◌+◌, ◌*◌, ◌<◌, ◌≤◌, ◌≡◌, ◌⊎◌, true, false, List, length, get_or}
use Rattle.model.specs.declared.Triple.{Triple}
use Rattle.model.specs.declared.Vocabulary.{Vocabulary}
use Rattle.model.specs.Codes.{absent}
use Rattle.model.specs.Lists.{tabulate}
use Rattle.model.specs.Roster.{unmarked, is_node}
use Rattle.model.specs.declared.Side.{Side}
use Rattle.model.specs.declared.Side.TheVariants.{Source as source, Target as target}
use Rattle.model.specs.Cliques.{Node, Has}
use Rattle.model.specs.Classes.{DataNode}
use Rattle.theory.specs.Tables.{AllBelow, In, HasData, Weak, Right}
use Rattle.lists.specs.Flat.{at, Before}
use Rattle.union_find.specs.Roots.{Forest, root}

-- ── every node a class of its own ──
-- the entry of a node of the first i triples is the node itself, that of any other code is absent
pub record Opened (table : List ℕ) (i n : ℕ) (map : List ℕ) : Type 0 where
  pub size : length map ≡ n
  pub own : (c : ℕ) → Node (Before table i) c → get_or map c 0 ≡ c
  pub none : (c : ℕ) → c < length map → (Node (Before table i) c → ⊥) → get_or map c 0 ≡ absent

pub record Openable (table : List ℕ) (count : ℕ) (map : List ℕ) : Type 0 where
  pub places : 3 * count ≤ length table
  pub below : AllBelow (length map) (tabulate (at table) 0 count)
  pub empty : (c : ℕ) → c < length map → get_or map c 0 ≡ absent

-- ── the work list ──
-- the entry of a property at a side
abbrev pub slot_of : ℕ → Side → ℕ → ℕ
slot_of n source p = p
slot_of n target p = n + p

-- the first a triples are seen at the source side, the first b at the target side
abbrev pub up_to : ℕ → ℕ → Side → ℕ
up_to a b source = a
up_to a b target = b

module _ (v : Vocabulary) where
  -- ── classes ──
  -- one node, or weakly equivalent
  abbrev pub Alike : List ℕ → List Triple → ℕ → ℕ → Type 0
  Alike roster ts x y = (x ≡ y) ⊎ Weak v roster (In ts) x y

  -- the entries of the nodes are a forest, and a node's root is alike; the other entries are absent
  pub record Sound (roster : List ℕ) (ts : List Triple) (map : List ℕ) : Type 0 where
    pub size : length map ≡ length roster
    pub forest : Forest (is_node ts) map
    pub sound : (x : ℕ) → is_node ts x ≡ true → Alike roster ts x (root map x)
    pub none : (x : ℕ) → x < length map → is_node ts x ≡ false → get_or map x 0 ≡ absent

  -- S says which nodes are seen, at which side of which property: a property's slot holds one of its nodes, and all have one root
  pub record Slots (roster : List ℕ) (ts : List Triple) (S : Side → ℕ → ℕ → Type 0) (map work : List ℕ) : Type 0 where
    pub held : (e : Side) (p : ℕ) → p < length roster → unmarked roster p ≡ false → (get_or work (slot_of (length roster) e p) 0 ≡ absent → ⊥)
        → Has v roster (In ts) e (get_or work (slot_of (length roster) e p) 0) p
    pub seen : (e : Side) (n p : ℕ) → S e n p
        → (get_or work (slot_of (length roster) e p) 0 ≡ absent → ⊥) × (root map (get_or work (slot_of (length roster) e p) 0) ≡ root map n)

  -- the entry of a node seen is the node itself, and the entry of a data node without a data triple is absent
  pub record Flags (roster : List ℕ) (ts : List Triple) (S : Side → ℕ → ℕ → Type 0) (work : List ℕ) : Type 0 where
    pub raised : (e : Side) (n p : ℕ) → S e n p → get_or work n 0 ≡ n
    pub right : (n : ℕ) → n < length roster → unmarked roster n ≡ true → (get_or work n 0 ≡ absent → ⊥) → HasData v (In ts) n

  pub record Linked (roster : List ℕ) (ts : List Triple) (S : Side → ℕ → ℕ → Type 0) (map work : List ℕ) : Type 0 where
    pub size : length work ≡ 2 * length roster
    pub sound : Sound roster ts map
    pub slots : Slots roster ts S map work
    pub flags : Flags roster ts S work

  abbrev pub Seen : List ℕ → List ℕ → ℕ → ℕ → Side → ℕ → ℕ → Type 0
  Seen table roster a b e n p = Has v roster (Before table (up_to a b e)) e n p

  -- before the first triple is linked
  pub record Started (table : List ℕ) (count : ℕ) (roster map work : List ℕ) : Type 0 where
    pub places : 3 * count ≤ length table
    pub right : Right v roster (tabulate (at table) 0 count)
    pub linked : Linked roster (tabulate (at table) 0 count) (Seen table roster 0 0) map work

  -- all triples are linked
  pub record AllSeen (roster : List ℕ) (ts : List Triple) (map work : List ℕ) : Type 0 where
    pub right : Right v roster ts
    pub linked : Linked roster ts (λ e n p. Has v roster (In ts) e n p) map work

  -- ── data nodes without data triples ──
  pub record Bare (roster : List ℕ) (ts : List Triple) (n : ℕ) : Type 0 where
    pub node : DataNode v roster (In ts) n
    pub none : HasData v (In ts) n → ⊥
