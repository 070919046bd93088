-- What the functions of this crate and of strong_map require and ensure.
-- Assumes nothing.
use Rattle.std.specs.Prelude.{ℕ, ◌+◌, ◌<◌, ◌≡◌, Bool, true, false, not, ◌&&◌, List, eqb, length, get_or, set}
use Rattle.model.specs.declared.Vocabulary.{Vocabulary}
use Rattle.model.specs.Codes.{absent}
use Rattle.model.specs.Roster.{unmarked}
use Rattle.node_cliques.specs.Labels.{is_label}
use Rattle.thread_settling.specs.Threads.{Groups, GroupNode, Label, LabelsApart, Settled}

-- ── one node of a thread ──
-- a data node, where the map's entry of each node is the node itself
unfoldable pub data_node : List ℕ → List ℕ → ℕ → Bool
data_node roster map i = not (eqb (get_or map i 0) absent) && unmarked roster i

pub record Threadable (roster map work : List ℕ) (i : ℕ) : Type 0 where
  pub in_roster : i < length roster
  pub in_map : i < length map
  pub in_work : i < length work
  pub small : i < absent
  pub label : data_node roster map i ≡ true → get_or work i 0 < length work

-- a data node goes before the head of its thread
pub record NodeThreaded (roster map work map' work' : List ℕ) (i : ℕ) : Type 0 where
  pub skipped : data_node roster map i ≡ false → (map' ≡ map) × (work' ≡ work)
  pub linked : data_node roster map i ≡ true → (map' ≡ set map i (get_or work (get_or work i 0) 0)) × (work' ≡ set work (get_or work i 0) i)

-- ── all threads ──
-- the lists before the first node is threaded: every node has its labels, and no label a thread or a stamp
pub record Labelled (g : Groups) (roster map work : List ℕ) : Type 0 where
  pub sites : LabelsApart g
  pub roster_size : length roster ≡ g.n
  pub map_size : length map ≡ g.n
  pub work_size : length work ≡ g.n + g.n
  pub nodes : (i : ℕ) → i < g.n → g.node i ≡ data_node roster map i
  pub firsts : (m : ℕ) → GroupNode g m → get_or work m 0 ≡ g.A m
  pub seconds : (m : ℕ) → GroupNode g m → get_or work (g.n + m) 0 ≡ g.B m
  pub heads : (s : ℕ) → Label g s → get_or work s 0 ≡ absent
  pub stamps : (s : ℕ) → Label g s → get_or work (g.n + s) 0 ≡ absent

pub record SomeLabelled (roster map work : List ℕ) : Type 0 where
  pub groups : Groups
  pub state : Labelled groups roster map work

-- ── settling a node ──
-- the stamp at a node's second label
abbrev pub stamp_of : List ℕ → ℕ → ℕ → ℕ
stamp_of work n i = get_or work (n + get_or work (n + i) 0) 0

-- a stamp that was left in the thread of a
unfoldable pub stamped : List ℕ → ℕ → ℕ → Bool
stamped work s a = not (eqb s absent) && eqb (get_or work s 0) a

pub record Settleable (map work : List ℕ) (n i : ℕ) : Type 0 where
  pub in_map : i < length map
  pub small : i < absent
  pub label : n + i < length work
  pub at_label : n + get_or work (n + i) 0 < length work
  pub stamp : (stamp_of work n i ≡ absent → ⊥) → stamp_of work n i < length work

-- the node joins the stamp of its thread, or becomes it; r is the next node
pub record NodeSettled (map work map' work' : List ℕ) (n a i r : ℕ) : Type 0 where
  pub next : r ≡ get_or map i 0
  pub old : stamped work (stamp_of work n i) a ≡ true → (map' ≡ set map i (stamp_of work n i)) × (work' ≡ work)
  pub new : stamped work (stamp_of work n i) a ≡ false → (map' ≡ set map i i) × (work' ≡ set work (n + get_or work (n + i) 0) i)

-- ── settling a thread, and all of them ──
pub record Walkable (g : Groups) (map₀ map work : List ℕ) (n a : ℕ) : Type 0 where
  pub sites : LabelsApart g
  pub size : g.n ≡ n
  pub map_size : length map₀ ≡ g.n
  pub label : Label g a
  pub state : Settled g a map₀ map work

pub record SomeWalkable (map work : List ℕ) (n a : ℕ) : Type 0 where
  pub groups : Groups
  pub before : List ℕ
  pub state : Walkable groups before map work n a

module _ (v : Vocabulary) where
  -- the threads of the labels below a are settled
  pub record Settling (g : Groups) (map₀ roster map work : List ℕ) (a : ℕ) : Type 0 where
    pub sites : LabelsApart g
    pub roster_size : length roster ≡ g.n
    pub map_size : length map₀ ≡ g.n
    pub label_tests : (s : ℕ) → s < g.n → g.label s ≡ is_label v roster s
    pub state : Settled g a map₀ map work

  pub record SomeSettling (roster map work : List ℕ) (a : ℕ) : Type 0 where
    pub groups : Groups
    pub before : List ℕ
    pub state : Settling groups before roster map work a
