-- What the map and the work list hold while the data nodes are put together that have both labels in common.
-- Threads: the data nodes with one first label, in rising order. The map's entry of a node is first the next node of its thread, and after
-- its thread is settled the smallest node with both its labels. The work list has the first labels at the nodes and the heads of the threads at
-- the labels; n further on, the second labels at the nodes, and at each label its stamp: the node last found to be the first of its thread with
-- that second label.
-- Assumes nothing.
use Rattle.std.specs.Prelude.{ℕ, ◌+◌, ◌≤◌, ◌<◌, ◌≡◌, ◌⊎◌, Bool, true, List, length, get_or}
use Rattle.model.specs.Codes.{absent}

-- r is the smallest number with P, or absent where there is none
pub data Least (P : ℕ → Type 0) (r : ℕ) : Type 0 where
  none : r ≡ absent → ((m : ℕ) → P m → ⊥) → Least P r
  some : P r → ((m : ℕ) → P m → r ≤ m) → Least P r

-- the codes below n: which are data nodes, which can be labels, and the two labels of each node
pub record Groups : Type 0 where
  pub n : ℕ
  pub node : ℕ → Bool
  pub label : ℕ → Bool
  pub A : ℕ → ℕ
  pub B : ℕ → ℕ

module _ (g : Groups) where
  abbrev pub GroupNode : ℕ → Type 0
  GroupNode m = g.node m ≡ true

  abbrev pub Label : ℕ → Type 0
  Label s = g.label s ≡ true

  -- the labels of nodes are labels, and no label is a node
  pub record LabelsApart : Type 0 where
    pub small : g.n ≤ absent
    pub below : (m : ℕ) → GroupNode m → m < g.n
    pub first : (m : ℕ) → GroupNode m → Label (g.A m)
    pub second : (m : ℕ) → GroupNode m → Label (g.B m)
    pub label_below : (s : ℕ) → Label s → s < g.n
    pub apart : (s : ℕ) → Label s → GroupNode s → ⊥

  -- the nodes of a thread from a number on
  pub record From (a low m : ℕ) : Type 0 where
    pub node : GroupNode m
    pub label : g.A m ≡ a
    pub high : low ≤ m

  -- the nodes with both labels
  pub record Both (a b m : ℕ) : Type 0 where
    pub node : GroupNode m
    pub first : g.A m ≡ a
    pub second : g.B m ≡ b

  -- the nodes from i on are threaded; map₀ and work₀ are the lists before
  pub record Threaded (i : ℕ) (map₀ map work₀ work : List ℕ) : Type 0 where
    pub map_size : length map ≡ length map₀
    pub work_size : length work ≡ length work₀
    pub heads : (s : ℕ) → Label s → Least (From s i) (get_or work s 0)
    pub nexts : (m : ℕ) → GroupNode m → i ≤ m → Least (From (g.A m) (m + 1)) (get_or map m 0)
    pub before : (m : ℕ) → GroupNode m → m < i → get_or map m 0 ≡ get_or map₀ m 0
    pub rest : (m : ℕ) → (GroupNode m → ⊥) → get_or map m 0 ≡ get_or map₀ m 0
    pub labels : (m : ℕ) → GroupNode m → get_or work m 0 ≡ g.A m
    pub behind : (m : ℕ) → g.n ≤ m → get_or work m 0 ≡ get_or work₀ m 0

  -- the stamp s of the label b while the thread of a is walked and is settled below low: the smallest node with a and b; or absent or a node
  -- of a thread before, and then no node below low has both
  pub data Stamp (a low b s : ℕ) : Type 0 where
    fresh : Both a b s → s < low → ((m : ℕ) → Both a b m → s ≤ m) → Stamp a low b s
    stale : (s ≡ absent) ⊎ (GroupNode s × (g.A s < a)) → ((m : ℕ) → Both a b m → low ≤ m) → Stamp a low b s

  -- the thread of a is settled below low, and c is its next node; map₀ and work₀ are the lists where the walk began
  pub record Walked (a low c : ℕ) (map₀ map work₀ work : List ℕ) : Type 0 where
    pub map_size : length map ≡ length map₀
    pub work_size : length work ≡ length work₀
    pub heads : (s : ℕ) → Label s → get_or work s 0 ≡ get_or work₀ s 0
    pub current : Least (From a low) c
    pub settled : (m : ℕ) → GroupNode m → g.A m ≡ a → m < low → Least (Both a (g.B m)) (get_or map m 0)
    pub threaded : (m : ℕ) → GroupNode m → g.A m ≡ a → low ≤ m → Least (From a (m + 1)) (get_or map m 0)
    pub others : (m : ℕ) → GroupNode m → (g.A m ≡ a → ⊥) → get_or map m 0 ≡ get_or map₀ m 0
    pub rest : (m : ℕ) → (GroupNode m → ⊥) → get_or map m 0 ≡ get_or map₀ m 0
    pub labels : (m : ℕ) → GroupNode m → get_or work m 0 ≡ g.A m
    pub seconds : (m : ℕ) → GroupNode m → get_or work (g.n + m) 0 ≡ g.B m
    pub stamps : (b : ℕ) → Label b → Stamp a low b (get_or work (g.n + b) 0)

  -- the threads of the labels below a are settled, the others stand; map₀ is the map before threading
  pub record Settled (a : ℕ) (map₀ map work : List ℕ) : Type 0 where
    pub map_size : length map ≡ length map₀
    pub work_size : length work ≡ g.n + g.n
    pub heads : (s : ℕ) → Label s → Least (From s 0) (get_or work s 0)
    pub done : (m : ℕ) → GroupNode m → g.A m < a → Least (Both (g.A m) (g.B m)) (get_or map m 0)
    pub left : (m : ℕ) → GroupNode m → a ≤ g.A m → Least (From (g.A m) (m + 1)) (get_or map m 0)
    pub rest : (m : ℕ) → (GroupNode m → ⊥) → get_or map m 0 ≡ get_or map₀ m 0
    pub labels : (m : ℕ) → GroupNode m → get_or work m 0 ≡ g.A m
    pub seconds : (m : ℕ) → GroupNode m → get_or work (g.n + m) 0 ≡ g.B m
    pub stamps : (b : ℕ) → Label b → (get_or work (g.n + b) 0 ≡ absent) ⊎ (GroupNode (get_or work (g.n + b) 0) × (g.A (get_or work (g.n + b) 0) < a))
