-- What the functions of this crate and of weak_map require and ensure.
-- Assumes nothing.
use Rattle.std.specs.Prelude.{ℕ, ◌*◌, ◌<◌, ◌≤◌, ◌≡◌, Bool, true, false, not, ◌&&◌, List, eqb, length, get_or, set, Option, Some, IfSome, MatchOption}
use Rattle.model.specs.declared.Triple.{Triple}
use Rattle.model.specs.declared.Vocabulary.{Vocabulary}
use Rattle.model.specs.Codes.{absent}
use Rattle.model.specs.Roster.{unmarked}
use Rattle.model.specs.declared.Side.{Side}
use Rattle.model.specs.Cliques.{end, Has, links}
use Rattle.theory.specs.Tables.{Below, In}
use Rattle.union_find.specs.Roots.{root}
use Rattle.union_find.specs.Calls.{ActivePair, United}
use Rattle.node_links.specs.Linking.{Sound, slot_of, AllSeen, Bare}

-- ── a node at a slot ──
pub record SlotLinkable (map work : List ℕ) (k n : ℕ) : Type 0 where
  pub inside : k < length work
  pub pair : (get_or work k 0 ≡ absent → ⊥) → ActivePair map (get_or work k 0) n

pub record SlotLinked (map work map' work' : List ℕ) (k n : ℕ) : Type 0 where
  pub first : get_or work k 0 ≡ absent → (map' ≡ map) × (work' ≡ set work k n)
  pub later : (get_or work k 0 ≡ absent → ⊥) → United map map' (get_or work k 0) n × (work' ≡ work)

-- ── data nodes without data triples ──
unfoldable pub bare : List ℕ → List ℕ → List ℕ → ℕ → Bool
bare roster map work i = not (eqb (get_or map i 0) absent) && (unmarked roster i && eqb (get_or work i 0) absent)

pub record BareJoinable (roster map work : List ℕ) (first : Option ℕ) (i : ℕ) : Type 0 where
  pub in_roster : i < length roster
  pub in_map : i < length map
  pub in_work : i < length work
  pub pair : bare roster map work i ≡ true → IfSome first (λ f. ActivePair map f i)

-- `first` is the first one so far, and r the first one afterwards
pub record BareJoined (roster map work : List ℕ) (first : Option ℕ) (i : ℕ) (r : Option ℕ) (map' : List ℕ) : Type 0 where
  pub skipped : bare roster map work i ≡ false → (r ≡ first) × (map' ≡ map)
  pub joined : bare roster map work i ≡ true → MatchOption first ((r ≡ Some i) × (map' ≡ map)) (λ f. (r ≡ first) × United map map' f i)

module _ (v : Vocabulary) where
  -- ── an end of a triple ──
  pub record EndLinkable (roster : List ℕ) (e : Side) (t : Triple) (map work : List ℕ) : Type 0 where
    pub below : Below (length roster) t
    pub small : length roster ≤ 65536
    pub size : length work ≡ 2 * length roster
    pub pair : links v roster e t ≡ true → (get_or work (slot_of (length roster) e t.property) 0 ≡ absent → ⊥)
        → ActivePair map (get_or work (slot_of (length roster) e t.property) 0) (end e t)

  -- the node is linked at its property's slot, giving `between`, and then its own entry is the node
  pub record EndLinked (roster : List ℕ) (e : Side) (t : Triple) (map work map' work' : List ℕ) : Type 0 where
    pub between : List ℕ
    pub skipped : links v roster e t ≡ false → (map' ≡ map) × (work' ≡ work)
    pub linked : links v roster e t ≡ true → SlotLinked map work map' between (slot_of (length roster) e t.property) (end e t) × (work' ≡ set between (end e t) (end e t))

  -- nodes at the same side of one property have one root, and so have the data nodes without data triples
  pub record Complete (roster : List ℕ) (ts : List Triple) (map : List ℕ) : Type 0 where
    pub sound : Sound v roster ts map
    pub sides : (e : Side) (n m p : ℕ) → Has v roster (In ts) e n p → Has v roster (In ts) e m p → root map n ≡ root map m
    pub bares : (n m : ℕ) → Bare v roster ts n → Bare v roster ts m → root map n ≡ root map m

-- the state is that of some triples
pub record Ready (roster map work : List ℕ) : Type 0 where
  pub words : Vocabulary
  pub ts : List Triple
  pub state : AllSeen words roster ts map work
