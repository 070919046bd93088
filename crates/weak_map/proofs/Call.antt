-- The parts of a call of weak_map, put together.
-- Assumes nothing.
use Prim.Native.Nat.{ℕ, ◌*◌, ◌≤◌}
use mathlib.Core.Path.{◌≡◌, sym, ◌∙◌, ap, subst}
use mathlib.Core.List.{List}
use native.Mathlib.Omega.{arith}
use lib.ListN.{length}
use Rattle.model.specs.declared.Triple.{Triple}
use Rattle.model.specs.declared.Vocabulary.{Vocabulary}
use Rattle.model.specs.Lists.{tabulate, zeros}
use Rattle.model.specs.Classes.{map_of}
use Rattle.theory.specs.Tables.{AllBelow, Right}
use Rattle.theory.proofs.Accepted.{below}
use Rattle.lists.specs.Flat.{at, Cleared}
use Rattle.lists.proofs.Search.{cleared-all}
use Rattle.union_find.specs.Calls.{Flattened}
use Rattle.lists.specs.Flat.{Emptied}
use Rattle.node_links.specs.Linking.{Openable, Opened, Started, AllSeen}
use Rattle.node_links.specs.Calls.{Complete}
use Rattle.node_links.proofs.Nodes.{sound-start}
use Rattle.weak_map.proofs.Tables.{linked-start}
use Rattle.weak_map.proofs.Ends.{map-end}

module _ (v : Vocabulary) where
  module _ (table : List ℕ) (count : ℕ) (roster map work : List ℕ)
      (pre : (3 * count ≤ length table) × Right v roster (tabulate (at table) 0 count) × (length map ≡ length roster) × (length work ≡ 2 * length roster)) where
    module _ (map₁ : List ℕ) (m : Emptied map map₁ (length map)) where
      pub openable : Openable table count map₁
      openable = record {
        places = pre.0;
        below = subst (λ (n : ℕ). AllBelow n (tabulate (at table) 0 count)) (sym (m.size ∙ pre.2)) (below v roster (tabulate (at table) 0 count) pre.1);
        empty = λ c h. m.absents c (omega (arith, m.size));
      }

      pub started : (work₁ : List ℕ) → Emptied work work₁ (length work) → (map₂ : List ℕ) → Opened table count (length map₁) map₂ → Started v table count roster map₂ work₁
      started work₁ w map₂ o = record {
        places = pre.0;
        right = pre.1;
        linked = linked-start v table count roster map₂ work₁ (w.size ∙ pre.3) (λ k h. w.absents k (omega (arith, w.size)))
            (sound-start v table count roster (length map₁) map₂ pre.1 (m.size ∙ pre.2) o);
      }

    abbrev ts : List Triple
    ts = tabulate (at table) 0 count

    pub called : (map₁ work₁ map₂ map₃ work₂ : List ℕ) (k : ℕ) → AllSeen v roster ts map₁ work₁ → Complete v roster ts map₂ → Flattened map₂ map₃ → Cleared work₁ work₂ 0 k → length work₁ ≤ k
        → (map₃ ≡ map_of v roster ts) × (work₂ ≡ zeros (length work))
    called map₁ work₁ map₂ map₃ work₂ k s c f d h =
        (map-end v roster ts pre.1 map₂ map₃ c f, cleared-all work₁ work₂ k d h ∙ ap zeros (s.linked.size ∙ sym pre.3))
