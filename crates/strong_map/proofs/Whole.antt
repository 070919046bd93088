-- The whole function: the two halves of the work list, and what each step leaves for the next.
-- Assumes nothing.
use Prim.Native.Nat.{ℕ, ◌*◌, ◌/◌, ◌<◌}
use mathlib.Core.Path.{◌≡◌, sym, subst, ◌∙◌, ap}
use mathlib.Core.List.{List, ◌++◌}
use native.Mathlib.Omega.{arith}
use lib.ListN.{length, get_or}
use Rattle.model.specs.declared.Triple.{Triple}
use Rattle.model.specs.declared.Vocabulary.{Vocabulary}
use Rattle.model.specs.Codes.{absent}
use Rattle.model.specs.Lists.{zeros}
use Rattle.model.specs.Triples.{triples}
use Rattle.model.specs.declared.Side.TheVariants.{Source as source, Target as target}
use Rattle.model.specs.Cliques.{Node}
use Rattle.model.specs.Classes.{strong_map_of}
use Rattle.theory.specs.Tables.{In, Right}
use Rattle.lists.specs.Flat.{Cleared, Emptied}
use Rattle.lists.proofs.Places.{triples-table}
use Rattle.lists.proofs.Search.{cleared-all}
use Rattle.node_links.specs.Linking.{Opened, Openable}
use Rattle.weak_map.proofs.Call.{openable}
use Rattle.node_cliques.specs.Labels.{node_cliques}
use Rattle.thread_settling.specs.Threads.{Groups, Threaded}
use Rattle.thread_settling.specs.Calls.{Labelled, SomeLabelled, Settling, SomeSettling}
use Rattle.strong_map.proofs.Ends.{groups, labelled, threaded-settling, map-end}

module _ (v : Vocabulary) (table roster map work : List ℕ) (R : Right v roster (triples table)) (lm : length map ≡ length roster) (lw : length work ≡ 2 * length roster) where
  abbrev count : ℕ
  count = length table / 3

  abbrev ts : List Triple
  ts = triples table

  module _ (map₁ : List ℕ) (E : Emptied map map₁ (length map)) where
    pub nodes-openable : Openable table count map₁
    nodes-openable = openable v table count roster map work (omega arith, subst (Right v roster) (triples-table table) R, lm, lw) map₁ E

    module _ (map₂ : List ℕ) (O : Opened table count (length map₁) map₂) (work₁ : List ℕ) (is : work₁ ≡ node_cliques v roster source ts ++ node_cliques v roster target ts) where
      size : length map₂ ≡ length roster
      size = O.size ∙ E.size ∙ lm

      own : (c : ℕ) → Node (In ts) c → get_or map₂ c 0 ≡ c
      own c x = O.own c (subst (λ (us : List Triple). Node (In us) c) (triples-table table) x)

      silent : (c : ℕ) → c < length roster → (Node (In ts) c → ⊥) → get_or map₂ c 0 ≡ absent
      silent c l f = O.none c (omega (arith, size)) (λ x. f (subst (λ (us : List Triple). Node (In us) c) (sym (triples-table table)) x))

      abbrev g : Groups
      g = groups v roster ts R

      state : Labelled g roster map₂ work₁
      state = labelled v roster ts R map₂ size own silent work₁ is

      pub threads_ready : SomeLabelled roster map₂ work₁
      threads_ready = record { groups = g; state = state }

      module _ (map₃ work₂ : List ℕ) (T : (g : Groups) → Labelled g roster map₂ work₁ → Threaded g 0 map₂ map₃ work₁ work₂) where
        settling : Settling v g map₂ roster map₃ work₂ 0
        settling = threaded-settling v roster ts R map₂ size own silent work₁ is map₃ work₂ (T g state)

        pub settle_ready : SomeSettling v roster map₃ work₂ 0
        settle_ready = record { groups = g; before = map₂; state = settling }

        pub called : (map₄ work₃ work₄ : List ℕ) → ((g : Groups) (b : List ℕ) → Settling v g b roster map₃ work₂ 0 → Settling v g b roster map₄ work₃ (length roster))
            → Cleared work₃ work₄ 0 (length work₃) → (map₄ ≡ strong_map_of v roster ts) × (work₄ ≡ zeros (length work))
        called map₄ work₃ work₄ S C =
            let D = S g map₂ settling in
            let same : length work₃ ≡ length work = omega (arith, D.state.work_size, lw) in
            (map-end v roster ts R map₂ map₄ work₃ size own silent D.state, cleared-all work₃ work₄ (length work₃) C (omega arith) ∙ ap zeros same)
