-- The data nodes without data triples become one class.
-- Assumes nothing.
use Prim.Native.Nat.{ℕ, ◌+◌, ◌<◌, ◌≤◌}
use mathlib.Core.Path.{◌≡◌, sym, ◌∙◌, ap, subst}
use mathlib.Core.Logic.{⊎_elim}
use mathlib.Core.Bool.{true, false, not}
use mathlib.Core.List.{List}
use native.Mathlib.Omega.{arith}
use native.Mathlib.Decide.{ℕ_discrete}
use lib.Dec.{eqb}
use lib.ListN.{length, get_or}
use borrow.Author.Tests.{eqb-true, eqb-false, eq-eqb, ne_eqb, not-true}
use Rattle.std.specs.Option.{IfSome, MatchOption}
use Rattle.std.specs.declared.option.Option.{Option}
use Rattle.std.specs.declared.option.Option.TheVariants.{None, Some}
use Rattle.model.specs.declared.Triple.{Triple}
use Rattle.model.specs.declared.Vocabulary.{Vocabulary}
use Rattle.model.specs.Codes.{absent}
use Rattle.model.specs.Roster.{unmarked, is_node}
use Rattle.model.specs.declared.Side.{Side}
use Rattle.model.specs.Cliques.{Has}
use Rattle.theory.proofs.Tests.{bool_cases, not_both, and_true, and_both}
use Rattle.theory.specs.Tables.{In, by_none}
use Rattle.theory.proofs.Weak.{data_has}
use Rattle.theory.proofs.Mapped.{node_test, test_node, node-below}
use Rattle.theory.proofs.Accepted.{room, below}
use Rattle.union_find.specs.Roots.{root}
use Rattle.union_find.specs.Calls.{ActivePair, United}
use Rattle.node_links.specs.Linking.{Sound, AllSeen, Bare}
use Rattle.node_links.specs.Calls.{bare, BareJoinable, BareJoined, Complete}
use Rattle.node_links.proofs.Nodes.{sound-pair, sound_united, sound-one, sound-same}
use Rattle.node_links.proofs.Links.{has_test}

module _ (v : Vocabulary) where
  -- those below i are in the class of `first`, which is one of them, or there is none
  pub record Joining (roster : List ℕ) (ts : List Triple) (map : List ℕ) (first : Option ℕ) (i : ℕ) : Type 0 where
    pub sound : Sound v roster ts map
    pub sides : (e : Side) (n m p : ℕ) → Has v roster (In ts) e n p → Has v roster (In ts) e m p → root map n ≡ root map m
    pub named : IfSome first (λ f. Bare v roster ts f)
    pub joined : (n : ℕ) → n < i → Bare v roster ts n → MatchOption first ⊥ (λ f. root map f ≡ root map n)

  module _ (roster : List ℕ) (ts : List Triple) (map₀ work : List ℕ) (s : AllSeen v roster ts map₀ work) where
    bare-node : (n : ℕ) → Bare v roster ts n → is_node ts n ≡ true
    bare-node n x = node_test ts n x.node.node

    bare-below : (n : ℕ) → Bare v roster ts n → n < length roster
    bare-below n x = node-below (length roster) ts (below v roster ts s.right) n x.node.node

    pub joining_start : Joining roster ts map₀ None 0
    joining_start = record {
      sound = s.linked.sound;
      sides = λ e n m p x y. sym (s.linked.slots.seen e n p x).1 ∙ (s.linked.slots.seen e m p y).1;
      named = tt;
      joined = λ n h x. absurd (omega arith);
    }

    module _ (map : List ℕ) (first : Option ℕ) (i : ℕ) (d : Joining roster ts map first i) (w : i < length map) where
      -- ── the test ──
      inside : i < length roster
      inside = omega (arith, d.sound.size)

      test_bare : bare roster map work i ≡ true → Bare v roster ts i
      unfolding bare
      test_bare h =
          let x = and_true (not (eqb (get_or map i 0) absent)) _ h in
          let y = and_true (unmarked roster i) _ x.1 in
          let z : get_or work i 0 ≡ absent = eqb-true _ _ y.1 in
          record {
            node = record { node = test_node ts i (is-node (eqb-false _ _ (not-true _ x.0))); plain = y.0 };
            none = λ k. let q = s.linked.flags.raised k.side i k.by.property (data_has v roster y.0 k) in omega (arith, room v roster ts s.right, inside);
          }
        where
          is-node : (get_or map i 0 ≡ absent → ⊥) → is_node ts i ≡ true
          is-node k = ⊎_elim (λ t. t) (λ f. absurd (k (d.sound.none i w f))) (bool_cases (is_node ts i))

      bare_test : Bare v roster ts i → bare roster map work i ≡ true
      unfolding bare
      bare_test x =
          let a : get_or map i 0 ≡ absent → ⊥ = λ z. omega (arith, d.sound.forest.falls i (bare-node i x), room v roster ts s.right, inside) in
          and_both (not (eqb (get_or map i 0) absent)) _ (ap not (ne_eqb _ _ a))
          (and_both (unmarked roster i) _ x.node.plain (eq-eqb _ _ (unflagged (ℕ_discrete (get_or work i 0) absent))))
        where
          unflagged : Dec (get_or work i 0 ≡ absent) → get_or work i 0 ≡ absent
          unflagged (yes z) = z
          unflagged (no z) = absurd (x.none (s.linked.flags.right i inside x.node.plain z))

      pairs : (x : Option ℕ) → IfSome x (λ f. Bare v roster ts f) → bare roster map work i ≡ true → IfSome x (λ f. ActivePair map f i)
      pairs None b h = tt
      pairs (Some f) b h = sound-pair v roster ts map d.sound f i (bare-node f b) (bare-node i (test_bare h))

      pub bare_joinable : BareJoinable roster map work first i
      bare_joinable = record {
        in_roster = inside;
        in_map = w;
        in_work = omega (arith, d.sound.size, s.linked.size, inside);
        pair = pairs first d.named;
      }

      -- ── one code more ──
      module _ (r : Option ℕ) (map' : List ℕ) (j : BareJoined roster map work first i r map') where
        skip : bare roster map work i ≡ false → Joining roster ts map first (i + 1)
        skip h = record {
          sound = d.sound;
          sides = d.sides;
          named = d.named;
          joined = λ n k x. let m : n ≡ i → ⊥ = λ e. not_both (bare_test (subst (Bare v roster ts) e x)) h in d.joined n (omega arith) x;
        }

        open_first : Joining roster ts map None i → bare roster map work i ≡ true → Joining roster ts map (Some i) (i + 1)
        open_first o h = record {
          sound = o.sound;
          sides = o.sides;
          named = test_bare h;
          joined = λ n k x. at n k x (ℕ_discrete n i);
        }
          where
            at : (n : ℕ) → n < i + 1 → Bare v roster ts n → Dec (n ≡ i) → root map i ≡ root map n
            at n k x (yes e) = ap (root map) (sym e)
            at n k x (no m) = absurd (o.joined n (omega arith) x)

        join_first : (f : ℕ) → Joining roster ts map (Some f) i → bare roster map work i ≡ true → United map map' f i → Joining roster ts map' (Some f) (i + 1)
        join_first f o h u = record {
          sound = sound_united v roster ts map o.sound f i hf hi map' u (by_none o.named.node (test_bare h).node o.named.none (test_bare h).none);
          sides = λ e n m p x y. same n m (has_test v roster ts s.right x) (has_test v roster ts s.right y) (o.sides e n m p x y);
          named = o.named;
          joined = λ n k x. at n k x (ℕ_discrete n i);
        }
          where
            hf : is_node ts f ≡ true
            hf = bare-node f o.named

            hi : is_node ts i ≡ true
            hi = bare-node i (test_bare h)

            same : (n m : ℕ) → is_node ts n ≡ true → is_node ts m ≡ true → root map n ≡ root map m → root map' n ≡ root map' m
            same = sound-same v roster ts map o.sound f i hf hi map' u

            at : (n : ℕ) → n < i + 1 → Bare v roster ts n → Dec (n ≡ i) → root map' f ≡ root map' n
            at n k x (yes e) = sound-one v roster ts map o.sound f i hf hi map' u ∙ ap (root map') (sym e)
            at n k x (no m) = same f n hf (bare-node n x) (o.joined n (omega arith) x)

        by : (x : Option ℕ) → Joining roster ts map x i → bare roster map work i ≡ true → MatchOption x ((r ≡ Some i) × (map' ≡ map)) (λ f. (r ≡ x) × United map map' f i)
            → Joining roster ts map' r (i + 1)
        by None o h q = rw (q.0, q.1) (open_first o h)
        by (Some f) o h q = rw q.0 (join_first f o h q.1)

        pub joining_step : Joining roster ts map' r (i + 1)
        joining_step = ⊎_elim (λ h. by first d h (j.joined h)) (λ h. let x = j.skipped h in rw (x.0, x.1) (skip h)) (bool_cases (bare roster map work i))

    pub joining_end : (map : List ℕ) (first : Option ℕ) (i : ℕ) → Joining roster ts map first i → length map ≤ i → Complete v roster ts map
    joining_end map first i d h = record {
      sound = d.sound;
      sides = d.sides;
      bares = λ n m x y.
          let p = d.joined n (omega (arith, bare-below n x, d.sound.size)) x in
          let q = d.joined m (omega (arith, bare-below m y, d.sound.size)) y in
          one-class first n m p q;
    }
      where
        one-class : (x : Option ℕ) (n m : ℕ) → MatchOption x ⊥ (λ f. root map f ≡ root map n) → MatchOption x ⊥ (λ f. root map f ≡ root map m) → root map n ≡ root map m
        one-class None n m p q = absurd p
        one-class (Some f) n m p q = sym p ∙ q

-- ── for each list of triples of which the start is the state ──
abbrev pub Joinings : List ℕ → List ℕ → List ℕ → List ℕ → Option ℕ → ℕ → Type 0
Joinings roster map₀ work map first i = (v : Vocabulary) (ts : List Triple) → AllSeen v roster ts map₀ work → Joining v roster ts map first i
