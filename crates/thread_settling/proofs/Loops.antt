-- The steps of the loops: threading all nodes, walking a thread, settling all threads.
-- Assumes nothing.
use Prim.Native.Nat.{ℕ, ◌+◌, ◌-◌, ◌<◌, ◌≤◌}
use mathlib.Core.Path.{◌≡◌, refl, sym, subst, ◌∙◌, ap}
use mathlib.Core.Logic.{inl, inr, ⊎_elim}
use mathlib.Core.Bool.{true, false, not, ◌&&◌}
use mathlib.Core.List.{List}
use native.Mathlib.Omega.{arith}
use lib.Dec.{eqb}
use lib.ListN.{length, get_or, set}
use Rattle.model.specs.declared.Vocabulary.{Vocabulary}
use Rattle.model.specs.Codes.{absent}
use Rattle.model.specs.Roster.{unmarked}
use Rattle.theory.proofs.Tests.{bool_cases, not_both}
use Rattle.node_cliques.specs.Labels.{is_label}
use Rattle.thread_settling.specs.Threads.{Least, none, some, Groups, GroupNode, Label, From, Threaded, Walked, Settled, fresh, stale}
use Rattle.thread_settling.specs.Calls.{data_node, Threadable, NodeThreaded, Labelled, stamp_of, stamped, Settleable, NodeSettled, Walkable, Settling}
use Rattle.thread_settling.proofs.Stores.{stamp-is-node, stamp-is-other}
use Rattle.thread_settling.proofs.Threads.{thread_none, thread_node, settle_old, settle_new, walk_start, walk_end, settled-skip}

-- ── threading all nodes ──
module _ (g : Groups) (roster map₀ work₀ : List ℕ) (L : Labelled g roster map₀ work₀) where
  pub threads_start : (i : ℕ) → i ≡ length map₀ → Threaded g i map₀ map₀ work₀ work₀
  threads_start i e =
      record {
        map_size = refl;
        work_size = refl;
        heads = λ s k. none (L.heads s k) (λ m p. let b = L.sites.below m p.node in omega (arith, p.high, L.map_size));
        nexts = λ m d l. absurd (let b = L.sites.below m d in omega (arith, L.map_size));
        before = λ m d l. refl;
        rest = λ m f. refl;
        labels = L.firsts;
        behind = λ m l. refl;
      }

  module _ (j i : ℕ) (map work : List ℕ) (T : Threaded g j map₀ map work₀ work) (le : j ≤ length map₀) (e : j ≡ i + 1) where
    -- the entry that is threaded next is as it was
    entry-before : get_or map i 0 ≡ get_or map₀ i 0
    entry-before = ⊎_elim (λ d. T.before i d (omega arith)) (λ d. T.rest i (λ h. not_both h d)) (bool_cases (g.node i))

    same_test : data_node roster map i ≡ g.node i
    unfolding data_node
    same_test = ap (λ (x : ℕ). not (eqb x absent) && unmarked roster i) entry-before ∙ sym (L.nodes i (omega (arith, L.map_size)))

    pub thread_ready : Threadable roster map work i
    thread_ready =
        record {
          in_roster = omega (arith, L.roster_size, L.map_size);
          in_map = omega (arith, T.map_size);
          in_work = omega (arith, T.work_size, L.work_size, L.map_size);
          small = omega (arith, L.sites.small, L.map_size);
          label = λ h.
              let d : GroupNode g i = sym same_test ∙ h in
              let b = L.sites.label_below (g.A i) (L.sites.first i d) in
              omega (arith, T.labels i d, T.work_size, L.work_size);
        }

    pub threads_step : (map' work' : List ℕ) → NodeThreaded roster map work map' work' i → Threaded g i map₀ map' work₀ work'
    threads_step map' work' N = ⊎_elim linked skipped (bool_cases (g.node i))
      where
        T' : Threaded g (i + 1) map₀ map work₀ work
        T' = subst (λ (z : ℕ). Threaded g z map₀ map work₀ work) e T

        linked : GroupNode g i → Threaded g i map₀ map' work₀ work'
        linked d =
            let l : get_or work i 0 ≡ g.A i = T.labels i d in
            let b = L.sites.label_below (g.A i) (L.sites.first i d) in
            let w = N.linked (same_test ∙ d) in
            let X = thread_node g L.sites i map₀ map work₀ work T' d thread_ready.in_map (omega (arith, T.work_size, L.work_size)) in
            let m : map' ≡ set map i (get_or work (g.A i) 0) = w.0 ∙ ap (λ (z : ℕ). set map i (get_or work z 0)) l in
            let k : work' ≡ set work (g.A i) i = w.1 ∙ ap (λ (z : ℕ). set work z i) l in
            subst (λ (z : List ℕ). Threaded g i map₀ z work₀ work') (sym m) (subst (λ (z : List ℕ). Threaded g i map₀ (set map i (get_or work (g.A i) 0)) work₀ z) (sym k) X)

        skipped : g.node i ≡ false → Threaded g i map₀ map' work₀ work'
        skipped d =
            let w = N.skipped (same_test ∙ d) in
            let X = thread_none g L.sites i map₀ map work₀ work T' (λ h. not_both h d) in
            subst (λ (z : List ℕ). Threaded g i map₀ z work₀ work') (sym w.0) (subst (λ (z : List ℕ). Threaded g i map₀ map work₀ z) (sym w.1) X)

  pub threads_end : (i : ℕ) (map work : List ℕ) → Threaded g i map₀ map work₀ work → i ≡ 0 → Threaded g 0 map₀ map work₀ work
  threads_end i map work T e = subst (λ (z : ℕ). Threaded g z map₀ map work₀ work) e T

-- ── walking a thread ──
-- the walk is at c, wherever that is
pub record Walking (g : Groups) (n a c : ℕ) (map₀ map work₀ work : List ℕ) : Type 0 where
  pub low : ℕ
  pub state : Walked g a low c map₀ map work₀ work

module _ (g : Groups) (before map₀ work₀ : List ℕ) (n a : ℕ) (K : Walkable g before map₀ work₀ n a) where
  map-length : length map₀ ≡ n
  map-length = K.state.map_size ∙ K.map_size ∙ K.size

  work-length : length work₀ ≡ n + n
  work-length = K.state.work_size ∙ ap (λ (z : ℕ). z + z) K.size

  pub walking_start : (w c : ℕ) → w ≡ a → c ≡ get_or work₀ w 0 → Walking g n a c map₀ map₀ work₀ work₀
  walking_start w c e q =
      record {
        low = 0;
        state = subst (λ (z : ℕ). Walked g a 0 z map₀ map₀ work₀ work₀) (sym (q ∙ ap (λ (z : ℕ). get_or work₀ z 0) e))
            (walk_start g K.sites a before map₀ work₀ K.state K.label);
      }

  module _ (c : ℕ) (map work : List ℕ) (W : Walking g n a c map₀ map work₀ work) where
    S : Walked g a W.low c map₀ map work₀ work
    S = W.state

    pub walking_end : c ≡ absent → Settled g (a + 1) before map work
    walking_end e = walk_end g K.sites a before map₀ work₀ K.state W.low c map work S e

    module _ (h : c ≡ absent → ⊥) (i : ℕ) (q : i ≡ c) where
      here : From g a W.low c
      here = go S.current
        where
          go : Least (From g a W.low) c → From g a W.low c
          go (none e f) = absurd (h e)
          go (some p f) = p

      at_second : get_or work (n + i) 0 ≡ g.B c
      at_second = (λ j. get_or work (sym K.size j + q j) 0) ∙ S.seconds c here.node

      label-second : Label g (g.B c)
      label-second = K.sites.second c here.node

      -- a stamp is a node
      stamp-below : (s : ℕ) → s ≡ stamp_of work n i → (s ≡ absent → ⊥) → s < n
      stamp-below s e f = go (S.stamps (g.B c) label-second)
        where
          is : s ≡ get_or work (g.n + g.B c) 0
          is = e ∙ (λ j. get_or work (sym K.size j + at_second j) 0)

          node : GroupNode g (get_or work (g.n + g.B c) 0) → s < n
          node d = let b = K.sites.below _ d in omega (arith, K.size, is)

          go : Rattle.thread_settling.specs.Threads.Stamp g a W.low (g.B c) (get_or work (g.n + g.B c) 0) → s < n
          go (fresh p l k) = node p.node
          go (stale (inl z) k) = absurd (f (is ∙ z))
          go (stale (inr z) k) = node z.0

      pub settle_ready : Settleable map work n i
      settle_ready =
          let b = K.sites.below c here.node in
          let s = K.sites.label_below (g.B c) label-second in
          record {
            in_map = omega (arith, S.map_size, map-length, K.size);
            small = omega (arith, K.sites.small);
            label = omega (arith, S.work_size, work-length, K.size);
            at_label = omega (arith, at_second, S.work_size, work-length, K.size);
            stamp = λ f. let z = stamp-below (stamp_of work n i) refl f in omega (arith, S.work_size, work-length);
          }

      pub walking_step : (map' work' : List ℕ) (r : ℕ) → NodeSettled map work map' work' n a i r → Walking g n a r map₀ map' work₀ work'
      walking_step map' work' r N = record { low = c + 1; state = ⊎_elim joins opens (bool_cases (stamped work (stamp_of work n i) a)) }
        where
          is : stamp_of work n i ≡ get_or work (g.n + g.B c) 0
          is = λ j. get_or work (sym K.size j + at_second j) 0

          next : r ≡ get_or map c 0
          next = N.next ∙ ap (λ (z : ℕ). get_or map z 0) q

          in_map : c < length map
          in_map = omega (arith, settle_ready.in_map)

          joins : stamped work (stamp_of work n i) a ≡ true → Walked g a (c + 1) r map₀ map' work₀ work'
          joins t =
              let w = N.old t in
              let z = stamp-is-node work (stamp_of work n i) a t in
              let X = settle_old g K.sites a W.low c map₀ map work₀ work S h (stamp_of work n i) is z.0 z.1 in_map r next in
              let m : map' ≡ set map c (stamp_of work n i) = w.0 ∙ ap (λ (y : ℕ). set map y (stamp_of work n i)) q in
              subst (λ (y : List ℕ). Walked g a (c + 1) r map₀ y work₀ work') (sym m) (subst (λ (y : List ℕ). Walked g a (c + 1) r map₀ (set map c (stamp_of work n i)) work₀ y) (sym w.1) X)

          opens : stamped work (stamp_of work n i) a ≡ false → Walked g a (c + 1) r map₀ map' work₀ work'
          opens t =
              let w = N.new t in
              let in_work : g.n + g.B c < length work = omega (arith, settle_ready.at_label, at_second, K.size) in
              let X = settle_new g K.sites a W.low c map₀ map work₀ work S h (stamp_of work n i) is (stamp-is-other work (stamp_of work n i) a t) in_map in_work r next in
              let m : map' ≡ set map c c = w.0 ∙ (λ j. set map (q j) (q j)) in
              let k : work' ≡ set work (g.n + g.B c) c = w.1 ∙ (λ j. set work (sym K.size j + at_second j) (q j)) in
              subst (λ (y : List ℕ). Walked g a (c + 1) r map₀ y work₀ work') (sym m) (subst (λ (y : List ℕ). Walked g a (c + 1) r map₀ (set map c c) work₀ y) (sym k) X)

      -- the next node is absent or higher
      pub walking_less : (r : ℕ) → r ≡ get_or map i 0 → absent - r < absent - c
      walking_less r e = go (S.threaded c here.node here.label here.high)
        where
          is : r ≡ get_or map c 0
          is = e ∙ ap (λ (z : ℕ). get_or map z 0) q

          low : c < absent
          low = let b = K.sites.below c here.node in omega (arith, K.sites.small)

          go : Least (From g a (c + 1)) (get_or map c 0) → absent - r < absent - c
          go (none z f) = omega (arith, is, low)
          go (some p f) = omega (arith, is, low, p.high)

-- ── settling all threads ──
module _ (v : Vocabulary) (g : Groups) (before roster map work : List ℕ) (a : ℕ) (K : Settling v g before roster map work a) (l : a < length roster) where
  label_test : g.label a ≡ is_label v roster a
  label_test = K.label_tests a (omega (arith, K.roster_size))

  onward : (map' work' : List ℕ) → Settled g (a + 1) before map' work' → Settling v g before roster map' work' (a + 1)
  onward map' work' S = record { sites = K.sites; roster_size = K.roster_size; map_size = K.map_size; label_tests = K.label_tests; state = S }

  pub labels-skip : is_label v roster a ≡ false → Settling v g before roster map work (a + 1)
  labels-skip f = onward map work (settled-skip g K.sites a before map work K.state (λ h. not_both h (label_test ∙ f)))

  module _ (t : is_label v roster a ≡ true) (k : ℕ) (e : k ≡ a) where
    pub walk-ready : Walkable g before map work (length roster) k
    walk-ready =
        record {
          sites = K.sites;
          size = sym K.roster_size;
          map_size = K.map_size;
          label = ap g.label e ∙ label_test ∙ t;
          state = subst (λ (z : ℕ). Settled g z before map work) (sym e) K.state;
        }

    pub labels-walk : (map' work' : List ℕ) → (Walkable g before map work (length roster) k → Settled g (k + 1) before map' work') → Settling v g before roster map' work' (a + 1)
    labels-walk map' work' f = onward map' work' (subst (λ (z : ℕ). Settled g (z + 1) before map' work') e (f walk-ready))

pub labels-end : (v : Vocabulary) (g : Groups) (before roster map work : List ℕ) (a : ℕ) → Settling v g before roster map work a → a ≤ length roster → length roster ≤ a
    → Settling v g before roster map work (length roster)
labels-end v g before roster map work a K x y = let e : a ≡ length roster = omega arith in subst (λ (z : ℕ). Settling v g before roster map work z) e K
