-- Threading and settling, step by step: in the end each node has the smallest node with both its labels.
-- Assumes nothing.
use Prim.Native.Nat.{ℕ, ◌+◌, ◌≤◌, ◌<◌}
use mathlib.Core.Path.{◌≡◌, refl, sym, subst, ◌∙◌, ap}
use mathlib.Core.Logic.{◌⊎◌, inl, inr, ⊎_elim}
use mathlib.Core.List.{List}
use native.Mathlib.Omega.{arith}
use native.Mathlib.Decide.{ℕ_discrete}
use lib.ListN.{length, get_or, set, length-set}
use lib.Seq.{get_or-set_same, get_or-set_other}
use lib.Dec.{ltb}
use borrow.Author.Tests.{ltb-true, ltb-false}
use Rattle.theory.proofs.Tests.{bool_cases}
use Rattle.model.specs.Codes.{absent}
use Rattle.thread_settling.specs.Threads.{Least, none, some, Groups, fresh, stale}
use Rattle.thread_settling.specs.Threads as threads

get_same : (l : List ℕ) (k x : ℕ) → k < length l → get_or (set l k x) k 0 ≡ x
get_same l k x h = get_or-set_same l k x 0 h

get_other : (l : List ℕ) (k j x : ℕ) → (j ≡ k → ⊥) → get_or (set l k x) j 0 ≡ get_or l j 0
get_other l k j x f = get_or-set_other l k j x 0 f

pub least_as : {P Q : ℕ → Type 0} {r : ℕ} → ((m : ℕ) → P m → Q m) → ((m : ℕ) → Q m → P m) → Least P r → Least Q r
least_as f g (none e h) = none e (λ m q. h m (g m q))
least_as {r = r} f g (some p h) = some (f r p) (λ m q. h m (g m q))

module _ (gr : Groups) where
  abbrev n : ℕ
  n = gr.n

  abbrev D : ℕ → Type 0
  D = threads.GroupNode gr

  abbrev Label : ℕ → Type 0
  Label = threads.Label gr

  abbrev A : ℕ → ℕ
  A = gr.A

  abbrev B : ℕ → ℕ
  B = gr.B

  abbrev From : ℕ → ℕ → ℕ → Type 0
  From = threads.From gr

  abbrev Both : ℕ → ℕ → ℕ → Type 0
  Both = threads.Both gr

  abbrev Stamp : ℕ → ℕ → ℕ → ℕ → Type 0
  Stamp = threads.Stamp gr

  abbrev Threaded : ℕ → List ℕ → List ℕ → List ℕ → List ℕ → Type 0
  Threaded = threads.Threaded gr

  abbrev Walked : ℕ → ℕ → ℕ → List ℕ → List ℕ → List ℕ → List ℕ → Type 0
  Walked = threads.Walked gr

  abbrev Settled : ℕ → List ℕ → List ℕ → List ℕ → Type 0
  Settled = threads.Settled gr

  module _ (L : threads.LabelsApart gr) where
    -- ── threading ──
    module _ (i : ℕ) (map₀ map work₀ work : List ℕ) (T : Threaded (i + 1) map₀ map work₀ work) where
      -- a code that is no node
      pub thread_none : (D i → ⊥) → Threaded i map₀ map work₀ work
      thread_none f =
          record {
            map_size = T.map_size;
            work_size = T.work_size;
            heads = λ s h. least_as (λ m p. record { node = p.node; label = p.label; high = omega (arith, p.high) }) (λ m p. go s m p (ℕ_discrete m i)) (T.heads s h);
            nexts = λ m d l. next m d l (ℕ_discrete m i);
            before = λ m d l. T.before m d (omega arith);
            rest = T.rest;
            labels = T.labels;
            behind = T.behind;
          }
        where
          go : (s m : ℕ) → From s i m → Dec (m ≡ i) → From s (i + 1) m
          go s m p (yes e) = absurd (f (subst D e p.node))
          go s m p (no e) = record { node = p.node; label = p.label; high = omega (arith, p.high) }

          next : (m : ℕ) → D m → i ≤ m → Dec (m ≡ i) → Least (From (A m) (m + 1)) (get_or map m 0)
          next m d l (yes e) = absurd (f (subst D e d))
          next m d l (no e) = T.nexts m d (omega arith)

      -- a node: its entry is the head of its thread, and it becomes the head
      pub thread_node : D i → i < length map → A i < length work → Threaded i map₀ (set map i (get_or work (A i) 0)) work₀ (set work (A i) i)
      thread_node d hm hw =
          record {
            map_size = length-set map i _ ∙ T.map_size;
            work_size = length-set work (A i) i ∙ T.work_size;
            heads = λ s h. head s h (ℕ_discrete s (A i));
            nexts = λ m e l. next m e l (ℕ_discrete m i);
            before = λ m e l. get_other map i m _ (omega arith) ∙ T.before m e (omega arith);
            rest = λ m f. get_other map i m _ (λ q. f (subst D (sym q) d)) ∙ T.rest m f;
            labels = λ m e. get_other work (A i) m i (λ q. L.apart (A i) (L.first i d) (subst D q e)) ∙ T.labels m e;
            behind = λ m l. get_other work (A i) m i (let b = L.label_below (A i) (L.first i d) in omega arith) ∙ T.behind m l;
          }
        where
          more : (s m : ℕ) → (s ≡ A i → ⊥) → From s i m → Dec (m ≡ i) → From s (i + 1) m
          more s m f p (yes e) = absurd (f (sym p.label ∙ ap A e))
          more s m f p (no e) = record { node = p.node; label = p.label; high = omega (arith, p.high) }

          head : (s : ℕ) → Label s → Dec (s ≡ A i) → Least (From s i) (get_or (set work (A i) i) s 0)
          head s h (yes e) =
              subst (Least (From s i)) (sym (ap (λ (z : ℕ). get_or (set work (A i) i) z 0) e ∙ get_same work (A i) i hw))
              (some (record { node = d; label = sym e; high = omega arith }) (λ m p. p.high))
          head s h (no e) =
              subst (Least (From s i)) (sym (get_other work (A i) s i e))
              (least_as (λ m p. record { node = p.node; label = p.label; high = omega (arith, p.high) }) (λ m p. more s m e p (ℕ_discrete m i)) (T.heads s h))

          next : (m : ℕ) → D m → i ≤ m → Dec (m ≡ i) → Least (From (A m) (m + 1)) (get_or (set map i (get_or work (A i) 0)) m 0)
          next m e l (yes q) =
              subst (λ (z : ℕ). Least (From (A z) (z + 1)) (get_or (set map i (get_or work (A i) 0)) z 0)) (sym q)
              (subst (Least (From (A i) (i + 1))) (sym (get_same map i _ hm)) (T.heads (A i) (L.first i d)))
          next m e l (no q) = subst (Least (From (A m) (m + 1))) (sym (get_other map i m _ q)) (T.nexts m e (omega arith))

    -- ── settling a thread ──
    module _ (a low c : ℕ) (map₀ map work₀ work : List ℕ) (W : Walked a low c map₀ map work₀ work) (h : c ≡ absent → ⊥) where
      at-node : From a low c
      at-node = go W.current
        where
          go : Least (From a low) c → From a low c
          go (none e f) = absurd (h e)
          go (some p f) = p

      least-here : (m : ℕ) → From a low m → c ≤ m
      least-here m p = go W.current
        where
          go : Least (From a low) c → c ≤ m
          go (none e f) = absurd (f m p)
          go (some q f) = f m p

      -- a node of the thread below c is settled
      below-node : (m : ℕ) → D m → A m ≡ a → m < c → Least (Both a (B m)) (get_or map m 0)
      below-node m d q k =
          ⊎_elim (λ e. W.settled m d q (ltb-true m low e)) (λ e. absurd (let y = least-here m (record { node = d; label = q; high = ltb-false m low e }) in omega arith))
          (bool_cases (ltb m low))

      module _ (s : ℕ) (is : s ≡ get_or work (n + B c) 0) where
        stamp-here : Stamp a low (B c) s
        stamp-here = subst (Stamp a low (B c)) (sym is) (W.stamps (B c) (L.second c at-node.node))

        later : (b m : ℕ) → (b ≡ B c → ⊥) → ((k : ℕ) → Both a b k → low ≤ k) → Both a b m → c + 1 ≤ m
        later b m f g p =
            let l = least-here m (record { node = p.node; label = p.first; high = g m p }) in
            let ne : m ≡ c → ⊥ = λ q. f (sym p.second ∙ ap B q) in
            omega arith

        still : (b x : ℕ) → (b ≡ B c → ⊥) → Stamp a low b x → Stamp a (c + 1) b x
        still b x f (fresh p l g) = fresh p (omega (arith, at-node.high)) g
        still b x f (stale e g) = stale e (λ m p. later b m f g p)

        next-current : (x : ℕ) → x ≡ get_or map c 0 → Least (From a (c + 1)) x
        next-current x e = subst (Least (From a (c + 1))) (sym e) (W.threaded c at-node.node at-node.label at-node.high)

        pub settle_old : (s ≡ absent → ⊥) → get_or work s 0 ≡ a → c < length map → (x : ℕ) → x ≡ get_or map c 0 → Walked a (c + 1) x map₀ (set map c s) work₀ work
        settle_old hs ha hm x e = go stamp-here
          where
            go : Stamp a low (B c) s → Walked a (c + 1) x map₀ (set map c s) work₀ work
            go (stale (inl q) g) = absurd (hs q)
            go (stale (inr q) g) = absurd (let z = W.labels s q.0 in omega (arith, q.1))
            go (fresh p l g) =
                record {
                  map_size = length-set map c s ∙ W.map_size;
                  work_size = W.work_size;
                  heads = W.heads;
                  current = next-current x e;
                  settled = λ m d q k. set_at m d q k (ℕ_discrete m c);
                  threaded = λ m d q k. subst (Least (From a (m + 1))) (sym (get_other map c m s (omega arith))) (W.threaded m d q (omega (arith, at-node.high)));
                  others = λ m d f. get_other map c m s (λ q. f (ap A q ∙ at-node.label)) ∙ W.others m d f;
                  rest = λ m f. get_other map c m s (λ q. f (subst D (sym q) at-node.node)) ∙ W.rest m f;
                  labels = W.labels;
                  seconds = W.seconds;
                  stamps = λ b k. stamp-at b k (ℕ_discrete b (B c));
                }
              where
                set_at : (m : ℕ) → D m → A m ≡ a → m < c + 1 → Dec (m ≡ c) → Least (Both a (B m)) (get_or (set map c s) m 0)
                set_at m d q k (yes z) = subst (λ (w : ℕ). Least (Both a (B w)) (get_or (set map c s) w 0)) (sym z) (subst (Least (Both a (B c))) (sym (get_same map c s hm)) (some p g))
                set_at m d q k (no z) = subst (Least (Both a (B m))) (sym (get_other map c m s z)) (below-node m d q (omega arith))

                stamp-at : (b : ℕ) → Label b → Dec (b ≡ B c) → Stamp a (c + 1) b (get_or work (n + b) 0)
                stamp-at b k (yes z) = subst (λ (w : ℕ). Stamp a (c + 1) w (get_or work (n + w) 0)) (sym z) (subst (Stamp a (c + 1) (B c)) is (fresh p (omega (arith, at-node.high)) g))
                stamp-at b k (no z) = still b _ z (W.stamps b k)

        -- the node's stamp is of no thread or of one before: the node is the first with its labels
        pub settle_new : (s ≡ absent) ⊎ (get_or work s 0 ≡ a → ⊥) → c < length map → n + B c < length work → (x : ℕ) → x ≡ get_or map c 0
            → Walked a (c + 1) x map₀ (set map c c) work₀ (set work (n + B c) c)
        settle_new other hm hw x e = go stamp-here
          where
            go : Stamp a low (B c) s → Walked a (c + 1) x map₀ (set map c c) work₀ (set work (n + B c) c)
            go (fresh p l g) =
                absurd
                (⊎_elim (λ q. let z = L.below s p.node in omega (arith, L.small)) (λ f. f (W.labels s p.node ∙ p.first)) other)
            go (stale w g) =
                record {
                  map_size = length-set map c c ∙ W.map_size;
                  work_size = length-set work (n + B c) c ∙ W.work_size;
                  heads = λ b k. get_other work (n + B c) b c (let z = L.label_below b k in omega arith) ∙ W.heads b k;
                  current = next-current x e;
                  settled = λ m d q k. set_at m d q k (ℕ_discrete m c);
                  threaded = λ m d q k. subst (Least (From a (m + 1))) (sym (get_other map c m c (omega arith))) (W.threaded m d q (omega (arith, at-node.high)));
                  others = λ m d f. get_other map c m c (λ q. f (ap A q ∙ at-node.label)) ∙ W.others m d f;
                  rest = λ m f. get_other map c m c (λ q. f (subst D (sym q) at-node.node)) ∙ W.rest m f;
                  labels = λ m d. get_other work (n + B c) m c (let z = L.below m d in omega arith) ∙ W.labels m d;
                  seconds = λ m d. get_other work (n + B c) (n + m) c (λ q. L.apart (B c) (L.second c at-node.node) (subst D (cancel m q) d)) ∙ W.seconds m d;
                  stamps = λ b k. stamp-at b k (ℕ_discrete b (B c));
                }
              where
                cancel : (m : ℕ) → n + m ≡ n + B c → m ≡ B c
                cancel m q = omega arith

                own : Both a (B c) c
                own = record { node = at-node.node; first = at-node.label; second = refl }

                lowest : (m : ℕ) → Both a (B c) m → c ≤ m
                lowest m p = least-here m (record { node = p.node; label = p.first; high = g m p })

                set_at : (m : ℕ) → D m → A m ≡ a → m < c + 1 → Dec (m ≡ c) → Least (Both a (B m)) (get_or (set map c c) m 0)
                set_at m d q k (yes z) = subst (λ (w : ℕ). Least (Both a (B w)) (get_or (set map c c) w 0)) (sym z) (subst (Least (Both a (B c))) (sym (get_same map c c hm)) (some own lowest))
                set_at m d q k (no z) = subst (Least (Both a (B m))) (sym (get_other map c m c z)) (below-node m d q (omega arith))

                stamp-at : (b : ℕ) → Label b → Dec (b ≡ B c) → Stamp a (c + 1) b (get_or (set work (n + B c) c) (n + b) 0)
                stamp-at b k (yes z) =
                    subst (λ (w : ℕ). Stamp a (c + 1) w (get_or (set work (n + B c) c) (n + w) 0)) (sym z)
                    (subst (Stamp a (c + 1) (B c)) (sym (get_same work (n + B c) c hw)) (fresh own (omega arith) lowest))
                stamp-at b k (no z) = subst (Stamp a (c + 1) b) (sym (get_other work (n + B c) (n + b) c (λ q. z (cancel b q)))) (still b _ z (W.stamps b k))

    -- ── all threads ──
    pub settled-start : (map₀ map work₀ work : List ℕ) → Threaded 0 map₀ map work₀ work → length work₀ ≡ n + n
        → ((m : ℕ) → D m → get_or work₀ (n + m) 0 ≡ B m) → ((b : ℕ) → Label b → get_or work₀ (n + b) 0 ≡ absent)
        → Settled 0 map₀ map work
    settled-start map₀ map work₀ work T l t s =
        record {
          map_size = T.map_size;
          work_size = T.work_size ∙ l;
          heads = T.heads;
          done = λ m d k. absurd (omega arith);
          left = λ m d k. T.nexts m d (omega arith);
          rest = T.rest;
          labels = T.labels;
          seconds = λ m d. T.behind (n + m) (omega arith) ∙ t m d;
          stamps = λ b k. inl (T.behind (n + b) (omega arith) ∙ s b k);
        }

    module _ (a : ℕ) (map₀ map work : List ℕ) (S : Settled a map₀ map work) where
      -- a code that is no label has no thread
      pub settled-skip : (Label a → ⊥) → Settled (a + 1) map₀ map work
      settled-skip f =
          record {
            map_size = S.map_size;
            work_size = S.work_size;
            heads = S.heads;
            done = λ m d l. S.done m d (let ne : A m ≡ a → ⊥ = λ q. f (subst Label q (L.first m d)) in omega arith);
            left = λ m d l. S.left m d (omega arith);
            rest = S.rest;
            labels = S.labels;
            seconds = S.seconds;
            stamps = λ b k. ⊎_elim (λ q. inl q) (λ q. inr (q.0, omega (arith, q.1))) (S.stamps b k);
          }

      -- a walk begins at the head of a thread
      pub walk_start : Label a → Walked a 0 (get_or work a 0) map map work work
      walk_start k =
          record {
            map_size = refl;
            work_size = refl;
            heads = λ s j. refl;
            current = S.heads a k;
            settled = λ m d q l. absurd (omega arith);
            threaded = λ m d q l. subst (λ (z : ℕ). Least (From z (m + 1)) (get_or map m 0)) q (S.left m d (omega arith));
            others = λ m d f. refl;
            rest = λ m f. refl;
            labels = S.labels;
            seconds = S.seconds;
            stamps = λ b j. stale (S.stamps b j) (λ m p. omega arith);
          }

      -- and ends where no node is left
      pub walk_end : (low c : ℕ) (map' work' : List ℕ) → Walked a low c map map' work work' → c ≡ absent → Settled (a + 1) map₀ map' work'
      walk_end low c map' work' W e =
          record {
            map_size = W.map_size ∙ S.map_size;
            work_size = W.work_size ∙ S.work_size;
            heads = λ s j. subst (Least (From s 0)) (sym (W.heads s j)) (S.heads s j);
            done = λ m d l. at m d l (ℕ_discrete (A m) a);
            left = λ m d l. subst (Least (From (A m) (m + 1))) (sym (W.others m d (omega arith))) (S.left m d (omega arith));
            rest = λ m f. W.rest m f ∙ S.rest m f;
            labels = W.labels;
            seconds = W.seconds;
            stamps = λ b j. stamp (W.stamps b j);
          }
        where
          none_left : (m : ℕ) → From a low m → ⊥
          none_left m p = go W.current
            where
              go : Least (From a low) c → ⊥
              go (none q f) = f m p
              go (some q f) = let z = L.below c q.node in omega (arith, L.small)

          at : (m : ℕ) → D m → A m < a + 1 → Dec (A m ≡ a) → Least (Both (A m) (B m)) (get_or map' m 0)
          at m d l (yes q) =
              subst (λ (z : ℕ). Least (Both z (B m)) (get_or map' m 0)) (sym q)
              (⊎_elim (λ k. W.settled m d q (ltb-true m low k)) (λ k. absurd (none_left m (record { node = d; label = q; high = ltb-false m low k }))) (bool_cases (ltb m low)))
          at m d l (no q) = subst (Least (Both (A m) (B m))) (sym (W.others m d q)) (S.done m d (omega arith))

          stamp : {b x : ℕ} → Stamp a low b x → (x ≡ absent) ⊎ (D x × (A x < a + 1))
          stamp (fresh p l g) = inr (p.node, omega (arith, p.first))
          stamp (stale (inl q) g) = inl q
          stamp (stale (inr q) g) = inr (q.0, omega (arith, q.1))

    -- every node has the smallest node with both its labels
    pub settled-end : (map₀ map work : List ℕ) → Settled n map₀ map work → (m : ℕ) → D m → Least (Both (A m) (B m)) (get_or map m 0)
    settled-end map₀ map work S m d = S.done m d (L.label_below (A m) (L.first m d))
