-- One end of a triple more in the work list and in the classes.
-- Assumes nothing.
use Prim.Native.Nat.{ℕ, ◌*◌, ◌<◌}
use mathlib.Core.Path.{◌≡◌, refl, sym, ◌∙◌, ap, subst}
use mathlib.Core.Logic.{◌⊎◌, inl, inr, ⊎_elim}
use mathlib.Core.Bool.{true, false}
use mathlib.Core.List.{List, Memᴰ as Mem}
use native.Mathlib.Omega.{arith}
use native.Mathlib.Decide.{ℕ_discrete}
use lib.ListN.{length, get_or, set, length-set}
use lib.Seq.{get_or-set_same, get_or-set_other}
use Rattle.model.specs.declared.Triple.{Triple}
use Rattle.model.specs.declared.Vocabulary.{Vocabulary}
use Rattle.model.specs.Codes.{absent}
use Rattle.model.specs.Triples.{is_data}
use Rattle.model.specs.Roster.{unmarked, is_node}
use Rattle.model.specs.declared.Side.{Side}
use Rattle.model.specs.declared.Side.TheVariants.{Source as source, Target as target}
use Rattle.model.specs.Cliques.{end, Has, links}
use Rattle.theory.proofs.Tests.{not_both, bool_cases, and_true}
use Rattle.theory.specs.Tables.{In, HasData, by_side, Right}
use Rattle.theory.proofs.Weak.{has_data, has-node}
use Rattle.theory.proofs.Mapped.{node_test, node-below}
use Rattle.theory.proofs.Accepted.{room, below, has-marked, size-bounds}
use Rattle.union_find.specs.Roots.{root}
use Rattle.union_find.proofs.Laws.{set_at}
use Rattle.node_links.specs.Linking.{Sound, slot_of, Slots, Flags, Linked}
use Rattle.node_links.specs.Calls.{SlotLinked, EndLinkable, EndLinked}
use Rattle.node_links.proofs.Nodes.{sound-pair, sound_united, sound-one, sound-same}

-- ── slots ──
pub slot-below : (n p : ℕ) (e : Side) → p < n → slot_of n e p < 2 * n
slot-below n p source h = omega arith
slot-below n p target h = omega arith

slot_same : (n p q : ℕ) (e f : Side) → p < n → q < n → slot_of n f q ≡ slot_of n e p → (f ≡ e) × (q ≡ p)
slot_same n p q source source h k z = (refl, z)
slot_same n p q source target h k z = absurd (omega arith)
slot_same n p q target source h k z = absurd (omega arith)
slot_same n p q target target h k z = (refl, omega arith)

module _ (v : Vocabulary) where
  module _ (roster : List ℕ) (ts : List Triple) (R : Right v roster ts) where
    abbrev HasIn : Side → ℕ → ℕ → Type 0
    HasIn e n p = Has v roster (In ts) e n p

    abbrev slot : Side → ℕ → ℕ
    slot e p = slot_of (length roster) e p

    pub has_test : {e : Side} {n p : ℕ} → HasIn e n p → is_node ts n ≡ true
    has_test {n = n} h = node_test ts n (has-node v roster h).node

    has-below : {e : Side} {n p : ℕ} → HasIn e n p → n < length roster
    has-below {n = n} h = node-below (length roster) ts (below v roster ts R) n (has-node v roster h).node

    has_named : {e : Side} {n p : ℕ} → HasIn e n p → n ≡ absent → ⊥
    has_named h z = omega (arith, has-below h, room v roster ts R)

    has-property : {e : Side} {n p : ℕ} → HasIn e n p → p < length roster
    has-property h = omega (arith, (below v roster ts R h.by h.held).property, h.property)

    -- a slot is no entry of an unmarked code
    slot-other : (e : Side) (p m : ℕ) → m < length roster → unmarked roster p ≡ false → unmarked roster m ≡ true → slot e p ≡ m → ⊥
    slot-other source p m h a b z = not_both b (ap (unmarked roster) (sym z) ∙ a)
    slot-other target p m h a b z = omega arith

    -- fewer are seen
    pub linked-less : {S S' : Side → ℕ → ℕ → Type 0} {map work : List ℕ} → ((e : Side) (n p : ℕ) → S' e n p → S e n p) → Linked v roster ts S map work → Linked v roster ts S' map work
    linked-less f b = record {
      size = b.size;
      sound = b.sound;
      slots = record { held = b.slots.held; seen = λ e n p s. b.slots.seen e n p (f e n p s) };
      flags = record { raised = λ e n p s. b.flags.raised e n p (f e n p s); right = b.flags.right };
    }

    module _ (S S' : Side → ℕ → ℕ → Type 0) (old : (e : Side) (n p : ℕ) → S e n p → HasIn e n p) (known : (e : Side) (n p : ℕ) → S' e n p → HasIn e n p) where
      -- ── one node more at a property ──
      module _ (e : Side) (n p : ℕ) (h : HasIn e n p) (back : (f : Side) (m q : ℕ) → S' f m q → S f m q ⊎ ((f ≡ e) × (m ≡ n) × (q ≡ p))) where
        -- the node's own entry
        module _ (map work : List ℕ) (w : n < length work) where
          flag_slot : (f : Side) (q : ℕ) → unmarked roster q ≡ false → get_or (set work n n) (slot f q) 0 ≡ get_or work (slot f q) 0
          flag_slot f q u = get_or-set_other work n (slot f q) n 0 (slot-other f q n (has-below h) u h.plain)

          slots_flag : Slots v roster ts S' map work → Slots v roster ts S' map (set work n n)
          slots_flag b = record {
            held = λ f q i u k. let E = flag_slot f q u in subst (λ (z : ℕ). HasIn f z q) (sym E) (b.held f q i u (λ z. k (E ∙ z)));
            seen = λ f m q s.
                let E = flag_slot f q (has-marked v roster ts R (known f m q s)) in
                let x = b.seen f m q s in
                (λ z. x.0 (sym E ∙ z), ap (root map) E ∙ x.1);
          }

          flags_flag : Flags v roster ts S work → Flags v roster ts S' (set work n n)
          flags_flag b = record {
            raised = λ f m q s. set_at work n n w (λ y z. z ≡ y) m refl (λ k. ⊎_elim (λ o. b.raised f m q o) (λ x. absurd (k x.1)) (back f m q s));
            right = λ m i u. set_at work n n w (λ y z. (z ≡ absent → ⊥) → HasData v (In ts) y) m (λ k. has_data v roster h) (λ k. b.right m i u);
          }

        -- the first node of the slot
        module _ (map work : List ℕ) (w : slot e p < length work) (none : get_or work (slot e p) 0 ≡ absent) where
          slots-first : Slots v roster ts S map work → Slots v roster ts S' map (set work (slot e p) n)
          slots-first b = record {
            held = λ f q i u k. holds f q i u k (ℕ_discrete (slot f q) (slot e p));
            seen = λ f m q s. ⊎_elim (λ o. before f m q o) (λ x. now f m q x.0 x.1 x.2) (back f m q s);
          }
            where
              holds : (f : Side) (q : ℕ) → q < length roster → unmarked roster q ≡ false → (get_or (set work (slot e p) n) (slot f q) 0 ≡ absent → ⊥) → Dec (slot f q ≡ slot e p)
                  → HasIn f (get_or (set work (slot e p) n) (slot f q) 0) q
              holds f q i u k (yes z) = let x = slot_same (length roster) p q e f (has-property h) i z in rw (x.0, x.1, get_or-set_same work (slot e p) n 0 w) h
              holds f q i u k (no z) =
                  let E = get_or-set_other work (slot e p) (slot f q) n 0 z in
                  subst (λ (y : ℕ). HasIn f y q) (sym E) (b.held f q i u (λ y. k (E ∙ y)))

              before : (f : Side) (m q : ℕ) → S f m q
                  → (get_or (set work (slot e p) n) (slot f q) 0 ≡ absent → ⊥) × (root map (get_or (set work (slot e p) n) (slot f q) 0) ≡ root map m)
              before f m q o =
                  let x = b.seen f m q o in
                  let E = get_or-set_other work (slot e p) (slot f q) n 0 (λ z. x.0 (ap (λ (j : ℕ). get_or work j 0) z ∙ none)) in
                  (λ z. x.0 (sym E ∙ z), ap (root map) E ∙ x.1)

              now : (f : Side) (m q : ℕ) → f ≡ e → m ≡ n → q ≡ p
                  → (get_or (set work (slot e p) n) (slot f q) 0 ≡ absent → ⊥) × (root map (get_or (set work (slot e p) n) (slot f q) 0) ≡ root map m)
              now f m q a c d = rw (a, c, d, get_or-set_same work (slot e p) n 0 w) (has_named h, refl)

          flags-first : Flags v roster ts S work → Flags v roster ts S (set work (slot e p) n)
          flags-first b = record {
            raised = λ f m q o. same m (has-below (old f m q o)) (old f m q o).plain ∙ b.raised f m q o;
            right = λ m i u k. b.right m i u (λ z. k (same m i u ∙ z));
          }
            where
              same : (m : ℕ) → m < length roster → unmarked roster m ≡ true → get_or (set work (slot e p) n) m 0 ≡ get_or work m 0
              same m i u = get_or-set_other work (slot e p) m n 0 (λ z. slot-other e p m i (has-marked v roster ts R h) u (sym z))

        -- a later node of the slot
        module _ (map map' work : List ℕ) (named : get_or work (slot e p) 0 ≡ absent → ⊥) (one : root map' (get_or work (slot e p) 0) ≡ root map' n)
            (same : (x y : ℕ) → is_node ts x ≡ true → is_node ts y ≡ true → root map x ≡ root map y → root map' x ≡ root map' y) where
          slots-later : Slots v roster ts S map work → Slots v roster ts S' map' work
          slots-later b = record {
            held = b.held;
            seen = λ f m q s. ⊎_elim (λ o. before f m q o) (λ x. now f m q x.0 x.1 x.2) (back f m q s);
          }
            where
              before : (f : Side) (m q : ℕ) → S f m q → (get_or work (slot f q) 0 ≡ absent → ⊥) × (root map' (get_or work (slot f q) 0) ≡ root map' m)
              before f m q o =
                  let x = b.seen f m q o in
                  let y = old f m q o in
                  (x.0, same (get_or work (slot f q) 0) m (has_test (b.held f q (has-property y) (has-marked v roster ts R y) x.0)) (has_test y) x.1)

              now : (f : Side) (m q : ℕ) → f ≡ e → m ≡ n → q ≡ p → (get_or work (slot f q) 0 ≡ absent → ⊥) × (root map' (get_or work (slot f q) 0) ≡ root map' m)
              now f m q a c d = rw (a, c, d) (named, one)

        -- ── both ──
        module _ (map work map' between work' : List ℕ) (b : Linked v roster ts S map work) where
          slot-inside : slot e p < length work
          slot-inside = omega (arith, slot-below (length roster) p e (has-property h), b.size)

          finish : length between ≡ length work → Sound v roster ts map' → Slots v roster ts S' map' between → Flags v roster ts S between → work' ≡ set between n n → Linked v roster ts S' map' work'
          finish len s k f q =
              let w : n < length between = omega (arith, has-below h, b.size) in
              rw q (record {
                size = length-set between n n ∙ len ∙ b.size;
                sound = s;
                slots = slots_flag map' between w k;
                flags = flags_flag map' between w f;
              })

          node-linked : SlotLinked map work map' between (slot e p) n → work' ≡ set between n n → Linked v roster ts S' map' work'
          node-linked d q = go (ℕ_discrete (get_or work (slot e p) 0) absent)
            where
              go : Dec (get_or work (slot e p) 0 ≡ absent) → Linked v roster ts S' map' work'
              go (yes z) =
                  let x = d.first z in
                  finish (ap length x.1 ∙ length-set work (slot e p) n)
                  (rw x.0 b.sound)
                  (rw (x.0, x.1) (slots-first map work slot-inside z b.slots))
                  (rw x.1 (flags-first map work slot-inside z b.flags)) q
              go (no z) =
                  let x = d.later z in
                  let m = get_or work (slot e p) 0 in
                  let k = b.slots.held e p (has-property h) (has-marked v roster ts R h) z in
                  finish (ap length x.1)
                  (sound_united v roster ts map b.sound m n (has_test k) (has_test h) map' x.0 (by_side k h))
                  (rw x.1 (slots-later map map' work z (sound-one v roster ts map b.sound m n (has_test k) (has_test h) map' x.0)
                  (sound-same v roster ts map b.sound m n (has_test k) (has_test h) map' x.0) b.slots))
                  (rw x.1 b.flags) q

      -- ── an end of a triple ──
      module _ (e : Side) (t : Triple) (m : Mem t ts)
          (back : (f : Side) (n q : ℕ) → S' f n q → S f n q ⊎ ((links v roster e t ≡ true) × (f ≡ e) × (n ≡ end e t) × (q ≡ t.property))) (map work : List ℕ)
          (b : Linked v roster ts S map work) where
        has_end : links v roster e t ≡ true → HasIn e (end e t) t.property
        unfolding links
        has_end h = let x = and_true (is_data v t) _ h in record { by = t; held = m; data_triple = x.0; is_end = refl; plain = x.1; property = refl }

        pub end-linkable : EndLinkable v roster e t map work
        end-linkable = record {
          below = below v roster ts R t m;
          small = (size-bounds (length roster) R.size).1;
          size = b.size;
          pair = λ h z.
              let k = has_end h in
              sound-pair v roster ts map b.sound (get_or work (slot e t.property) 0) (end e t)
              (has_test (b.slots.held e t.property (has-property k) (has-marked v roster ts R k) z)) (has_test k);
        }

        pub end-linked : (map' work' : List ℕ) → EndLinked v roster e t map work map' work' → Linked v roster ts S' map' work'
        end-linked map' work' d = ⊎_elim
            (λ h. node-linked e (end e t) t.property (has_end h) (λ f n q s. ⊎_elim (λ o. inl o) (λ x. inr (x.1, x.2, x.3)) (back f n q s))
            map work map' d.between work' b (d.linked h).0 (d.linked h).1)
            (λ h. let x = d.skipped h in
            rw (x.0, x.1) (linked-less (λ f n q s. ⊎_elim (λ o. o) (λ y. absurd (not_both y.0 h)) (back f n q s)) b))
            (bool_cases (links v roster e t))
