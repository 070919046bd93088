-- Every node becomes a class of its own, and two classes become one.
-- Assumes nothing.
use Prim.Native.Nat.{ℕ, ◌+◌, ◌<◌}
use mathlib.Core.Path.{◌≡◌, refl, sym, ◌∙◌, ap, subst}
use mathlib.Core.Logic.{inl, inr, ⊎_elim}
use mathlib.Core.Bool.{true}
use mathlib.Core.List.Memᴰ.{not-nil as no-mem}
use mathlib.Core.List.{List}
use native.Mathlib.Omega.{arith}
use lib.ListN.{length, get_or, set, length-set}
use Rattle.model.specs.declared.Triple.{Triple}
use Rattle.model.specs.declared.Vocabulary.{Vocabulary}
use Rattle.model.specs.Codes.{absent}
use Rattle.model.specs.Lists.{tabulate}
use Rattle.model.specs.Roster.{is_node}
use Rattle.model.specs.declared.Side.{Side}
use Rattle.model.specs.declared.Side.TheVariants.{Source as source, Target as target}
use Rattle.model.specs.Cliques.{end, Node}
use Rattle.theory.proofs.Tests.{not_both}
use Rattle.theory.proofs.Lists.{mem-tabulate}
use Rattle.theory.specs.Tables.{Below, In, Weak, turned, chained, Right}
use Rattle.theory.proofs.Mapped.{node_test, test_node, node-below}
use Rattle.theory.proofs.Accepted.{room, below}
use Rattle.lists.specs.Flat.{at, Before}
use Rattle.union_find.specs.Roots.{Kept, root, merge}
use Rattle.union_find.specs.Calls.{ActivePair, United}
use Rattle.union_find.proofs.Laws.{root_top, set_at}
use Rattle.union_find.proofs.Unions.{united_one, united_same, united_in}
use Rattle.roster_checks.proofs.Sides.{up, last, back}
use Rattle.node_links.specs.Linking.{Opened, Openable, Alike, Sound}

-- ── the nodes of a table, triple by triple ──
module _ (table : List ℕ) (count : ℕ) (map₀ : List ℕ) (o : Openable table count map₀) where
  pub opened-start : Opened table 0 (length map₀) map₀
  unfolding tabulate
  opened-start = record { size = refl; own = λ c x. absurd (no-mem x.held); none = λ c h k. o.empty c h }

  module _ (i : ℕ) (h : i < count) where
    module _ (t : Triple) (is : t ≡ at table i) where
      ends-below : Below (length map₀) t
      ends-below = subst (Below (length map₀)) (sym is) (o.below (at table i) (mem-tabulate (at table) 0 count i (omega arith) (omega arith)))

      held : Before table (i + 1) t
      held = subst (Before table (i + 1)) (sym is) (last table i)

      new-node : (e : Side) → Node (Before table (i + 1)) (end e t)
      new-node e = record { by = t; held = held; side = e; is_end = refl }

      kept-node : (c : ℕ) → Node (Before table i) c → Node (Before table (i + 1)) c
      kept-node c x = record { by = x.by; held = up table i x.by x.held; side = x.side; is_end = x.is_end }

      old-node : (c : ℕ) → Node (Before table (i + 1)) c → (c ≡ t.subject → ⊥) → (c ≡ t.object → ⊥) → Node (Before table i) c
      old-node c x f g =
          ⊎_elim (λ k. record { by = x.by; held = k; side = x.side; is_end = x.is_end }) (λ q. absurd (at-end x.side x.is_end (q ∙ sym is))) (back table i x.by x.held)
        where
          at-end : (e : Side) → end e x.by ≡ c → x.by ≡ t → ⊥
          at-end source p q = f (sym p ∙ ap (λ (u : Triple). u.subject) q)
          at-end target p q = g (sym p ∙ ap (λ (u : Triple). u.object) q)

      module _ (l : List ℕ) (d : Opened table i (length map₀) l) where
        pub subject-inside : t.subject < length l
        subject-inside = omega (arith, ends-below.subject, d.size)

        pub object-inside : (l₁ : List ℕ) → l₁ ≡ set l t.subject t.subject → t.object < length l₁
        object-inside l₁ e = omega (arith, ends-below.object, d.size, ap length e, length-set l t.subject t.subject)

        step : Opened table (i + 1) (length map₀) (set (set l t.subject t.subject) t.object t.object)
        step = record {
          size = length-set l₁ t.object t.object ∙ length-set l t.subject t.subject ∙ d.size;
          own = λ c. set_at l₁ t.object t.object in₁ (λ y z. Node (Before table (i + 1)) y → z ≡ y) c (λ x. refl)
              (λ n. set_at l t.subject t.subject subject-inside (λ y z. (y ≡ t.object → ⊥) → Node (Before table (i + 1)) y → z ≡ y) c (λ m x. refl)
              (λ m g x. d.own c (old-node c x m g)) n);
          none = λ c w. set_at l₁ t.object t.object in₁ (λ y z. (Node (Before table (i + 1)) y → ⊥) → z ≡ absent) c (λ k. absurd (k (new-node target)))
              (λ n. set_at l t.subject t.subject subject-inside (λ y z. (Node (Before table (i + 1)) y → ⊥) → z ≡ absent) c (λ k. absurd (k (new-node source)))
              (λ m k. d.none c (omega (arith, length-set l₁ t.object t.object, length-set l t.subject t.subject)) (λ x. k (kept-node c x))));
        }
          where
            l₁ : List ℕ
            l₁ = set l t.subject t.subject

            in₁ : t.object < length l₁
            in₁ = object-inside l₁ refl

        pub opened-step : (l₁ l₂ : List ℕ) → l₁ ≡ set l t.subject t.subject → l₂ ≡ set l₁ t.object t.object → Opened table (i + 1) (length map₀) l₂
        opened-step l₁ l₂ e f = rw (f, e) step

module _ (words : Vocabulary) where
  -- ── the classes ──
  pub sound-start : (table : List ℕ) (count : ℕ) (roster : List ℕ) (n : ℕ) (map : List ℕ) → Right words roster (tabulate (at table) 0 count) → n ≡ length roster
      → Opened table count n map → Sound words roster (tabulate (at table) 0 count) map
  sound-start table count roster n map R e d = record {
    size = d.size ∙ e;
    forest = record {
      size = omega (arith, d.size, room words roster ts R);
      inside = λ x a. omega (arith, d.size, node-below (length roster) ts (below words roster ts R) x (test_node ts x a));
      falls = λ x a. omega (arith, own x a);
      links = λ x a. ap (is_node ts) (own x a) ∙ a;
    };
    sound = λ x a. inl (sym (root_top map x (omega (arith, own x a))));
    none = λ x h f. d.none x h (λ y. not_both (node_test ts x y) f);
  }
    where
      ts : List Triple
      ts = tabulate (at table) 0 count

      own : (x : ℕ) → is_node ts x ≡ true → get_or map x 0 ≡ x
      own x a = d.own x (test_node ts x a)

  module _ (roster : List ℕ) (ts : List Triple) where
    alike_turn : (x y : ℕ) → Alike words roster ts x y → Alike words roster ts y x
    alike_turn x y (inl e) = inl (sym e)
    alike_turn x y (inr w) = inr (turned w)

    alike-through : (x y z : ℕ) → Alike words roster ts x y → Alike words roster ts y z → Alike words roster ts x z
    alike-through x y z (inl e) m = subst (λ (u : ℕ). Alike words roster ts u z) (sym e) m
    alike-through x y z (inr w) (inl e) = inr (subst (Weak words roster (In ts) x) e w)
    alike-through x y z (inr w) (inr v) = inr (chained w v)

    module _ (map : List ℕ) (b : Sound words roster ts map) (x y : ℕ) (hx : is_node ts x ≡ true) (hy : is_node ts y ≡ true) where
      pub sound-pair : ActivePair map x y
      sound-pair = record { A = is_node ts; forest = b.forest; left = hx; right = hy }

      module _ (map' : List ℕ) (u : United map map' x y) where
        kept : Kept (is_node ts) map map' (merge (root map) x y)
        kept = u.keeps (is_node ts) b.forest hx hy

        pub sound_united : Weak words roster (In ts) x y → Sound words roster ts map'
        sound_united w = record {
          size = kept.len ∙ b.size;
          forest = kept.forest;
          sound = united_in (is_node ts) map map' x y hx hy kept (Alike words roster ts) alike_turn alike-through (inr w) b.sound;
          none = λ z h f. kept.others z f ∙ b.none z (omega (arith, kept.len)) f;
        }

        pub sound-one : root map' x ≡ root map' y
        sound-one = united_one (is_node ts) map map' x y hx hy kept

        pub sound-same : (n m : ℕ) → is_node ts n ≡ true → is_node ts m ≡ true → root map n ≡ root map m → root map' n ≡ root map' m
        sound-same = united_same (is_node ts) map map' x y hx hy kept
