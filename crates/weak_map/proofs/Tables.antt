-- The triples of a table, place by place, in the work list and in the classes.
-- Assumes nothing.
use Prim.Native.Nat.{ℕ, ◌+◌, ◌*◌, ◌<◌, ◌≤◌}
use mathlib.Core.Path.{◌≡◌, refl, sym, subst}
use mathlib.Core.Logic.{◌⊎◌, inl, inr, ⊎_elim}
use mathlib.Core.Bool.{true}
use mathlib.Core.List.Memᴰ.{not-nil as no-mem}
use mathlib.Core.List.{List, Memᴰ as Mem}
use native.Mathlib.Omega.{arith}
use lib.ListN.{length, get_or}
use Rattle.model.specs.declared.Triple.{Triple}
use Rattle.model.specs.declared.Vocabulary.{Vocabulary}
use Rattle.model.specs.Codes.{absent}
use Rattle.model.specs.Lists.{tabulate}
use Rattle.model.specs.declared.Side.{Side}
use Rattle.model.specs.declared.Side.TheVariants.{Source as source, Target as target}
use Rattle.model.specs.Cliques.{end, Has, links}
use Rattle.theory.proofs.Lists.{tabulate-mem, mem-tabulate}
use Rattle.theory.specs.Tables.{In, Right}
use Rattle.theory.proofs.Weak.{has-map}
use Rattle.lists.specs.Flat.{at, Before}
use Rattle.roster_checks.proofs.Sides.{has-back}
use Rattle.node_links.specs.Linking.{Sound, Linked, up_to, Seen, AllSeen}
use Rattle.node_links.specs.Calls.{EndLinkable, EndLinked}
use Rattle.node_links.proofs.Links.{slot-below, linked-less, end-linkable, end-linked}

module _ (v : Vocabulary) where
  module _ (table : List ℕ) (count : ℕ) (roster : List ℕ) where
    abbrev ts : List Triple
    ts = tabulate (at table) 0 count

    abbrev LinkedAt : ℕ → ℕ → List ℕ → List ℕ → Type 0
    LinkedAt a b map work = Linked v roster ts (Seen v table roster a b) map work

    -- ── before the first triple ──
    none_seen : (e : Side) (n p : ℕ) → Seen v table roster 0 0 e n p → ⊥
    unfolding tabulate
    none_seen source n p h = no-mem h.held
    none_seen target n p h = no-mem h.held

    pub linked-start : (map work : List ℕ) → length work ≡ 2 * length roster → ((k : ℕ) → k < length work → get_or work k 0 ≡ absent) → Sound v roster ts map → LinkedAt 0 0 map work
    linked-start map work len none s = record {
      size = len;
      sound = s;
      slots = record {
        held = λ e p h m k. absurd (k (none _ (omega (arith, slot-below (length roster) p e h))));
        seen = λ e n p h. absurd (none_seen e n p h);
      };
      flags = record { raised = λ e n p h. absurd (none_seen e n p h); right = λ n h u k. absurd (k (none n (omega arith))) };
    }

    -- ── one triple more ──
    seen-has : (a b : ℕ) → a ≤ count → b ≤ count → (e : Side) (n p : ℕ) → Seen v table roster a b e n p → Has v roster (In ts) e n p
    seen-has a b ha hb e n p h = has-map v roster (λ t m. wide e t m) h
      where
        within : (j : ℕ) → j ≤ count → (t : Triple) → Before table j t → In ts t
        within j k t m = let w = tabulate-mem (at table) 0 j m in subst (In ts) (sym w.3) (mem-tabulate (at table) 0 count w.0 (omega arith) (omega (arith, w.2)))

        wide : (f : Side) (t : Triple) → Before table (up_to a b f) t → In ts t
        wide source t m = within a ha t m
        wide target t m = within b hb t m

    module _ (R : Right v roster ts) (i : ℕ) (h : i < count) (t : Triple) (is : t ≡ at table i) where
      member : Mem t ts
      member = subst (λ (u : Triple). Mem u ts) (sym is) (mem-tabulate (at table) 0 count i (omega arith) (omega arith))

      back_source : (f : Side) (n q : ℕ) → Seen v table roster (i + 1) i f n q
          → Seen v table roster i i f n q ⊎ ((links v roster source t ≡ true) × (f ≡ source) × (n ≡ end source t) × (q ≡ t.property))
      back_source source n q s = ⊎_elim (λ o. inl o) (λ x. inr (x.0, refl, x.1, x.2)) (has-back v table i roster source t is n q s)
      back_source target n q s = inl s

      back_target : (f : Side) (n q : ℕ) → Seen v table roster (i + 1) (i + 1) f n q
          → Seen v table roster (i + 1) i f n q ⊎ ((links v roster target t ≡ true) × (f ≡ target) × (n ≡ end target t) × (q ≡ t.property))
      back_target source n q s = inl s
      back_target target n q s = ⊎_elim (λ o. inl o) (λ x. inr (x.0, refl, x.1, x.2)) (has-back v table i roster target t is n q s)

      module _ (map work : List ℕ) where
        pub source_linkable : LinkedAt i i map work → EndLinkable v roster source t map work
        source_linkable b =
            end-linkable v roster ts R (Seen v table roster i i) (Seen v table roster (i + 1) i) (seen-has i i (omega arith) (omega arith)) (seen-has (i + 1) i (omega arith) (omega arith))
            source t member back_source map work b

        pub source_linked : LinkedAt i i map work → (map' work' : List ℕ) → EndLinked v roster source t map work map' work' → LinkedAt (i + 1) i map' work'
        source_linked b =
            end-linked v roster ts R (Seen v table roster i i) (Seen v table roster (i + 1) i) (seen-has i i (omega arith) (omega arith)) (seen-has (i + 1) i (omega arith) (omega arith))
            source t member back_source map work b

        pub target_linkable : LinkedAt (i + 1) i map work → EndLinkable v roster target t map work
        target_linkable b =
            end-linkable v roster ts R (Seen v table roster (i + 1) i) (Seen v table roster (i + 1) (i + 1))
            (seen-has (i + 1) i (omega arith) (omega arith)) (seen-has (i + 1) (i + 1) (omega arith) (omega arith))
            target t member back_target map work b

        pub target_linked : LinkedAt (i + 1) i map work → (map' work' : List ℕ) → EndLinked v roster target t map work map' work' → LinkedAt (i + 1) (i + 1) map' work'
        target_linked b =
            end-linked v roster ts R (Seen v table roster (i + 1) i) (Seen v table roster (i + 1) (i + 1))
            (seen-has (i + 1) i (omega arith) (omega arith)) (seen-has (i + 1) (i + 1) (omega arith) (omega arith))
            target t member back_target map work b

    -- ── after the last ──
    all_here : (e : Side) (n p : ℕ) → Has v roster (In ts) e n p → Seen v table roster count count e n p
    all_here source n p h = h
    all_here target n p h = h

    pub linked-all : Right v roster ts → (i : ℕ) (map work : List ℕ) → i ≤ count → count ≤ i → LinkedAt i i map work → AllSeen v roster ts map work
    linked-all R i map work a b s =
        let e : i ≡ count = omega arith in
        record { right = R; linked = linked-less v roster ts R all_here (subst (λ (j : ℕ). LinkedAt j j map work) e s) }
