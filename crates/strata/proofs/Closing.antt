-- Rounds until one adds nothing.
-- Assumes nothing.
use Prim.Native.Nat.{ℕ, ◌*◌, ◌/◌, ◌<◌, ◌≤◌}
use mathlib.Core.Path.{◌≡◌, refl, sym, ◌∙◌, ap, subst}
use mathlib.Core.Logic.{⊎_elim}
use mathlib.Core.List.Memᴰ.{cases_cons as mem-cases}
use mathlib.Core.List.Memᴰ.{not-nil as no-mem}
use mathlib.Core.List.{List, [], ◌∷◌, Memᴰ as Mem}
use native.Mathlib.Omega.{arith}
use native.Mathlib.Nat.{sub-zero}
use lib.ListN.{length}
use Rattle.model.specs.declared.Triple.{Triple}
use Rattle.model.specs.declared.Vocabulary.{Vocabulary}
use Rattle.model.specs.Lists.{tabulate}
use Rattle.model.specs.Triples.{sorted}
use Rattle.model.specs.Order.{Rising}
use Rattle.model.specs.Rules.{Derives, given}
use Rattle.model.specs.Saturation.{round}
use Rattle.model.specs.Cliques.{Graph}
use Rattle.theory.proofs.Lists.{tabulate-mem, length-tabulate}
use Rattle.theory.proofs.Order.{sorted-rising, sorted-mem, mem-sorted, sorted-same, rising-length}
use Rattle.theory.specs.Tables.{In}
use Rattle.theory.proofs.Saturated.{Drawn as DrawnBy, round-mem, round-rising, round-derived, derives_cut, closed-has}
use Rattle.lists.specs.Flat.{at, RisingPart}
use Rattle.lists.proofs.Places.{places-rising, rising-places}
use Rattle.sorting.specs.Sorting.{Distinct}
use Rattle.builder.specs.declared.Builder.{Builder}
use Rattle.builder.specs.declared.Full.{Full}
use Rattle.std.specs.declared.result.Result.TheVariants.{Ok, Err}
use Rattle.builder.specs.Builder.{first, opening}
use Rattle.builder.proofs.Parts.{sorted_more}
use Rattle.rule_premises.specs.Premises.{rule_count}
use Rattle.rule_walk.specs.Rounds.{Rounded}
use Rattle.strata.specs.Strata.{Closed}
use Rattle.rule_walk.proofs.Sweeps.{in_first, all-rules}

-- ── a sorted front ──
module _ (l m : List ℕ) (filled count : ℕ) where
  pub front-sorted : Distinct l m 0 filled count → first m count ≡ sorted (first l filled)
  front-sorted D = D.places ∙ ap (λ (k : ℕ). sorted (tabulate (at l) 0 k)) (sub-zero filled)

  -- what a round and a load ask for
  pub sorted-ready : 3 * filled ≤ length l → Distinct l m 0 filled count → (3 * count ≤ length m) × RisingPart (at m) 0 count
  sorted-ready h D =
      (omega (arith, D.fits, D.size), λ i j x y z. rising-places (at m) 0 count (subst Rising (sym (front-sorted D)) (sorted-rising _)) i j x y (omega arith))

module _ (v : Vocabulary) where
  -- ── rounds ──
  module _ (G : Graph) (l₀ : List ℕ) where
    -- the list between rounds: its base is what the last round began with
    pub record Closing (l : List ℕ) (s : Builder) : Type 0 where
      pub size : length l ≡ length l₀
      pub room : 3 * s.filled ≤ length l
      pub within : s.base ≤ s.filled
      pub rising : RisingPart (at l) 0 s.base
      pub apart : (i : ℕ) → i < s.base → s.base < s.filled → at l i ≡ at l s.base → ⊥
      pub keeps : (u : Triple) → G u → Mem u (first l s.filled)
      pub derived : (u : Triple) → Mem u (first l s.filled) → Derives v G u
      pub drawn : (u : Triple) → Mem u (round v (first l s.base)) → Mem u (first l s.filled)

    module _ (l m : List ℕ) (s : Builder) (count : ℕ) (C : Closing l s) (D : Distinct l m 0 s.filled count) where
      sorted-is : first m count ≡ sorted (first l s.filled)
      sorted-is = front-sorted l m s.filled count D

      count-is : count ≡ length (sorted (first l s.filled))
      count-is = sym (length-tabulate (at m) 0 count) ∙ ap {B = ℕ} (λ (x : List Triple). length x) sorted-is

      -- what a round asks for
      pub round-ready : (3 * count ≤ length m) × RisingPart (at m) 0 count
      round-ready = sorted-ready l m s.filled count C.room D

      -- the base grows: the triple behind it is new
      pub base_grows : s.base < s.filled → s.base < count
      base_grows h =
          let old = first l s.base in
          let x = at l s.base in
          let rises = places-rising (at l) 0 s.base (λ i j x y z. C.rising i j x y (omega arith)) in
          let new : Mem x old → ⊥ = λ k. let z = tabulate-mem (at l) 0 s.base k in C.apart z.0 (omega (arith, z.2)) h (sym z.3) in
          let more = sorted_more x old new in
          let size = ap {B = ℕ} (λ (y : List Triple). length y) (sorted-same old rises) ∙ length-tabulate (at l) 0 s.base in
          let few = rising-length (sorted (x ∷ old)) (sorted (first l s.filled)) (sorted-rising _)
          (λ u k. mem-sorted u _ (⊎_elim (λ e. in_first l s.filled s.base u h e) (λ w. wider u w) (mem-cases (sorted-mem u _ k)))) in
          omega (arith, more, size, few, count-is)
        where
          wider : (u : Triple) → Mem u (first l s.base) → Mem u (first l s.filled)
          wider u k = let z = tabulate-mem (at l) 0 s.base k in in_first l s.filled z.0 u (omega (arith, z.2, C.within)) z.3

      begun : (u : Triple) → Mem u (first m count) → Derives v G u
      begun u k = C.derived u (sorted-mem u _ (subst (Mem u) sorted-is k))

      all-derived : (u : Triple) → Mem u (round v (first m count)) → Derives v G u
      all-derived u k = derives_cut v begun (round-derived v (first m count) u k)

      pub closing_next : (n : List ℕ) (c : Builder) → Rounded v m n count 0 rule_count (Ok c) → Closing n c
      closing_next n c R =
          let W = R.walked in
          let B = W.built in
          record {
            size = R.size ∙ D.size ∙ C.size;
            room = B.room;
            within = omega (arith, B.base_end, B.sorted_end);
            rising = B.base_rising;
            apart = λ i h k q. B.apart i c.base h (omega arith) k q;
            keeps = λ u g. W.keeps u (subst (Mem u) (sym sorted-is) (mem-sorted u _ (C.keeps u g)));
            derived = λ u k. all-derived u (W.inside u k);
            drawn = λ u k. all-rules v m n count c W u (subst (λ (x : List Triple). Mem u (round v x)) W.base k);
          }

      pub closing_full : (n : List ℕ) (y : Full) → Rounded v m n count 0 rule_count (Err y) → Closed v G l₀ n (Err y)
      closing_full n y R =
          record {
            size = R.size ∙ D.size ∙ C.size;
            room = tt;
            exact = tt;
            over = λ out h.
                let few = rising-length (round v (first m count)) out (round-rising v _) (λ u k. h u (all-derived u k)) in
                let long = subst (λ (k : ℕ). k / 3 < length (round v (first m count))) (D.size ∙ C.size) R.over in
                omega (arith, few, long);
          }

      pub closing_less : s.base < s.filled → (n : List ℕ) (c : Builder) → Rounded v m n count 0 rule_count (Ok c) → s.base < c.base
      closing_less h n c R = omega (arith, base_grows h, R.walked.base_count)

    pub closing_end : (l : List ℕ) (s : Builder) → Closing l s → s.filled ≤ s.base → Closed v G l₀ l (Ok s)
    closing_end l s C h =
        record {
          size = C.size;
          room = C.room;
          exact = λ u. (C.derived u, λ d. closed-has v (first l s.filled) still (derives_cut v (λ t g. given (C.keeps t g)) d));
          over = tt;
        }
      where
        whole : s.base ≡ s.filled
        whole = omega (arith, C.within)

        still : (u : Triple) → Mem u (round v (first l s.filled)) → Mem u (first l s.filled)
        still u k = C.drawn u (subst (λ (x : ℕ). Mem u (round v (first l x))) (sym whole) k)

  -- nothing follows from nothing
  round_nothing : (u : Triple) → Mem u (round v []) → ⊥
  round_nothing u m = ⊎_elim (λ k. no-mem k) (λ (g : DrawnBy v [] u). no-mem g.first_in) (round-mem v [] u m)

  pub closing_start : (l : List ℕ) (filled : ℕ) → 3 * filled ≤ length l → Closing (In (first l filled)) l l (opening 0 filled)
  unfolding tabulate
  closing_start l filled h =
      record {
        size = refl;
        room = h;
        within = omega arith;
        rising = λ i j x y z. absurd (omega arith);
        apart = λ i x y q. omega arith;
        keeps = λ u g. g;
        derived = λ u m. given m;
        drawn = λ u m. absurd (round_nothing u m);
      }
