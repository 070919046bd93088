-- Sweeps over the frozen part: partners of a driving premise, driving premises, rules.
-- Assumes nothing.
use Prim.Native.Nat.{ℕ, ◌+◌, ◌*◌, ◌<◌, ◌≤◌}
use mathlib.Core.Path.{◌≡◌, refl, sym, ◌∙◌, ap, subst}
use mathlib.Core.Logic.{◌⊎◌, inl, inr, ⊎_elim}
use mathlib.Core.Bool.{true, false, true≢false}
use mathlib.Core.List.{List, Memᴰ as Mem}
use native.Mathlib.Omega.{arith}
use lib.Dec.{eqb}
use lib.ListN.{length, get_or}
use borrow.Author.Tests.{eq-eqb}
use Rattle.model.specs.Rules.{Rule}
use Rattle.model.specs.declared.Triple.{Triple}
use Rattle.model.specs.declared.Vocabulary.{Vocabulary}
use Rattle.model.specs.Triples.{triple, before}
use Rattle.model.specs.Order.{Lt}
use Rattle.model.specs.Rules.{rules, fits, gives}
use Rattle.model.specs.Saturation.{round}
use Rattle.theory.proofs.Tests.{and_both, bool_cases}
use Rattle.theory.proofs.Lists.{mem_get_d, mem-place, tabulate-mem, mem-tabulate, tabulate-at, length-tabulate}
use Rattle.theory.proofs.Saturated.{Drawn as DrawnBy, round-mem, round_keeps}
use Rattle.lists.specs.Flat.{at, RisingPart, Bound}
use Rattle.lists.proofs.Compare.{Cmp, lt, eq, gt, cmp}
use Rattle.builder.specs.declared.Builder.{Builder}
use Rattle.builder.specs.declared.Full.{Full}
use Rattle.std.specs.declared.result.Result.{Result}
use Rattle.std.specs.declared.result.Result.TheVariants.{Ok, Err}
use Rattle.builder.specs.Builder.{first, opening, Growing, GrownBy}
use Rattle.builder.proofs.Collecting.{step-none, step_then, frozen}
use Rattle.rule_premises.specs.Premises.{no_rule, rule_count, partner_key, drives, first_of, second_of}
use Rattle.rule_walk.specs.Rounds.{Drawn, RoundReady, RoundStep, Concluded, DrawnPartners, DrawnRule, Draws, Walked, Rounded}
use Rattle.rule_premises.proofs.Premises.{partner, driven, fits-drives}
use Rattle.rule_premises.proofs.Fronts.{front, front_not_before, front-later}

-- ── the frozen part stays ──
base-size : (l₀ l : List ℕ) (n m : ℕ) → first l m ≡ first l₀ n → m ≡ n
base-size l₀ l n m e = sym (length-tabulate (at l) 0 m) ∙ ap {B = ℕ} (λ (x : List Triple). length x) e ∙ length-tabulate (at l₀) 0 n

pub base-place : (l₀ l : List ℕ) (n m : ℕ) → first l m ≡ first l₀ n → (j : ℕ) → j < n → at l j ≡ at l₀ j
base-place l₀ l n m e j h =
    let q = base-size l₀ l n m e in
    let d : Triple = triple 0 0 0 in
    sym (tabulate-at (at l) d 0 m j (omega arith) ∙ ap (at l) (omega arith)) ∙ ap (λ (x : List Triple). get_or x j d) e ∙ tabulate-at (at l₀) d 0 n j h ∙ ap (at l₀) (omega arith)

pub in_first : (l : List ℕ) (n i : ℕ) (t : Triple) → i < n → t ≡ at l i → Mem t (first l n)
in_first l n i t h e = subst (λ (z : Triple). Mem z (first l n)) (sym e) (mem-tabulate (at l) 0 n i (omega arith) (omega arith))

pub rule-known : (k high : ℕ) (r : Rule) → k < high → high ≤ rule_count → r ≡ get_or rules k no_rule → Mem r rules
rule-known k high r h u e = subst (λ (z : Rule). Mem z rules) (sym e) (mem_get_d rules no_rule k (omega arith))

module _ (words : Vocabulary) where
  key-object : (r : Rule) (d : Triple) → (partner_key words r d).object ≡ 0
  unfolding partner_key
  key-object r d = ⊎_elim (λ e. rw e) (λ e. rw e) (bool_cases (eqb r.left 0))

  -- a step of a round taken from a later list of the same round
  pub ready_on : (l₀ l : List ℕ) (b s : Builder) → RoundStep words l₀ l b (Ok s) → RoundReady words l s
  ready_on l₀ l b s S =
      let T = S.goes_on in
      subst (λ (X : List Triple). Growing (round words X) X l s) (sym T.base_is) T

  pub step-on : (l₀ l m : List ℕ) (b s : Builder) (x : Result Builder Full) → RoundStep words l₀ l b (Ok s) → RoundStep words l m s x → RoundStep words l₀ m b x
  step-on l₀ l m b s x S T =
      let X = first l₀ b.base in
      step_then (round words X) X l₀ l m b s x S (subst (λ (Y : List Triple). GrownBy (round words Y) Y l m s x) S.goes_on.base_is T)

  -- ── partners ──
  -- a driver and a partner of X are the rule's premises, in its order, and both are in X
  premises : (r : Rule) (d t : Triple) (X : List Triple) → Mem d X → Mem t X → Mem (first_of r d t) X × Mem (second_of r d t) X
  unfolding first_of second_of
  premises r d t X x y =
      ⊎_elim (λ (e : eqb r.left 0 ≡ true). (rw e y, rw e x)) (λ (e : eqb r.left 0 ≡ false). (rw e x, rw e y)) (bool_cases (eqb r.left 0))

  pub record Partners (l₀ l : List ℕ) (b s : Builder) (r : Rule) (d : Triple) (i : ℕ) : Type 0 where
    pub step : RoundStep words l₀ l b (Ok s)
    pub high : i ≤ b.base
    pub above : (j : ℕ) → i ≤ j → j < b.base → before (at l₀ j) (partner_key words r d) ≡ false
    pub done : (j : ℕ) → j < i → front (at l₀ j) (partner_key words r d) ≡ true → Concluded words l s r d (at l₀ j)

  pub partners_start : (l : List ℕ) (b : Builder) (r : Rule) (d : Triple) (key : Triple) (i : ℕ) → RoundReady words l b → key ≡ partner_key words r d
      → Bound (at l) 0 b.base key i → Partners l l b b r d i
  partners_start l b r d key i R e w =
      record {
        step = step-none _ _ l b R;
        high = w.high;
        above = λ j x y. ap (before (at l j)) (sym e) ∙ w.above j x y;
        done = λ j x q. absurd (front_not_before (at l j) (partner_key words r d) (key-object r d) q (subst (Lt (at l j)) e (w.below j (omega arith) x)));
      }

  -- a place of the frozen part is in the list
  frozen_room : (l₀ l : List ℕ) (b s : Builder) (i : ℕ) → RoundStep words l₀ l b (Ok s) → i < b.base → 3 * i + 2 < length l
  frozen_room l₀ l b s i S h =
      let T = S.goes_on in
      omega (arith, base-size l₀ l b.base s.base T.base_is, T.built.base_end, T.built.sorted_end, T.built.room)

  module _ (l₀ l : List ℕ) (b s : Builder) (r : Rule) (d : Triple) (i : ℕ) (P : Partners l₀ l b s r d i) where
    pub place-room : i < b.base → 3 * i + 2 < length l
    place-room = frozen_room l₀ l b s i P.step

    here-is : (t : Triple) → t ≡ at l i → i < b.base → t ≡ at l₀ i
    here-is t e h = e ∙ base-place l₀ l b.base s.base P.step.goes_on.base_is i h

    module _ (m : List ℕ) (t : Triple) (h : i < b.base) (e : t ≡ at l i) (k : Mem r rules) (n : Mem d (first l₀ b.base)) where
      drawn-from : (x : Result Builder Full) → Drawn words l m s x r (first_of r d t) (second_of r d t) → GrownBy (round words (first l₀ b.base)) (first l₀ b.base) l m s x
      drawn-from x D =
          let X = first l₀ b.base in
          let o = premises r d t X n (in_first l₀ b.base i t h (here-is t e h)) in
          D.steps X P.step.goes_on k o.0 o.1

      drawn-step : (x : Result Builder Full) → Drawn words l m s x r (first_of r d t) (second_of r d t) → RoundStep words l₀ m b x
      drawn-step x D = step_then _ _ l₀ l m b s x P.step (drawn-from x D)

      -- the partner at i drawn
      pub partners_next : (c : Builder) → Drawn words l m s (Ok c) r (first_of r d t) (second_of r d t) → Partners l₀ m b c r d (i + 1)
      partners_next c D =
          record {
            step = drawn-step (Ok c) D;
            high = omega arith;
            above = λ j p q. P.above j (omega arith) q;
            done = λ j p q w. go j p q w (cmp j i);
          }
        where
          go : (j : ℕ) → j < i + 1 → front (at l₀ j) (partner_key words r d) ≡ true
              → fits words r (first_of r d (at l₀ j)) (second_of r d (at l₀ j)) ≡ true → Cmp j i
              → Mem (gives words r (first_of r d (at l₀ j)) (second_of r d (at l₀ j))) (first m c.filled)
          go j p q w (lt z) = (drawn-from (Ok c) D).keeps _ (P.done j z q w)
          go j p q w (eq z) =
              let same : at l₀ j ≡ t = ap (at l₀) z ∙ sym (here-is t e h) in
              subst (λ (u : Triple). Mem (gives words r (first_of r d u) (second_of r d u)) (first m c.filled)) (sym same)
              (D.drawn (subst (λ (u : Triple). fits words r (first_of r d u) (second_of r d u) ≡ true) same w))
          go j p q w (gt z) = absurd (omega arith)

      -- the slots are too few
      pub partners_full : (x : Full) → Drawn words l m s (Err x) r (first_of r d t) (second_of r d t) → DrawnPartners words l₀ m b (Err x) r d
      partners_full x D = record { step = drawn-step (Err x) D; drawn = tt }

    all-drawn : Mem r rules → RisingPart (at l₀) 0 b.base → ((j : ℕ) → i ≤ j → j < b.base → front (at l₀ j) (partner_key words r d) ≡ true → ⊥) → DrawnPartners words l₀ l b (Ok s) r d
    all-drawn k R none =
        record {
          step = P.step;
          drawn = λ t m w.
              let z = tabulate-mem (at l₀) 0 b.base m in
              let q = partner words r k d t w in
              let p : front (at l₀ z.0) (partner_key words r d) ≡ true =
              subst (λ (u : Triple). front u (partner_key words r d) ≡ true) z.3
              (and_both (eqb t.subject (partner_key words r d).subject) _ (eq-eqb _ _ q.subject) (eq-eqb _ _ q.property)) in
              subst (λ (u : Triple). Mem (gives words r (first_of r d u) (second_of r d u)) (first l s.filled)) (sym z.3)
              (go z.0 (omega (arith, z.2)) p (subst (λ (u : Triple). fits words r (first_of r d u) (second_of r d u) ≡ true) z.3 w) (cmp z.0 i));
        }
      where
        go : (j : ℕ) → j < b.base → front (at l₀ j) (partner_key words r d) ≡ true
            → fits words r (first_of r d (at l₀ j)) (second_of r d (at l₀ j)) ≡ true → Cmp j i
            → Mem (gives words r (first_of r d (at l₀ j)) (second_of r d (at l₀ j))) (first l s.filled)
        go j h p w (lt x) = P.done j x p w
        go j h p w (eq x) = absurd (none j (omega arith) h p)
        go j h p w (gt x) = absurd (none j (omega arith) h p)

    -- the end of the frozen part
    pub partners_end : Mem r rules → RisingPart (at l₀) 0 b.base → b.base ≤ i → DrawnPartners words l₀ l b (Ok s) r d
    partners_end k R h = all-drawn k R (λ j x y p. omega arith)

    -- the end of the run of partners
    pub partners_stop : Mem r rules → RisingPart (at l₀) 0 b.base → i < b.base → (t key : Triple) → t ≡ at l i → key ≡ partner_key words r d → front t key ≡ false → DrawnPartners words l₀ l b (Ok s) r d
    partners_stop k R h t key e ek n = all-drawn k R (λ j x y p. later j x y p (cmp i j))
      where
        off : front (at l₀ i) (partner_key words r d) ≡ false
        off = subst (λ (u : Triple). front u (partner_key words r d) ≡ false) (here-is t e h) (subst (λ (u : Triple). front t u ≡ false) ek n)

        later : (j : ℕ) → i ≤ j → j < b.base → front (at l₀ j) (partner_key words r d) ≡ true → Cmp i j → ⊥
        later j x y p (lt z) = front-later (at l₀ i) (at l₀ j) (partner_key words r d) (key-object r d) (P.above i (omega arith) h) off (R i j (omega arith) z y) p
        later j x y p (eq z) = true≢false (sym p ∙ ap (λ (q : ℕ). front (at l₀ q) (partner_key words r d)) (sym z) ∙ off)
        later j x y p (gt z) = omega arith

  -- ── driving premises ──
  -- a triple that is no driving premise has no partner
  pub drives_nothing : (l : List ℕ) (b : Builder) (r : Rule) (d : Triple) → RoundReady words l b → drives words r d ≡ false → DrawnPartners words l l b (Ok b) r d
  drives_nothing l b r d R n = record { step = step-none _ _ l b R; drawn = λ t m w. absurd (true≢false (sym (fits-drives words r d t w) ∙ n)) }

  pub record Drivers (l₀ l : List ℕ) (b s : Builder) (r : Rule) (i : ℕ) : Type 0 where
    pub step : RoundStep words l₀ l b (Ok s)
    pub done : (j : ℕ) → j < i → (t : Triple) → Mem t (first l₀ b.base) → Concluded words l s r (at l₀ j) t

  pub drivers_start : (l : List ℕ) (b : Builder) (r : Rule) → RoundReady words l b → Drivers l l b b r 0
  drivers_start l b r R = record { step = step-none _ _ l b R; done = λ j h. absurd (omega arith) }

  pub driver-room : (l₀ l : List ℕ) (b s : Builder) (r : Rule) (i : ℕ) → Drivers l₀ l b s r i → i < b.base → 3 * i + 2 < length l
  driver-room l₀ l b s r i D = frozen_room l₀ l b s i D.step

  module _ (l₀ l : List ℕ) (b s : Builder) (r : Rule) (i : ℕ) (D : Drivers l₀ l b s r i) (d : Triple) (h : i < b.base) (e : d ≡ at l i) where
    same_base : first l s.base ≡ first l₀ b.base
    same_base = D.step.goes_on.base_is

    driver-is : d ≡ at l₀ i
    driver-is = e ∙ base-place l₀ l b.base s.base same_base i h

    -- the driver is in the frozen part of the present list
    pub driver_in : Mem d (first l s.base)
    driver_in = subst (Mem d) (sym same_base) (in_first l₀ b.base i d h driver-is)

    pub drivers_full : (m : List ℕ) (x : Full) → DrawnPartners words l m s (Err x) r d → DrawnRule words l₀ m b (Err x) r
    drivers_full m x P = record { step = step-on l₀ l m b s (Err x) D.step P.step; drawn = tt }

    pub drivers_next : (m : List ℕ) (c : Builder) → DrawnPartners words l m s (Ok c) r d → Drivers l₀ m b c r (i + 1)
    drivers_next m c P =
        record {
          step = step-on l₀ l m b s (Ok c) D.step P.step;
          done = λ j x t y w. go j x t y w (cmp j i);
        }
      where
        go : (j : ℕ) → j < i + 1 → (t : Triple) → Mem t (first l₀ b.base) → fits words r (first_of r (at l₀ j) t) (second_of r (at l₀ j) t) ≡ true
            → Cmp j i → Mem (gives words r (first_of r (at l₀ j) t) (second_of r (at l₀ j) t)) (first m c.filled)
        go j x t y w (lt z) = P.step.keeps _ (D.done j z t y w)
        go j x t y w (eq z) =
            let q : at l₀ j ≡ d = ap (at l₀) z ∙ sym driver-is in
            subst (λ (u : Triple). Mem (gives words r (first_of r u t) (second_of r u t)) (first m c.filled)) (sym q)
            (P.drawn t (subst (Mem t) (sym same_base) y) (subst (λ (u : Triple). fits words r (first_of r u t) (second_of r u t) ≡ true) q w))
        go j x t y w (gt z) = absurd (omega arith)

  pub drivers_end : (l₀ l : List ℕ) (b s : Builder) (r : Rule) (i : ℕ) → Drivers l₀ l b s r i → b.base ≤ i → DrawnRule words l₀ l b (Ok s) r
  drivers_end l₀ l b s r i D h =
      record {
        step = D.step;
        drawn = λ d t x y w.
            let z = tabulate-mem (at l₀) 0 b.base x in
            subst (λ (u : Triple). Mem (gives words r (first_of r u t) (second_of r u t)) (first l s.filled)) (sym z.3)
            (D.done z.0 (omega (arith, z.2)) t y (subst (λ (u : Triple). fits words r (first_of r u t) (second_of r u t) ≡ true) z.3 w));
      }

  -- ── rules ──
  pub record Rules (l₀ l : List ℕ) (b s : Builder) (low k : ℕ) : Type 0 where
    pub step : RoundStep words l₀ l b (Ok s)
    pub done : (j : ℕ) → low ≤ j → j < k → (d t : Triple) → Mem d (first l₀ b.base) → Mem t (first l₀ b.base) → Concluded words l s (get_or rules j no_rule) d t

  pub rules-start : (l : List ℕ) (count low : ℕ) → 3 * count ≤ length l → RisingPart (at l) 0 count → Rules l l (opening count count) (opening count count) low low
  rules-start l count low h R =
      record {
        step = step-none _ _ l (opening count count) (frozen _ _ l count h R refl (λ u m. round_keeps words (first l count) u m));
        done = λ j x y. absurd (omega arith);
      }

  module _ (l₀ l m : List ℕ) (b s : Builder) (low k : ℕ) (R : Rules l₀ l b s low k) (r : Rule) (e : r ≡ get_or rules k no_rule) where
    pub rules-next : (c : Builder) → DrawnRule words l m s (Ok c) r → Rules l₀ m b c low (k + 1)
    rules-next c D =
        record {
          step = step-on l₀ l m b s (Ok c) R.step D.step;
          done = λ j v x d t y z w. go j v x d t y z w (cmp j k);
        }
      where
        same_base : first l s.base ≡ first l₀ b.base
        same_base = R.step.goes_on.base_is

        go : (j : ℕ) → low ≤ j → j < k + 1 → (d t : Triple) → Mem d (first l₀ b.base) → Mem t (first l₀ b.base)
            → fits words (get_or rules j no_rule) (first_of (get_or rules j no_rule) d t) (second_of (get_or rules j no_rule) d t) ≡ true → Cmp j k
            → Mem (gives words (get_or rules j no_rule) (first_of (get_or rules j no_rule) d t) (second_of (get_or rules j no_rule) d t)) (first m c.filled)
        go j v x d t y z w (lt p) = D.step.keeps _ (R.done j v p d t y z w)
        go j v x d t y z w (eq p) =
            let q : get_or rules j no_rule ≡ r = ap (λ (n : ℕ). get_or rules n no_rule) p ∙ sym e in
            subst (λ (u : Rule). Mem (gives words u (first_of u d t) (second_of u d t)) (first m c.filled)) (sym q)
            (D.drawn d t (subst (Mem d) (sym same_base) y) (subst (Mem t) (sym same_base) z) (subst (λ (u : Rule). fits words u (first_of u d t) (second_of u d t) ≡ true) q w))
        go j v x d t y z w (gt p) = absurd (omega arith)

    pub rules-full : (count high : ℕ) (x : Full) → b ≡ opening count count → DrawnRule words l m s (Err x) r → Rounded words l₀ m count low high (Err x)
    rules-full count high x eb D =
        let S = subst (λ (z : Builder). RoundStep words l₀ m z (Err x)) eb (step-on l₀ l m b s (Err x) R.step D.step) in
        record { size = S.size; walked = tt; over = S.over }

  pub rules-end : (l₀ l : List ℕ) (count low high : ℕ) (s : Builder) (k : ℕ) → Rules l₀ l (opening count count) s low k → high ≤ k → Rounded words l₀ l count low high (Ok s)
  rules-end l₀ l count low high s k R h =
      let S = R.step in
      let T = S.goes_on in
      record {
        size = S.size;
        walked = record {
          built = T.built;
          base = T.base_is;
          base_count = base-size l₀ l count s.base T.base_is;
          keeps = S.keeps;
          drawn = drawn;
          inside = T.inside;
        };
        over = tt;
      }
    where
      both : (a b d o : Triple) → ((d ≡ b) × (o ≡ a)) ⊎ ((d ≡ a) × (o ≡ b)) → Mem a (first l₀ count) → Mem b (first l₀ count) → Mem d (first l₀ count) × Mem o (first l₀ count)
      both a b d o (inl (p, q)) x y = (subst (λ (z : Triple). Mem z (first l₀ count)) (sym p) y, subst (λ (z : Triple). Mem z (first l₀ count)) (sym q) x)
      both a b d o (inr (p, q)) x y = (subst (λ (z : Triple). Mem z (first l₀ count)) (sym p) x, subst (λ (z : Triple). Mem z (first l₀ count)) (sym q) y)

      drawn : Draws words low high (first l₀ count) (first l s.filled)
      drawn j x y a b m n fit =
          let r = get_or rules j no_rule in
          let q = driven words r a b in
          let w = both a b q.driver q.other q.which m n in
          subst (λ (z : Triple). Mem z (first l s.filled)) (λ i. gives words r (q.first i) (q.second i))
          (R.done j x (omega arith) q.driver q.other w.0 w.1 ((λ i. fits words r (q.first i) (q.second i)) ∙ fit))

  -- a round with all rules holds all that the definition's round gives
  pub all-rules : (l l' : List ℕ) (count : ℕ) (c : Builder) → Walked words l l' count 0 rule_count c → (u : Triple)
      → Mem u (round words (first l count)) → Mem u (first l' c.filled)
  all-rules l l' count c R u m = ⊎_elim (λ x. R.keeps u x) (λ g. drawn g) (round-mem words (first l count) u m)
    where
      drawn : DrawnBy words (first l count) u → Mem u (first l' c.filled)
      drawn g =
          let w = mem-place rules no_rule g.in_table in
          subst (λ (z : Triple). Mem z (first l' c.filled)) ((λ i. gives words (sym w.2 i) g.first g.second) ∙ sym g.gives_it)
          (R.drawn w.0 (omega arith) w.1 g.first g.second g.first_in g.second_in ((λ i. fits words (sym w.2 i) g.first g.second) ∙ g.fitting))
