-- The search within domains that may give up, branch by branch.
-- Assumes nothing.
use Prim.Native.Nat.{ℕ, ◌+◌, ◌-◌, ◌*◌, ◌/◌, ◌<◌, ◌≤◌}
use native.Mathlib.Nat.{eq-or-lt_of_le}
use native.Mathlib.Omega.{arith}
use mathlib.Core.Path.{◌≡◌, refl, sym, ap, subst, ◌∙◌}
use mathlib.Core.Bool.{Bool, true, false, cond, true≢false}
use mathlib.Core.List.Memᴰ
use mathlib.Core.List.{List, Memᴰ as Mem}
use mathlib.Core.Logic.{⊎_elim}
use lib.Dec.{eqb}
use borrow.Author.Tests.{eq-eqb}
use lib.ListN.{length, get_or}
use Rattle.model.specs.declared.Triple.{Triple}
use Rattle.model.specs.Triples.{triples}
use Rattle.model.specs.Partition.{label}
use Rattle.lists.specs.Flat.{at}
use Rattle.lists.proofs.Compare.{Cmp, lt, eq, gt, cmp}
use Rattle.lists.proofs.Places.{triples-table}
use Rattle.theory.proofs.Tests.{and_left, and_right, and_both}
use Rattle.theory.proofs.Lists.{tabulate-mem, mem-tabulate}
use Rattle.query.specs.declared.End.{End}
use Rattle.query.specs.declared.End.TheVariants.{Var, Code}
use Rattle.query.specs.declared.Pattern.{Pattern}
use Rattle.query.specs.declared.Query.{Query}
use Rattle.query.specs.Ask.{Fit, pattern_at, fit_end, fit_triple, wrong_query}
use Rattle.std.specs.Prelude.{Option, Some, None, option_map, Result, Ok}
use Rattle.query.specs.Kept.{kept}
use Rattle.query.specs.Match.{stands_for, pattern_triple}
use Rattle.query.specs.Choices.{Agrees, Puts, CanPut, Present}
use Rattle.query.proofs.Steps.{Good, GoodQuery, good-query, Fitting, triple-complete, Tried, triple-sound}
use Rattle.query_places.specs.Places.{FirstFit}
use Rattle.query_rows.specs.Rows.{allows, Within}
use Rattle.query_search.specs.declared.GaveUp.{GaveUp}
use Rattle.query_search.specs.Search.{NoMore, Sought, SoughtAt, Spent}

-- ── what a fit leaves of the bindings ──
module _ (f : Fit) where
  kept-none : None ≡ kept f → f.fits ≡ false
  kept-none n = go f.fits n
    where
      go : (t : Bool) → None ≡ cond t (Some f.bindings) None → t ≡ false
      go true n = absurd (cc)
      go false n = refl

  kept-some : (b : List ℕ) → Some b ≡ kept f → (f.fits ≡ true) × (b ≡ f.bindings)
  kept-some b n = go f.fits n
    where
      go : (t : Bool) → Some b ≡ cond t (Some f.bindings) None → (t ≡ true) × (b ≡ f.bindings)
      go true n = (refl, cc)
      go false n = absurd (cc)

-- ── the steps ──
same-steps : (o : Option ℕ) → NoMore o o
same-steps None = tt
same-steps (Some n) = omega arith

no-more : (a b c : Option ℕ) → NoMore a b → NoMore b c → NoMore a c
no-more None None None h l = tt
no-more None None (Some n) h l = l
no-more None (Some m) c h l = absurd h
no-more (Some m) None c h l = absurd h
no-more (Some m) (Some n) None h l = l
no-more (Some m) (Some n) (Some o) h l = omega arith

module _ (before : Option ℕ) (cost : ℕ) (steps : Option ℕ) {r : Bool} (s : Spent before cost steps r) where
  spent_fewer : NoMore before steps
  spent_fewer = subst (NoMore before) (sym s.left) (go before)
    where
      go : (o : Option ℕ) → NoMore o (option_map (λ n. n - cost) o)
      go None = tt
      go (Some n) = omega arith

-- a choice within the domains is allowed at every end
allowed_end : (map d : List ℕ) (n : ℕ) (σ : ℕ → ℕ) (e : End) → Good n e → Within d σ → allows d e (stands_for (label map) σ e) ≡ true
unfolding allows
allowed_end map d n σ (Var v) g w = w v g
allowed_end map d n σ (Code c) g w = refl

-- no choice puts the k-th pattern at a place before `from`
pub record NoneSoFar (table map d : List ℕ) (q : Query) (k : ℕ) (b : List ℕ) (s₀ s : Option ℕ) (from : ℕ) : Type 0 where
  pub fewer : NoMore s₀ s
  pub high : from ≤ length table / 3
  pub none : (σ : ℕ → ℕ) → Puts (triples table) map q k b σ → Within d σ → (i : ℕ) → i < from
      → pattern_triple (label map) σ (pattern_at q k) ≡ at table i → ⊥

module _ (table map d : List ℕ) (q : Query) (right : wrong_query (length map) q ≡ false) (k : ℕ) (l : k < q.count) (b : List ℕ) (long : length b ≡ 8) where
  abbrev ts : List Triple
  ts = triples table

  abbrev p : Pattern
  p = pattern_at q k

  good : GoodQuery (length map) q
  good = good-query (length map) q right

  abbrev Here : (ℕ → ℕ) → ℕ → Type 0
  Here σ i = pattern_triple (label map) σ (pattern_at q k) ≡ at table i

  -- a choice that puts the pattern at place i fits there
  module _ (σ : ℕ → ℕ) (a : Puts ts map q k b σ) (i : ℕ) (e : Here σ i) where
    fitting : Fitting ts map σ (fit_triple map p (at table i) b)
    fitting = subst (λ t. Fitting ts map σ (fit_triple map p t b)) e
        (triple-complete ts map σ p b (good.subject k l) (good.object k l) long a.agrees)

    module _ (w : Within d σ) where
      allowed_subject : allows d p.subject (at table i).subject ≡ true
      allowed_subject = subst (λ (t : Triple). allows d p.subject t.subject ≡ true) e
          (allowed_end map d (length map) σ p.subject (good.subject k l) w)

      allowed_object : allows d p.object (at table i).object ≡ true
      allowed_object = subst (λ (t : Triple). allows d p.object t.object ≡ true) e
          (allowed_end map d (length map) σ p.object (good.object k l) w)

  -- ── one triple ──
  module _ (present : Present ts) (i : ℕ) (inside : 3 * i + 2 < length table) (h : (at table i).property ≡ p.property) (s : Option ℕ) where
    abbrev Answer : Option ℕ → Result Bool GaveUp → Type 0
    Answer s' r = SoughtAt table map d q k b i s s' r

    no_choice : ((σ : ℕ → ℕ) → Puts ts map q k b σ → Within d σ → Here σ i → ⊥) → Answer s (Ok false)
    no_choice f = record { fewer = same-steps s; sound = λ z. absurd (cc); complete = λ y. f; gave_up = λ e z. absurd (cc) }

    held : Mem (at table i) ts
    held = subst (Mem (at table i)) (sym (triples-table table)) (mem-tabulate (at table) 0 (length table / 3) i (omega arith) (omega arith))

    module _ (t : Triple) (same : t ≡ at table i) where
      pub subject-outside : {x : Bool} → x ≡ allows d p.subject t.subject → x ≡ false → Answer s (Ok false)
      subject-outside e n = no_choice λ σ a w m.
          true≢false (sym (allowed_subject σ a i m w) ∙ ap (λ (u : Triple). allows d p.subject u.subject) (sym same) ∙ sym e ∙ n)

      pub object-outside : {x : Bool} → x ≡ allows d p.object t.object → x ≡ false → Answer s (Ok false)
      object-outside e n = no_choice λ σ a w m.
          true≢false (sym (allowed_object σ a i m w) ∙ ap (λ (u : Triple). allows d p.object u.object) (sym same) ∙ sym e ∙ n)

      -- what an end and then the other leave of the bindings
      abbrev f : Fit
      f = fit_end map p.subject t.subject b

      first : f ≡ fit_end map p.subject (at table i).subject b
      first = ap (λ (u : Triple). fit_end map p.subject u.subject b) same

      first_fits : (σ : ℕ → ℕ) → Puts ts map q k b σ → Here σ i → f.fits ≡ true
      unfolding fit_triple
      first_fits σ a m = ap (λ (u : Fit). u.fits) first ∙ and_left _ _ (and_right (eqb (at table i).property p.property) _ (fitting σ a i m).fits)

      pub subject_unfit : None ≡ kept f → Answer s (Ok false)
      subject_unfit n = no_choice λ σ a w m. true≢false (sym (first_fits σ a m) ∙ kept-none f n)

      module _ (b₁ : List ℕ) (y : Some b₁ ≡ kept f) where
        abbrev g : Fit
        g = fit_end map p.object t.object b₁

        second : g ≡ fit_end map p.object (at table i).object (fit_end map p.subject (at table i).subject b).bindings
        second = ap (λ (u : Triple). fit_end map p.object u.object b₁) same
            ∙ ap (λ (x : List ℕ). fit_end map p.object (at table i).object x) ((kept-some f b₁ y).1 ∙ ap (λ (u : Fit). u.bindings) first)

        second_fits : (σ : ℕ → ℕ) → Puts ts map q k b σ → Here σ i → g.fits ≡ true
        unfolding fit_triple
        second_fits σ a m =
            ap (λ (u : Fit). u.fits) second
            ∙ and_right (fit_end map p.subject (at table i).subject b).fits _ (and_right (eqb (at table i).property p.property) _ (fitting σ a i m).fits)

        pub object_unfit : None ≡ kept g → Answer s (Ok false)
        object_unfit n = no_choice λ σ a w m. true≢false (sym (second_fits σ a m) ∙ kept-none g n)

        module _ (b₂ : List ℕ) (z : Some b₂ ≡ kept g) where
          both : (fit_triple map p (at table i) b).fits ≡ true
          unfolding fit_triple
          both = and_both (eqb (at table i).property p.property) _ (eq-eqb _ _ h)
              (and_both (fit_end map p.subject (at table i).subject b).fits _ (ap (λ (u : Fit). u.fits) (sym first) ∙ (kept-some f b₁ y).0) (ap (λ (u : Fit). u.fits) (sym second) ∙ (kept-some g b₂ z).0))

          after : (fit_triple map p (at table i) b).bindings ≡ b₂
          unfolding fit_triple
          after = ap (λ (u : Fit). u.bindings) (sym second) ∙ sym (kept-some g b₂ z).1

          tried : Tried ts map p (at table i) b (fit_triple map p (at table i) b)
          tried = triple-sound ts map p (at table i) b held both (present (at table i) held).0 (present (at table i) held).1
              (good.subject k l) (good.object k l) long

          -- a choice for the patterns after this one is one for this one too
          put-here : CanPut ts map q (k + 1) b₂ → CanPut ts map q k b
          put-here w =
              let σ : ℕ → ℕ = w.0 in
              let agrees = subst (λ (x : List ℕ). Agrees σ x) (sym after) w.1.agrees in (
                σ,
                record {
                  agrees = tried.back σ agrees;
                  puts = λ j l₁ l₂. ⊎_elim {C = Mem (pattern_triple (label map) σ (pattern_at q j)) ts}
                      (λ m. Memᴰ.cast {a = pattern_triple (label map) σ (pattern_at q j)}
                      (ap (λ (x : ℕ). pattern_triple (label map) σ (pattern_at q x)) (sym m) ∙ tried.there σ agrees) held)
                      (λ m. w.1.puts j (omega arith) l₂)
                      (eq-or-lt_of_le l₁);
                },
              )

          pub all-put : k + 1 ≡ q.count → Answer s (Ok true)
          all-put m = record {
            fewer = same-steps s;
            sound = λ w. put-here (λ v. get_or b₂ v 0, record { agrees = λ v lv n. refl; puts = λ j l₁ l₂. let o : ⊥ = omega arith in absurd o });
            complete = λ z. absurd (cc);
            gave_up = λ e z. absurd (cc);
          }

          ahead : (σ : ℕ → ℕ) → Puts ts map q k b σ → Here σ i → Puts ts map q (k + 1) b₂ σ
          ahead σ a m = record {
            agrees = subst (λ (x : List ℕ). Agrees σ x) after (fitting σ a i m).extends;
            puts = λ j l₁ l₂. a.puts j (omega arith) l₂;
          }

          pub next_sought : (s' : Option ℕ) {r : Result Bool GaveUp} → Sought table map d q (k + 1) b₂ s s' r → Answer s' r
          next_sought s' w = record {
            fewer = w.fewer;
            sound = λ x. put-here (w.sound x);
            complete = λ x σ a y n. w.complete x σ (ahead σ a n) y;
            gave_up = w.gave_up;
          }

  -- ── one triple after the other ──
  module _ (s₀ : Option ℕ) where
    abbrev Left : Option ℕ → ℕ → Type 0
    Left s from = NoneSoFar table map d q k b s₀ s from

    abbrev Found : Option ℕ → Result Bool GaveUp → Type 0
    Found s r = Sought table map d q k b s₀ s r

    pub try_end : (s : Option ℕ) (from : ℕ) → Left s from → length table / 3 ≤ from → Found s (Ok false)
    try_end s from h m = record {
      fewer = h.fewer;
      sound = λ z. absurd (cc);
      complete = λ y σ a w.
          let x = tabulate-mem (at table) 0 (length table / 3) (subst (Mem (pattern_triple (label map) σ p)) (triples-table table) (a.puts k (omega arith) l)) in
          h.none σ a w x.0 (omega (arith, x.2)) x.3;
      gave_up = λ e z. absurd (cc);
    }

    module _ (s : Option ℕ) (from : ℕ) (h : Left s from) (i : ℕ) (w : FirstFit (at table) map p b from (length table / 3) i) where
      skip : (s' : Option ℕ) → NoMore s s' → Left s' i
      skip s' m = record {
        fewer = no-more s₀ s s' h.fewer m;
        high = w.high;
        none = λ σ a x j z e. go σ a x j z e (cmp j from);
      }
        where
          go : (σ : ℕ → ℕ) → Puts ts map q k b σ → Within d σ → (j : ℕ) → j < i → Here σ j → Cmp j from → ⊥
          go σ a x j z e (lt o) = h.none σ a x j o e
          go σ a x j z e (eq o) = true≢false (sym (fitting σ a j e).fits ∙ w.others j (omega arith) z)
          go σ a x j z e (gt o) = true≢false (sym (fitting σ a j e).fits ∙ w.others j (omega arith) z)

      module _ (cost : ℕ) (s₁ : Option ℕ) {u : Bool} (c : Spent s cost s₁ u) where
        fewer : NoMore s s₁
        fewer = spent_fewer s cost s₁ c

        pub none_left : i ≡ length table / 3 → Found s₁ (Ok false)
        none_left e = try_end s₁ i (skip s₁ fewer) (omega arith)

        module _ (s₂ : Option ℕ) {r : Result Bool GaveUp} (x : SoughtAt table map d q k b i s₁ s₂ r) where
          later : NoMore s s₂
          later = no-more s s₁ s₂ fewer x.fewer

          pub try_step : i < length table / 3 → r ≡ Ok false → Left s₂ (i + 1)
          try_step m e = record {
            fewer = no-more s₀ s s₂ h.fewer later;
            high = omega arith;
            none = λ σ a o j z v. ⊎_elim
                (λ (n : j ≡ i). x.complete e σ a o (subst (λ (j : ℕ). Here σ j) n v))
                (λ (n : j < i). (skip s₂ later).none σ a o j n v)
                (eq-or-lt_of_le {n = j} {m = i} (omega arith));
          }
