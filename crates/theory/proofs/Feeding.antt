-- The plain intake: what it holds after a list of feeds, in any order and with repeats; and that a run of feeds and removals from an accepted
-- opening, each keeping its promise, gives the plain intake's answers and state, and weights that add up to the new triples less the removed ones.
-- Assumes nothing.
use Prim.Native.Nat.{ℕ, ◌+◌, ◌≤◌, ◌<◌, ◌*◌, ◌/◌}
use mathlib.Core.Path.{◌≡◌, refl, sym, subst, ◌∙◌, ap}
use mathlib.Core.Logic.{◌⊎◌, inl, inr, ⊎_elim, ◌↔◌}
use mathlib.Core.Bool.{Bool, true, false, cond, not, ◌||◌}
use mathlib.Core.List.Memᴰ.{cases_cons as mem-cases}
use mathlib.Core.List.Memᴰ.{head as here}
use mathlib.Core.List.Memᴰ.{not-nil as no-mem}
use mathlib.Core.List.Memᴰ.{tail as there}
use mathlib.Core.List.{List, [], ◌∷◌, map, Memᴰ as Mem}
use native.Mathlib.Omega.{arith}
use native.Mathlib.Nat.{sub-zero}
use lib.Dec.{eqb, leb, ltb}
use lib.ListN.{length, get_or, replicate, length-replicate, get_or-replicate}
use lib.Seq.{ext_get_or}
use borrow.Author.Tests.{ltb-false, leb-true, leb-false, lt-leb, not-false, eqb-true, eq-eqb}
use Rattle.model.specs.declared.Triple.{Triple}
use Rattle.model.specs.declared.Vocabulary.{Vocabulary}
use Rattle.model.specs.Codes.{wrong_words, absent}
use Rattle.model.specs.Lists.{any, all, how_many, total, zeros, padded}
use Rattle.model.specs.Triples.{flat, slots, holds, place, insert, without, sorted, listed}
use Rattle.model.specs.Order.{Rising}
use Rattle.model.specs.Roster.{covers_triple, covers, wrong_roster, wrong_triple, wrong_codes}
use Rattle.model.specs.Cliques.{Node}
use Rattle.model.specs.Classes.{map_of}
use Rattle.model.specs.Summary.{condensed, summary, weights_by, weights}
use Rattle.model.specs.Outcomes.{Outcome, refused, accepted, Answer, answer, Said, new, not_new, removed, check, decided, Passes, wrong_size, wrong_work}
use Rattle.model.specs.Intake.{State, Kind, feeding, removing, Call, is_new, is_removed, judged, judged_removal, judged_as, plain_checks, reply_to, after_saying, held_then, answers, held_after, state_of, wrong_lists, open_outcome, opened, intake_checks, Kept, Valid, Run, none, then_called}
use Rattle.theory.proofs.Tests.{or-false, cond_cases}
use Rattle.theory.proofs.Lists.{any_none, none_any, all-at, at_all, mem-map}
use Rattle.theory.proofs.Order.{holds-mem, insert-self, insert-keeps, insert-mem, insert-rising, insert-same, insert-new, rising-length, without-length, mem-without, without-mem, without-rising, without_gone, insert-without, without-insert, rising_unique, sorted-rising, sorted-mem, mem-sorted}
use Rattle.theory.specs.Tables.{AllBelow, In, Right}
use Rattle.theory.specs.Theorems.{PlaceRight, Left}
use Rattle.theory.proofs.Places.{place-right}
use Rattle.theory.proofs.Mapped.{length_map_of, map-absent}
use Rattle.theory.proofs.Summaries.{condensed-length, Same, same_map_of, same_summary_of}
use Rattle.theory.proofs.Counting.{total-padded}
use Rattle.theory.proofs.Weights.{weights-length, weights-total}
use Rattle.theory.proofs.Checks.{passes-first, first_passes, no_checks, decided-passes, decided_cases, passed, not_accepted, same-value}
use Rattle.theory.proofs.Flat.{length-padded, padded-past, length-listed}
use Rattle.theory.proofs.Accepted.{below, room, size-bounds}

-- ── a triple that leaves a rising list ──
pub leaves_right : (t : Triple) (H : List Triple) → Rising H → Left t H
leaves_right t H r =
    record {
      rising = without-rising t H r;
      exact = λ u. (λ m. (without-mem t u H m, λ q. without_gone t H r (subst (λ (z : Triple). Mem z (without t H)) q m)), λ w. mem-without t u H w.0 w.1);
      fed_before = insert-without t H r;
      fed_again = λ h. without-insert t H r (holds-mem t H h);
    }

module _ (v : Vocabulary) (roster : List ℕ) where
  -- ── one call ──
  -- what an intake may hold
  pub record Holds (space : ℕ) (H : List Triple) : Type 0 where
    pub rising : Rising H
    pub fits : length H ≤ space
    pub codes : wrong_codes v (length roster) H ≡ false
    pub covered : covers v roster H ≡ true

  abbrev next : ℕ → List Triple → Call → List Triple
  next space H f = held_then (reply_to v roster space H f) f.triple H

  -- what a call does to what is held, and whether its triple was new or removed
  data Step (space : ℕ) (H : List Triple) (t : Triple) (o : Outcome (Answer Said)) (K : List Triple) : Type 0 where
    stayed : K ≡ H → is_new o ≡ false → is_removed o ≡ false → Step space H t o K
    added : wrong_triple v (length roster) t ≡ false → covers_triple v roster t ≡ true → holds t H ≡ false → length H < space → K ≡ insert t H
        → is_new o ≡ true → is_removed o ≡ false → Step space H t o K
    taken : holds t H ≡ true → K ≡ without t H → is_new o ≡ false → is_removed o ≡ true → Step space H t o K

  abbrev StepOf : ℕ → List Triple → Triple → Outcome (Answer Said) → Type 0
  StepOf space H t o = Step space H t o (held_then o t H)

  refused-step : (space : ℕ) (H : List Triple) (t : Triple) (r : ℕ) → StepOf space H t (refused r)
  unfolding held_then is_new is_removed
  refused-step space H t r = stayed refl refl refl

  judged-step : (space : ℕ) (H : List Triple) (t : Triple) → wrong_triple v (length roster) t ≡ false → covers_triple v roster t ≡ true
      → StepOf space H t (judged space H t)
  unfolding judged held_then after_saying is_new is_removed
  judged-step space H t a b =
      cond_cases (StepOf space H t) (holds t H) (λ e. stayed refl refl refl)
      (λ e. cond_cases (StepOf space H t) (leb space (length H)) (λ l. stayed refl refl refl) (λ l. added a b e (leb-false space (length H) l) refl refl refl))

  removal-step : (space : ℕ) (H : List Triple) (t : Triple) → StepOf space H t (judged_removal H t)
  unfolding judged_removal held_then after_saying is_new is_removed
  removal-step space H t = cond_cases (StepOf space H t) (holds t H) (λ e. taken e refl refl refl) (λ e. stayed refl refl refl)

  either_step : (kind : Kind) (space : ℕ) (H : List Triple) (t : Triple) → wrong_triple v (length roster) t ≡ false → covers_triple v roster t ≡ true
      → StepOf space H t (judged_as kind space H t)
  either_step feeding space H t a b = judged-step space H t a b
  either_step removing space H t a b = removal-step space H t

  step_of : (space : ℕ) (H : List Triple) (f : Call) → StepOf space H f.triple (reply_to v roster space H f)
  unfolding reply_to
  step_of space H f =
      ⊎_elim
      (λ w. subst (StepOf space H f.triple) (sym w.1) (refused-step space H f.triple w.0))
      (λ h.
      let b = passes-first _ _ (passes-first _ _ h).1 in
      let d = passes-first _ _ b.1 in
      subst (StepOf space H f.triple) (sym (decided-passes (plain_checks v roster f) _ h)) (either_step f.kind space H f.triple b.0 (not-false _ d.0)))
      (decided_cases (plain_checks v roster f) (judged_as f.kind space H f.triple))

  -- the triple of an accepted feed stands at the place that is reported
  abbrev Stands : List Triple → Triple → Triple → Outcome (Answer Said) → Type 0
  Stands H t d o = (x : Answer Said) → o ≡ accepted x → get_or (held_then (accepted x) t H) x.place d ≡ t

  judged-stands : (space : ℕ) (H : List Triple) (t d : Triple) → Rising H → Stands H t d (judged space H t)
  unfolding judged held_then after_saying
  judged-stands space H t d r =
      cond_cases (Stands H t d) (holds t H)
      (λ e x q. subst (λ (y : Answer Said). get_or (after_saying y.says t H) y.place d ≡ t) (same-value q) (right.held e d))
      (λ e. cond_cases (Stands H t d) (leb space (length H))
      (λ l x q. absurd (not_accepted q))
      (λ l x q. subst (λ (y : Answer Said). get_or (after_saying y.says t H) y.place d ≡ t) (same-value q) (right.joined d)))
    where
      right : PlaceRight t H
      right = place-right t H r

  -- a call that is accepted passed the checks
  judged_so : (kind : Kind) (space : ℕ) (H : List Triple) (f : Call) (x : Answer Said) → f.kind ≡ kind → reply_to v roster space H f ≡ accepted x
      → judged_as kind space H f.triple ≡ accepted x
  unfolding reply_to
  judged_so kind space H f x k q =
      ⊎_elim (λ w. absurd (not_accepted (sym w.1 ∙ q)))
      (λ h. ap (λ (z : Kind). judged_as z space H f.triple) (sym k) ∙ sym (decided-passes (plain_checks v roster f) _ h) ∙ q)
      (decided_cases (plain_checks v roster f) (judged_as f.kind space H f.triple))

  pub fed_stands : (space : ℕ) (H : List Triple) (f : Call) (d : Triple) → Rising H → f.kind ≡ feeding → Stands H f.triple d (reply_to v roster space H f)
  fed_stands space H f d r k x q = judged-stands space H f.triple d r x (judged_so feeding space H f x k q)

  -- a triple that is removed was held, and stood at the place that is reported
  removal-held : (H : List Triple) (t : Triple) (x : Answer Said) → judged_removal H t ≡ accepted x → (holds t H ≡ true) × (answer removed (place t H) ≡ x)
  unfolding judged_removal
  removal-held H t x =
      cond_cases (λ (o : Outcome (Answer Said)). o ≡ accepted x → (holds t H ≡ true) × (answer removed (place t H) ≡ x)) (holds t H)
      (λ e q. (e, same-value q)) (λ e q. absurd (not_accepted q))

  pub removed_stood : (space : ℕ) (H : List Triple) (f : Call) (x : Answer Said) (d : Triple) → Rising H → f.kind ≡ removing → reply_to v roster space H f ≡ accepted x
      → get_or H x.place d ≡ f.triple
  removed_stood space H f x d r k q =
      let w = removal-held H f.triple x (judged_so removing space H f x k q) in
      ap (λ (y : Answer Said). get_or H y.place d) (sym w.1) ∙ (place-right f.triple H r).held w.0 d

  -- a slot set free takes a later triple
  new-judged : (space : ℕ) (K : List Triple) (t : Triple) → holds t K ≡ false → length K < space → judged space K t ≡ accepted (answer new (place t K))
  unfolding judged
  new-judged space K t e l = λ i. cond (e i) (accepted (answer not_new (place t K))) (cond (lt-leb space (length K) l i) (refused 7) (accepted (answer new (place t K))))

  pub slot_freed : (space : ℕ) (H : List Triple) (c d : Call) (x : Answer Said) → length H ≤ space → c.kind ≡ removing → reply_to v roster space H c ≡ accepted x
      → d.kind ≡ feeding → Passes (plain_checks v roster d) → holds d.triple (without c.triple H) ≡ false
      → reply_to v roster space (without c.triple H) d ≡ accepted (answer new (place d.triple (without c.triple H)))
  unfolding reply_to
  slot_freed space H c d x few k q n p e =
      let w = removal-held H c.triple x (judged_so removing space H c x k q) in
      let K = without c.triple H in
      decided-passes (plain_checks v roster d) _ p ∙ ap (λ (z : Kind). judged_as z space K d.triple) n
      ∙ new-judged space K d.triple e (omega (arith, few, without-length c.triple H (holds-mem c.triple H w.0)))

  pub next-holds : (space : ℕ) (H : List Triple) (f : Call) → Holds space H → Holds space (next space H f)
  unfolding wrong_codes covers
  next-holds space H f h = go (step_of space H f)
    where
      t : Triple
      t = f.triple

      go : StepOf space H t (reply_to v roster space H f) → Holds space (next space H f)
      go (stayed e n r) = subst (Holds space) (sym e) h
      go (taken was e n r) =
          subst (Holds space) (sym e)
          (record {
            rising = without-rising t H h.rising;
            fits = omega (arith, without-length t H (holds-mem t H was), h.fits);
            codes = none_any (wrong_triple v (length roster)) (without t H) (λ u m. any_none (wrong_triple v (length roster)) H h.codes u (without-mem t u H m));
            covered = at_all (covers_triple v roster) (without t H) (λ u m. all-at (covers_triple v roster) H h.covered u (without-mem t u H m));
          })
      go (added right cover fresh free e n r) =
          subst (Holds space) (sym e)
          (record {
            rising = insert-rising t H h.rising;
            fits = omega (arith, insert-new t H fresh, free);
            codes = none_any (wrong_triple v (length roster)) (insert t H)
                (λ u m. ⊎_elim (λ (q : u ≡ t). ap (wrong_triple v (length roster)) q ∙ right) (λ k. any_none (wrong_triple v (length roster)) H h.codes u k) (insert-mem t u H m));
            covered = at_all (covers_triple v roster) (insert t H)
                (λ u m. ⊎_elim (λ (q : u ≡ t). ap (covers_triple v roster) q ∙ cover) (λ k. all-at (covers_triple v roster) H h.covered u k) (insert-mem t u H m));
          })

  pub held-holds : (space : ℕ) (cs : List Call) (H : List Triple) → Holds space H → Holds space (held_after v roster space cs H)
  unfolding held_after
  held-holds space [] H h = h
  held-holds space (f ∷ cs) H h = held-holds space cs (next space H f) (next-holds space H f h)

  -- ── how many are held ──
  one : Bool → ℕ
  one b = cond b 1 0

  next-count : (space : ℕ) (H : List Triple) (f : Call)
      → length (next space H f) + one (is_removed (reply_to v roster space H f)) ≡ length H + one (is_new (reply_to v roster space H f))
  unfolding one
  next-count space H f = go (step_of space H f)
    where
      go : StepOf space H f.triple (reply_to v roster space H f)
          → length (next space H f) + one (is_removed (reply_to v roster space H f)) ≡ length H + one (is_new (reply_to v roster space H f))
      go (stayed e n r) = omega (arith, ap {B = ℕ} (λ (l : List Triple). length l) e, ap {B = ℕ} one n, ap {B = ℕ} one r)
      go (added right cover fresh free e n r) = omega (arith, ap {B = ℕ} (λ (l : List Triple). length l) e, insert-new f.triple H fresh, ap {B = ℕ} one n, ap {B = ℕ} one r)
      go (taken was e n r) =
          omega (arith, ap {B = ℕ} (λ (l : List Triple). length l) e, without-length f.triple H (holds-mem f.triple H was), ap {B = ℕ} one n, ap {B = ℕ} one r)

  held-count : (space : ℕ) (cs : List Call) (H : List Triple)
      → length (held_after v roster space cs H) + how_many is_removed (answers v roster space cs H) ≡ length H + how_many is_new (answers v roster space cs H)
  unfolding held_after answers how_many one
  held-count space [] H = refl
  held-count space (f ∷ cs) H = omega (arith, next-count space H f, held-count space cs (next space H f))

  -- ── feeding a table in any order, with repeats ──
  -- a feed that no check refuses
  abbrev pub Good : Call → Type 0
  Good f = (f.kind ≡ feeding) × Passes (plain_checks v roster f)

  -- where all that is held and fed is among as many triples as there are slots, every feed's triple is held afterwards
  module _ (space : ℕ) (U : List Triple) (few : length U ≤ space) where
    judged-has : (H : List Triple) (t : Triple) → Rising H → ((u : Triple) → Mem u H → Mem u U) → Mem t U → held_then (judged space H t) t H ≡ insert t H
    unfolding judged held_then after_saying
    judged-has H t r u m =
        cond_cases (λ (o : Outcome (Answer Said)). held_then o t H ≡ insert t H) (holds t H) (λ k. sym (insert-same t H r (holds-mem t H k)))
        (λ k. cond_cases (λ (o : Outcome (Answer Said)). held_then o t H ≡ insert t H) (leb space (length H))
        (λ l. absurd (omega (arith, leb-true space (length H) l, insert-new t H k, more, few))) (λ l. refl))
      where
        more : length (insert t H) ≤ length U
        more =
            rising-length (insert t H) U (insert-rising t H r)
            (λ x n. ⊎_elim (λ (q : x ≡ t). subst (λ (z : Triple). Mem z U) (sym q) m) (λ n. u x n) (insert-mem t x H n))

    next-has : (H : List Triple) (f : Call) → Good f → Rising H → ((t : Triple) → Mem t H → Mem t U) → Mem f.triple U → next space H f ≡ insert f.triple H
    unfolding reply_to
    next-has H f g r u m =
        ap (λ (o : Outcome (Answer Said)). held_then o f.triple H)
        (decided-passes (plain_checks v roster f) _ g.1 ∙ ap (λ (z : Kind). judged_as z space H f.triple) g.0) ∙ judged-has H f.triple r u m

    pub record Collected (cs : List Call) (H out : List Triple) : Type 0 where
      pub rising : Rising out
      pub members : (t : Triple) → Mem t out ↔ (Mem t H ⊎ Mem t (map (λ (f : Call). f.triple) cs))

    pub held_all : (cs : List Call) (H : List Triple) → ((f : Call) → Mem f cs → Good f × Mem f.triple U) → Rising H
        → ((t : Triple) → Mem t H → Mem t U) → Collected cs H (held_after v roster space cs H)
    unfolding held_after
    held_all [] H g r u = record { rising = r; members = λ t. (λ m. inl m, λ w. ⊎_elim (λ m. m) (λ m. absurd (no-mem m)) w) }
    held_all (f ∷ cs) H g r u =
        let w = g f (here refl) in
        let e = next-has H f w.0 r u w.1 in
        let rest = held_all cs (insert f.triple H) (λ k m. g k (there m)) (insert-rising f.triple H r)
        (λ t n. ⊎_elim (λ (q : t ≡ f.triple). subst (λ (z : Triple). Mem z U) (sym q) w.1) (λ n. u t n) (insert-mem f.triple t H n)) in
        subst (λ (K : List Triple). Collected (f ∷ cs) H (held_after v roster space cs K)) (sym e)
        (record {
          rising = rest.rising;
          members = λ t. (
            λ m. ⊎_elim (λ k. ⊎_elim (λ (q : t ≡ f.triple). inr (here q)) (λ n. inl n) (insert-mem f.triple t H k)) (λ k. inr (there k)) ((rest.members t).0 m),
            λ x. (rest.members t).1
                (⊎_elim (λ m. inl (insert-keeps f.triple t H m))
                (λ m. ⊎_elim (λ (q : t ≡ f.triple). inl (subst (λ (z : Triple). Mem z (insert f.triple H)) (sym q) (insert-self f.triple H))) (λ n. inr n) (mem-cases m)) x),
          );
        })

  -- ── the state of an intake that holds H ──
  abbrev space_of : State → ℕ
  space_of s = slots s.triples

  third : (l k : ℕ) → k ≤ l / 3 → 3 * k ≤ l
  third l k h = omega arith

  -- both triple lists have the same slots, and there are as many weights
  pub record Sized (s : State) : Type 0 where
    pub equal : slots s.triples ≡ slots s.summary
    pub weights_size : length s.weights ≡ slots s.triples
    pub map_size : length s.map ≡ length roster

  pub state-sizes : (s : State) (H : List Triple) → Sized s → length H ≤ space_of s → Kept s (state_of v roster s H)
  unfolding state_of slots
  state-sizes s H z h =
      record {
        in_triples = length-listed (length s.triples) H (third (length s.triples) (length H) h);
        in_summary = length-listed (length s.summary) (summary v roster H) (third (length s.summary) _ (omega (arith, condensed-length (map_of v roster H) H, z.equal)));
        in_weights = length-padded (length s.weights) (weights v roster H) (omega (arith, weights-length (map_of v roster H) H, condensed-length (map_of v roster H) H, z.weights_size));
        in_map = length_map_of v roster H ∙ sym z.map_size;
      }

  -- states of one size have one state for each H
  same-state : (s z : State) (H : List Triple) → Kept s z → state_of v roster z H ≡ state_of v roster s H
  unfolding state_of
  same-state s z H e = λ i.
      record {
        triples = listed (e.in_triples i) H;
        summary = listed (e.in_summary i) (summary v roster H);
        weights = padded (e.in_weights i) (weights v roster H);
        map = map_of v roster H;
        held = length H;
        summarised = length (summary v roster H);
      }

  -- the lists' check goes by their lengths
  lists-same : (s z : State) → Kept s z → wrong_lists v roster z ≡ wrong_lists v roster s
  unfolding wrong_lists slots
  lists-same s z e = λ i.
      wrong_size (length roster)
      || (not (eqb (e.in_map i) (length roster))
      || (not (eqb (e.in_triples i / 3) (e.in_summary i / 3)) || (ltb 1048576 (e.in_triples i / 3) || not (eqb (e.in_weights i) (e.in_triples i / 3)))))

  -- ── a run of calls ──
  -- a state that holds H, in lists of right sizes
  pub record Good-state (s : State) (H : List Triple) : Type 0 where
    pub lists : wrong_lists v roster s ≡ false
    pub sized : Sized s
    pub holds_it : Holds (space_of s) H
    pub is_state : s ≡ state_of v roster s H

  good_valid : (s : State) (H : List Triple) → Good-state s H → Valid v roster s H
  good_valid s H g =
      record { rising = g.holds_it.rising; fits = g.holds_it.fits; codes = g.holds_it.codes; covered = g.holds_it.covered; is_state = g.is_state }

  good-next : (s z : State) (K : List Triple) → wrong_lists v roster s ≡ false → Sized s → Holds (space_of s) K → Kept s z → z ≡ state_of v roster s K → Good-state z K
  unfolding slots
  good-next s z K l d h e q =
      record {
        lists = lists-same s z e ∙ l;
        sized = record {
          equal = ap (λ (x : ℕ). x / 3) e.in_triples ∙ d.equal ∙ ap (λ (x : ℕ). x / 3) (sym e.in_summary);
          weights_size = e.in_weights ∙ d.weights_size ∙ ap (λ (x : ℕ). x / 3) (sym e.in_triples);
          map_size = e.in_map ∙ d.map_size;
        };
        holds_it = subst (λ (x : ℕ). Holds (x / 3) K) (sym e.in_triples) h;
        is_state = q ∙ sym (same-state s z K e);
      }

  -- with right lists and a right roster a call's checks are the plain intake's
  call_outcome : (s : State) (f : Call) (H : List Triple) → wrong_lists v roster s ≡ false → wrong_words v (length roster) ≡ false → wrong_roster v roster ≡ false
      → decided (intake_checks v roster s f.triple f.work) (judged_as f.kind (space_of s) H f.triple) ≡ reply_to v roster (space_of s) H f
  unfolding intake_checks reply_to decided
  call_outcome s f H l w m = λ i.
      decided
      (check 1 (l i || wrong_work (length roster) f.work)
      ∷ check 10 (w i)
      ∷ check 2 (m i)
      ∷ check 3 (wrong_triple v (length roster) f.triple)
      ∷ check 4 (not (covers_triple v roster f.triple))
      ∷ [])
      (judged_as f.kind (space_of s) H f.triple)

  pub run-plain : (words : wrong_words v (length roster) ≡ false) (marks : wrong_roster v roster ≡ false) {s end : State} {cs : List Call} {os : List (Outcome (Answer Said))} → Run v roster s cs os end → (H : List Triple) → Good-state s H
      → (os ≡ answers v roster (space_of s) cs H) × (end ≡ state_of v roster s (held_after v roster (space_of s) cs H))
  unfolding answers held_after slots
  run-plain words marks none H g = (refl, g.is_state)
  run-plain words marks {s} {end} (then_called {after} {kind} {t} {outcome} {cs} {os} work work-after p run) H g =
      let f : Call = record { kind = kind; triple = t; work = length work } in
      let k = p.steps H (good_valid s H g) in
      let e : outcome ≡ reply_to v roster (space_of s) H f = k.0 ∙ call_outcome s f H g.lists words marks in
      let K : List Triple = next (space_of s) H f in
      let q : after ≡ state_of v roster s K = k.1 ∙ ap (λ (o : Outcome (Answer Said)). state_of v roster s (held_then o t H)) e in
      let h : Holds (space_of s) K = next-holds (space_of s) H f g.holds_it in
      let sizes : Kept s after = p.in_any_state.kept in
      let rest = run-plain words marks run K (good-next s after K g.lists g.sized h sizes q) in (
        λ i. e i ∷ (rest.0 ∙ (λ j. answers v roster (sizes.in_triples j / 3) cs K)) i,
        rest.1 ∙ (λ i. state_of v roster after (held_after v roster (sizes.in_triples i / 3) cs K)) ∙ same-state s after _ sizes,
      )

  -- ── opening ──
  -- an accepted opening leaves the state that holds nothing
  no_node : (c : ℕ) → Node (In []) c → ⊥
  no_node c x = no-mem x.held

  empty-map : length roster ≤ absent → map_of v roster [] ≡ replicate (length roster) absent
  empty-map l =
      ext_get_or absent (map_of v roster []) (replicate (length roster) absent) (length_map_of v roster [] ∙ sym (length-replicate (length roster) absent))
      (λ c h. map-absent v roster [] (λ t m. absurd (no-mem m)) l c (no_node c) ∙ sym (get_or-replicate (length roster) c absent absent (omega (arith, length_map_of v roster []))))

  empty-summary : summary v roster [] ≡ []
  unfolding condensed sorted
  empty-summary = refl

  empty-weights : weights v roster [] ≡ []
  unfolding weights_by condensed sorted
  empty-weights = refl

  empty-padded : (n : ℕ) → padded n [] ≡ zeros n
  unfolding padded zeros
  empty-padded n = ap (λ (k : ℕ). replicate k 0) (sub-zero n)

  empty-list : (n : ℕ) → listed n [] ≡ zeros n
  unfolding listed flat
  empty-list n = empty-padded n

  pub opened-state : (s : State) → Sized s → length roster ≤ absent → opened v roster s ≡ state_of v roster s []
  unfolding opened state_of
  opened-state s z l =
      let a = sym (empty-list (length s.triples)) in
      let b : zeros (length s.summary) ≡ listed (length s.summary) (summary v roster []) =
      sym (ap (listed (length s.summary)) empty-summary ∙ empty-list (length s.summary)) in
      let w : zeros (length s.weights) ≡ padded (length s.weights) (weights v roster []) =
      sym (ap (padded (length s.weights)) empty-weights ∙ empty-padded (length s.weights)) in
      let m : replicate (length s.map) absent ≡ map_of v roster [] = ap (λ (n : ℕ). replicate n absent) z.map_size ∙ sym (empty-map l) in
      let n : 0 ≡ length (summary v roster []) = ap {B = ℕ} (λ (ts : List Triple). length ts) (sym empty-summary) in
      λ i. record { triples = a i; summary = b i; weights = w i; map = m i; held = 0; summarised = n i }

  pub empty_holds : (space : ℕ) → Holds space []
  unfolding wrong_codes covers any all
  empty_holds space = record { rising = tt; fits = omega arith; codes = refl; covered = refl }

  -- a right opening
  pub record Opening (s : State) : Type 0 where
    pub lists : wrong_lists v roster s ≡ false
    pub words : wrong_words v (length roster) ≡ false
    pub marks : wrong_roster v roster ≡ false

  pub opening : (s : State) → open_outcome v roster s ≡ accepted tt → Opening s
  unfolding open_outcome
  opening s h =
      let a = passed _ _ tt tt h in
      let b = passed _ _ tt tt a.1 in
      let c = passed _ _ tt tt b.1 in
      record { lists = a.0; words = b.0; marks = c.0 }

  pub opening-few : (s : State) → Opening s → (wrong_size (length roster) ≡ false) × (slots s.triples ≤ 1048576)
  unfolding wrong_lists
  opening-few s o =
      let a = or-false (wrong_size (length roster)) _ o.lists in
      let b = or-false (not (eqb (length s.map) (length roster))) _ a.1 in
      let d = or-false (not (eqb (slots s.triples) (slots s.summary))) _ b.1 in
      (a.0, ltb-false 1048576 (slots s.triples) (or-false _ _ d.1).0)

  opening-sized : (s : State) → Opening s → Sized s × (length roster ≤ absent)
  unfolding wrong_lists
  opening-sized s o =
      let a = or-false (wrong_size (length roster)) _ o.lists in
      let b = or-false (not (eqb (length s.map) (length roster))) _ a.1 in
      let d = or-false (not (eqb (slots s.triples) (slots s.summary))) _ b.1 in
      let u = size-bounds (length roster) a.0 in
      let w = or-false (ltb 1048576 (slots s.triples)) _ d.1 in
      (record { equal = eqb-true _ _ (not-false _ d.0); weights_size = eqb-true _ _ (not-false _ w.1); map_size = eqb-true _ _ (not-false _ b.0) }, omega arith)

  -- the whole list of calls after an accepted opening
  pub whole_list : (s end : State) (cs : List Call) (os : List (Outcome (Answer Said))) → open_outcome v roster s ≡ accepted tt → Run v roster (opened v roster s) cs os end
      → (os ≡ answers v roster (slots s.triples) cs []) × (end ≡ state_of v roster s (held_after v roster (slots s.triples) cs []))
  unfolding slots
  whole_list s end cs os h run =
      let o = opening s h in
      let z = opening-sized s o in
      let e = opened-state s z.0 z.1 in
      let k = state-sizes s [] z.0 (omega arith) in
      let g = good-next s (state_of v roster s []) [] o.lists z.0 (empty_holds (slots s.triples)) k refl in
      let w = run-plain o.words o.marks (subst (λ (x : State). Run v roster x cs os end) e run) [] g in (
        w.0 ∙ (λ i. answers v roster (k.in_triples i / 3) cs []),
        w.1 ∙ same-state s (state_of v roster s []) _ k ∙ (λ i. state_of v roster s (held_after v roster (k.in_triples i / 3) cs [])),
      )

  -- 02: "zero past the last summary triple"
  pub weights-past : (s : State) (H : List Triple) (k : ℕ) → (state_of v roster s H).summarised ≤ k → get_or (state_of v roster s H).weights k 0 ≡ 0
  unfolding state_of
  weights-past s H k h = padded-past (length s.weights) (weights v roster H) k (omega (arith, weights-length (map_of v roster H) H))

  -- 02: "the weights add up to accepted new triples less removed ones"
  pub weighed : (s end : State) (cs : List Call) (os : List (Outcome (Answer Said))) → open_outcome v roster s ≡ accepted tt → Run v roster (opened v roster s) cs os end
      → total end.weights + how_many is_removed os ≡ how_many is_new os
  unfolding state_of
  weighed s end cs os h run =
      let w = whole_list s end cs os h run in
      let H = held_after v roster (slots s.triples) cs [] in
      let a : total end.weights ≡ length H =
      ap {B = ℕ} (λ (x : State). total x.weights) w.1 ∙ total-padded (length s.weights) (weights v roster H) ∙ weights-total (map_of v roster H) H in
      subst (λ (xs : List (Outcome (Answer Said))). total end.weights + how_many is_removed xs ≡ how_many is_new xs) (sym w.0)
      (omega (arith, a, held-count (slots s.triples) cs []))

  -- feeding a table's triples, in any order and with repeats, into slots enough
  pub any_order : (ts : List Triple) (R : Right v roster ts) (space : ℕ) (cs : List Call) → length (sorted ts) ≤ space
      → ((f : Call) → Mem f cs → (f.kind ≡ feeding) × (f.work ≡ 2 * length roster)) → ((t : Triple) → Mem t (map (λ (f : Call). f.triple) cs) ↔ Mem t ts)
      → (held_after v roster space cs [] ≡ sorted ts) × (summary v roster (held_after v roster space cs []) ≡ summary v roster ts) × (map_of v roster (held_after v roster space cs []) ≡ map_of v roster ts)
  unfolding wrong_work wrong_codes covers
  any_order ts R space cs few work same =
      let c = held_all space (sorted ts) few cs []
      (λ f m. let k = (same f.triple).0 (mem-map (λ (x : Call). x.triple) cs f m refl) in (good f (work f m) k, mem-sorted f.triple ts k)) tt (λ t m. absurd (no-mem m)) in
      let members : Same (In (held_after v roster space cs [])) (In ts) =
      λ t. (λ m. ⊎_elim (λ n. absurd (no-mem n)) (λ n. (same t).0 n) ((c.members t).0 m), λ m. (c.members t).1 (inr ((same t).1 m))) in
      let b : AllBelow (length roster) (held_after v roster space cs []) = λ t m. below v roster ts R t ((members t).0 m) in (
        rising_unique _ (sorted ts) c.rising (sorted-rising ts) (λ t. (λ m. mem-sorted t ts ((members t).0 m), λ m. (members t).1 (sorted-mem t ts m))),
        same_summary_of v roster _ ts b (below v roster ts R) (room v roster ts R) members,
        same_map_of v roster _ ts b (below v roster ts R) (room v roster ts R) members,
      )
    where
      good : (f : Call) → (f.kind ≡ feeding) × (f.work ≡ 2 * length roster) → Mem f.triple ts → Good f
      good f e m = (
        e.0,
        first_passes _ _ (ap not (eq-eqb _ _ e.1))
            (first_passes _ _ (any_none (wrong_triple v (length roster)) ts R.codes f.triple m)
            (first_passes _ _ (ap not (all-at (covers_triple v roster) ts R.cover f.triple m)) no_checks)),
      )
