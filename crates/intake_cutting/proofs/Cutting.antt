-- A held triple taken out: where the others keep its ends, and with a new summary.
-- Assumes nothing.
use Prim.Native.Nat.{ℕ, ◌-◌, ◌*◌, ◌/◌, ◌<◌, ◌≤◌}
use mathlib.Core.Path.{◌≡◌, refl, sym, ◌∙◌, ap, subst}
use mathlib.Core.Logic.{inl, inr}
use mathlib.Core.Bool.{true, false, true≢false}
use mathlib.Core.List.{List, Memᴰ as Mem}
use native.Mathlib.Omega.{arith}
use lib.ListN.{length, get_or, set}
use Rattle.std.specs.declared.result.Result.TheVariants.{Ok, Err}
use Rattle.model.specs.declared.Triple.{Triple}
use Rattle.model.specs.declared.Refusal.TheVariants.{Missing}
use Rattle.model.specs.declared.Reply.TheVariants.{Removed}
use Rattle.model.specs.declared.Vocabulary.{Vocabulary}
use Rattle.model.specs.Codes.{absent}
use Rattle.model.specs.Lists.{any, padded}
use Rattle.model.specs.Triples.{slots, without, listed}
use Rattle.model.specs.Order.{Rising}
use Rattle.model.specs.Roster.{covers_triple, covers, wrong_triple, wrong_codes}
use Rattle.model.specs.Partition.{label}
use Rattle.model.specs.Classes.{map_of}
use Rattle.model.specs.Summary.{moved, condensed, summary, weights_by, weights}
use Rattle.model.specs.Outcomes.{Outcome, Answer, answer, Said, removed, refusal_number, zeroed, replied, outcome_by, reply}
use Rattle.model.specs.Intake.{State, state_of, Valid}
use Rattle.theory.specs.Tables.{Below, AllBelow, Right}
use Rattle.theory.proofs.Lists.{any_none, none_any, at_all, mem-tabulate}
use Rattle.theory.proofs.Order.{without-length}
use Rattle.theory.proofs.Covered.{codes-right}
use Rattle.theory.proofs.Flat.{padded-at, padded-set}
use Rattle.theory.proofs.Accepted.{size-bounds}
use Rattle.theory.proofs.Summaries.{condensed-rising, condensed-exact}
use Rattle.theory.proofs.Weights.{weights-length, lighter, gone}
use Rattle.theory.proofs.Removal.{removed-map}
use Rattle.lists.specs.Flat.{at, RisingPart, Cleared}
use Rattle.lists.proofs.Compare.{Cmp, lt, eq, gt, cmp}
use Rattle.lists.proofs.Places.{rising-places}
use Rattle.lists.proofs.Search.{cleared-all}
use Rattle.builder.specs.Builder.{first}
use Rattle.intake_opening.specs.Opening.{state_with}
use Rattle.std.specs.declared.option.Option.{Option}
use Rattle.std.specs.declared.option.Option.TheVariants.{None, Some}
use Rattle.intake_insertion.specs.Places.{KnownAt, ImageFound, bad}
use Rattle.intake_calls.specs.Calls.{Ready}
use Rattle.intake_calls.proofs.AnyState.{alters_nothing, alters-less}
use Rattle.intake_calls.proofs.Parts as parts
use Rattle.intake_weighing.specs.Weighing.{Renewable, Renewed}
use Rattle.intake_weighing.proofs.Anew.{few-lines, anew_kept, anew_state}
use Rattle.intake_deletion.specs.Deletion.{Deleted, NumberDeleted, Lightened}
use Rattle.intake_deletion.proofs.Deletion.{deleted_first, deleted_mem, rising-bound, deleted_listed, number_deleted, lightened_sizes}
use Rattle.intake_ends.specs.Ends.{EndsKept}
use Rattle.intake_ends.proofs.Ends.{ends-kept}
use Rattle.intake_cutting.specs.Cutting.{KeptImage, CutCall}

-- ── where the image is known and the ends are kept ──
module _ (v : Vocabulary) (roster triples : List ℕ) (held i : ℕ) (sums : List ℕ) (n : ℕ) (map₀ : List ℕ) (t : Triple) where
  pub not_kept : KeptImage v roster triples held i sums n map₀ t None
  unfolding KeptImage
  not_kept = tt

  pub kept-found : (r : Option ℕ) → EndsKept v roster (at triples) held i t → ImageFound sums n map₀ t r → KeptImage v roster triples held i sums n map₀ t r
  unfolding KeptImage ImageFound
  kept-found None E f = tt
  kept-found (Some j) E f = (E, f)

module _ (v : Vocabulary) (roster triples sums weighed map₀ work : List ℕ) (held summarised i : ℕ)
    (R : Ready v roster triples sums weighed map₀ work (at triples i)) (low : i < held) (fits : held ≤ length triples / 3) where
  abbrev s : State
  s = state_with triples sums weighed map₀ held summarised

  abbrev t : Triple
  t = at triples i

  abbrev Cuts : Outcome (Answer Said) → State → List ℕ → Type 0
  Cuts = CutCall v roster s work i

  room : length roster ≤ absent
  room = omega (arith, size-bounds (length roster) R.size)

  below-roster : Below (length roster) t
  below-roster = (codes-right v (length roster) t R.right).below

  below-map : Below (length map₀) t
  below-map = subst (λ (n : ℕ). Below n t) (sym R.map_size) below-roster

  -- the triple as it is read from the list
  module _ (u : Triple) (e : u ≡ t) where
    pub kept-asks : Below (length roster) u × Below (length map₀) u × (i < held) × (3 * held ≤ length triples)
    kept-asks = (subst (Below (length roster)) (sym e) below-roster, subst (Below (length map₀)) (sym e) below-map, low, omega (arith, fits))

    pub kept_at : (r : Option ℕ) (j : ℕ) → KeptImage v roster triples held i sums summarised map₀ u r → r ≡ Some j
        → EndsKept v roster (at triples) held i t × KnownAt sums summarised map₀ t j
    unfolding KeptImage
    kept_at r j f q =
        subst (λ (x : Triple). EndsKept v roster (at triples) held i x × KnownAt sums summarised map₀ x j) e
        (subst (KeptImage v roster triples held i sums summarised map₀ u) q f)

  -- ── held triples that are wrong ──
  pub cut_wrong : any (bad v roster) (first triples held) ≡ true → Cuts (replied (Err Missing)) s work
  unfolding outcome_by reply refusal_number zeroed any
  cut_wrong h =
      record {
        passes = inl refl;
        in_any_state = alters_nothing s work 9 refl;
        steps = λ H W. absurd (true≢false (sym h ∙ parts.none-bad v roster triples sums weighed map₀ held summarised H W));
      }

  -- ── a state that holds H ──
  module _ (H : List Triple) (W : Valid v roster s H) where
    first-is : first triples held ≡ H
    first-is = parts.first-is v roster triples sums weighed map₀ held summarised H W

    held-is : held ≡ length H
    held-is = parts.held-is v roster triples sums weighed map₀ held summarised H W

    rising : RisingPart (at triples) 0 held
    rising = parts.rising v roster triples sums weighed map₀ held summarised H W

    here : Mem t H
    here = subst (Mem t) first-is (mem-tabulate (at triples) 0 held i (omega arith) (omega (arith, low)))

  module _ (m : List ℕ) (D : Deleted triples m held i) where
    front-is : (H : List Triple) → Valid v roster s H → first m (held - 1) ≡ without t H
    front-is H W =
        deleted_first triples m held i t D low refl (rising-bound (at triples) held i (rising H W) low) ∙ ap (without t) (first-is H W)

    list-is : (H : List Triple) → Valid v roster s H → m ≡ listed (length triples) (without t H)
    list-is H W =
        let e = held-is H W in
        deleted_listed triples m H i (parts.triples-is v roster triples sums weighed map₀ held summarised H W)
        (parts.fits v roster triples sums weighed map₀ held summarised H W) (subst (RisingPart (at triples) 0) e (rising H W)) (omega (arith, low, e))
        (subst (λ (n : ℕ). Deleted triples m n i) e D)

    count-is : (H : List Triple) → Valid v roster s H → held - 1 ≡ length (without t H)
    count-is H W = omega (arith, held-is H W, without-length t H (here H W))

    -- ── a new summary ──
    right-after : any (bad v roster) (first triples held) ≡ false → Right v roster (first m (held - 1))
    unfolding wrong_codes covers
    right-after h =
        record {
          size = R.size;
          words = R.words;
          marks = R.marks;
          codes = none_any (wrong_triple v (length roster)) (first m (held - 1)) (λ u k. (each u k).0);
          cover = at_all (covers_triple v roster) (first m (held - 1)) (λ u k. (each u k).1);
        }
      where
        each : (u : Triple) → Mem u (first m (held - 1)) → (wrong_triple v (length roster) u ≡ false) × (covers_triple v roster u ≡ true)
        each u k = parts.good-parts v roster u (any_none (bad v roster) (first triples held) h u (deleted_mem triples m held i D low u k))

    pub renewable : any (bad v roster) (first triples held) ≡ false → Renewable v m (held - 1) roster sums weighed map₀ work
    renewable h =
        record {
          places = omega (arith, D.size, fits);
          right = right-after h;
          most = omega (arith, fits, R.most);
          summary_room = omega (arith, fits, R.equal);
          weights_room = omega (arith, fits, R.weights_size);
          map_size = R.map_size;
          work_size = R.work_size;
        }

    module _ (h : any (bad v roster) (first triples held) ≡ false) (k : ℕ) (sums' weighed' map' work' : List ℕ)
        (C : Renewed v roster (first m (held - 1)) sums weighed work k sums' weighed' map' work') where
      pub cut_slow : Cuts (replied (Ok (Removed i))) (state_with m sums' weighed' map' (held - 1) k) work'
      unfolding outcome_by reply slots
      cut_slow =
          let A = renewable h in
          record {
            passes = inr (answer removed i, refl, refl);
            in_any_state = alters-less s work i (state_with m sums' weighed' map' (held - 1) k) work' C.in_work
                (omega (arith, fits), omega (arith, few-lines v roster m sums weighed map₀ work (held - 1) A k sums' weighed' map' work' C triples held summarised D.size, R.equal, fits))
                (anew_kept v roster m sums weighed map₀ work (held - 1) A k sums' weighed' map' work' C triples held summarised D.size) low (omega (arith, low));
            steps = λ H W. (
              refl,
              anew_state v roster m sums weighed map₀ work (held - 1) A k sums' weighed' map' work' C triples held summarised D.size (without t H)
                  (front-is H W) (list-is H W) (count-is H W),
            );
          }

    -- ── the map stays ──
    module _ (E : EndsKept v roster (at triples) held i t) (j : ℕ) (K : KnownAt sums summarised map₀ t j) where
      pub lightable : (j < summarised) × (3 * summarised ≤ length sums) × (summarised ≤ length weighed)
      lightable = (K.inside, K.fits, omega (arith, K.fits, R.equal, R.weights_size))

      module _ (lines : ℕ) (sums' weighed' : List ℕ) (L : Lightened sums weighed summarised j lines sums' weighed') where
        module _ (H : List Triple) (W : Valid v roster s H) where
          abbrev sum : List Triple
          sum = summary v roster H

          abbrev ws : List ℕ
          ws = weights v roster H

          abbrev without-t : List Triple
          without-t = without t H

          sums_is : sums ≡ listed (length sums) sum
          sums_is = parts.sums_is v roster triples sums weighed map₀ held summarised H W

          weighed-is : weighed ≡ padded (length weighed) ws
          weighed-is = parts.weighed-is v roster triples sums weighed map₀ held summarised H W

          count-lines : summarised ≡ length sum
          count-lines = parts.summarised-is v roster triples sums weighed map₀ held summarised H W

          as_many : length ws ≡ length sum
          as_many = weights-length (map_of v roster H) H

          inside : j < length sum
          inside = omega (arith, K.inside, count-lines)

          line : get_or sum j t ≡ moved (label (map_of v roster H)) t
          line = parts.line-is v roster triples sums weighed map₀ held summarised H W K.fits t j K

          weight_is : get_or weighed j 0 ≡ get_or ws j 0
          weight_is = ap (λ (l : List ℕ). get_or l j 0) weighed-is ∙ padded-at (length weighed) ws j (omega (arith, inside, as_many))

          map-stays : map_of v roster H ≡ map_of v roster without-t
          map-stays =
              let b : AllBelow (length roster) (first triples held) =
              subst (AllBelow (length roster)) (sym (first-is H W)) (parts.all-below v roster triples sums weighed map₀ held summarised H W) in
              subst (λ (ts : List Triple). map_of v roster ts ≡ map_of v roster (without t ts)) (first-is H W)
              (removed-map v roster (first triples held) t b room (ends-kept (at triples) held i t (rising H W) refl low v roster b room E))

          -- what stands in the summary and its weights afterwards
          record After : Type 0 where
            in_summary : sums' ≡ listed (length sums) (condensed (map_of v roster H) without-t)
            in_weights : weighed' ≡ padded (length weighed) (weights_by (map_of v roster H) without-t)
            count : lines ≡ length (condensed (map_of v roster H) without-t)

          -- others have the image
          after_less : 2 ≤ get_or ws j 0 → After
          after_less h =
              let x = lighter (map_of v roster H) t H W.rising (here H W) j t inside line h in
              let l = L.less (omega (arith, weight_is)) in
              let n : get_or weighed j 0 - 1 ≡ get_or ws j 0 - 1 = ap (λ (k : ℕ). k - 1) weight_is in
              record {
                in_summary = l.1 ∙ sums_is ∙ ap (listed (length sums)) (sym x.0);
                in_weights = l.2 ∙ (λ k. set (weighed-is k) j (n k)) ∙ padded-set (length weighed) ws j _ (omega (arith, inside, as_many))
                    ∙ ap (padded (length weighed)) (sym x.1);
                count = l.0 ∙ count-lines ∙ ap {B = ℕ} (λ (z : List Triple). length z) (sym x.0);
              }

          lines_rise : RisingPart (at sums) 0 (length sum)
          lines_rise =
              let r = rising-places (at sums) 0 (length sum) (subst Rising (sym (ap (first sums) (sym count-lines) ∙ parts.lines_are v roster triples sums weighed map₀ held summarised H W K.fits))
              (condensed-rising (map_of v roster H) H)) in
              λ a b x y z. r a b x y (omega arith)

          image-there : Mem (moved (label (map_of v roster H)) t) sum
          image-there = (condensed-exact (map_of v roster H) H _).1 (t, here H W, refl)

          -- no other has it
          after-gone : get_or ws j 0 ≤ 1 → After
          after-gone h =
              let x = gone (map_of v roster H) t H W.rising (here H W) j t inside line h in
              let l = L.goes (omega (arith, weight_is)) in
              record {
                in_summary = deleted_listed sums sums' sum j sums_is (parts.sum_fits v roster triples sums weighed map₀ held summarised H W K.fits) lines_rise inside
                    (subst (λ (n : ℕ). Deleted sums sums' n j) count-lines l.1)
                    ∙ (λ k. listed (length sums) (without (parts.image-is v roster triples sums weighed map₀ held summarised H W K.fits t j K k) sum)) ∙ ap (listed (length sums)) (sym x.0);
                in_weights = number_deleted weighed weighed' ws j weighed-is (omega (arith, as_many, count-lines, K.fits, R.equal, R.weights_size)) (omega (arith, inside, as_many))
                    (subst (λ (n : ℕ). NumberDeleted weighed weighed' n j) (count-lines ∙ sym as_many) l.2)
                    ∙ ap (padded (length weighed)) (sym x.1);
                count = omega (arith, l.0, count-lines, without-length _ sum image-there, ap {B = ℕ} (λ (z : List Triple). length z) x.0);
              }

          after : After
          after = go (cmp 1 (get_or ws j 0))
            where
              go : Cmp 1 (get_or ws j 0) → After
              go (lt x) = after_less x
              go (eq x) = after-gone (omega arith)
              go (gt x) = after-gone (omega arith)

          state-is : state_with m sums' weighed' map₀ (held - 1) lines ≡ state_of v roster s without-t
          unfolding state_of
          state-is =
              let x1 = list-is H W in
              let x2 : sums' ≡ listed (length sums) (summary v roster without-t) = after.in_summary ∙ ap (λ (z : List ℕ). listed (length sums) (condensed z without-t)) map-stays in
              let x3 : weighed' ≡ padded (length weighed) (weights v roster without-t) = after.in_weights ∙ ap (λ (z : List ℕ). padded (length weighed) (weights_by z without-t)) map-stays in
              let x4 : map₀ ≡ map_of v roster without-t = parts.map_is v roster triples sums weighed map₀ held summarised H W ∙ map-stays in
              let x5 = count-is H W in
              let x6 : lines ≡ length (summary v roster without-t) = after.count ∙ ap {B = ℕ} (λ (z : List ℕ). length (condensed z without-t)) map-stays in
              λ k. record { triples = x1 k; summary = x2 k; weights = x3 k; map = x4 k; held = x5 k; summarised = x6 k }

        pub cut_quick : (w : List ℕ) → Cleared work w 0 (length work) → Cuts (replied (Ok (Removed i))) (state_with m sums' weighed' map₀ (held - 1) lines) w
        unfolding outcome_by reply slots
        cut_quick w C =
            let z = lightened_sizes sums weighed summarised j lines sums' weighed' L in
            record {
              passes = inr (answer removed i, refl, refl);
              in_any_state = alters-less s work i (state_with m sums' weighed' map₀ (held - 1) lines) w (cleared-all work w (length work) C (omega arith))
                  (omega (arith, fits), omega (arith, z.2, K.fits))
                  (record { in_triples = D.size; in_summary = z.0; in_weights = z.1; in_map = refl }) low (omega (arith, low));
              steps = λ H W. (refl, state-is H W);
            }
