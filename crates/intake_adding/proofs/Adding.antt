-- A new triple taken in: without a new summary, and with one.
-- Assumes nothing.
use Prim.Native.Nat.{ℕ, ◌+◌, ◌/◌, ◌%◌, ◌^◌, ◌<◌, ◌≤◌}
use mathlib.Core.Path.{◌≡◌, refl, sym, ◌∙◌, ap, subst}
use mathlib.Core.Logic.{inl, inr, ⊎_elim}
use mathlib.Core.Bool.{true, false, true≢false}
use mathlib.Core.List.{List, Memᴰ as Mem}
use native.Mathlib.Omega.{arith}
use lib.ListN.{length, get_or, set, length-set}
use Rattle.std.specs.declared.result.Result.TheVariants.{Ok, Err}
use Rattle.model.specs.declared.Triple.{Triple}
use Rattle.model.specs.declared.Refusal.TheVariants.{Full}
use Rattle.model.specs.declared.Reply.TheVariants.{New}
use Rattle.model.specs.declared.Vocabulary.{Vocabulary}
use Rattle.model.specs.Codes.{absent}
use Rattle.model.specs.Lists.{any, padded}
use Rattle.model.specs.Triples.{slots, holds, insert, listed}
use Rattle.model.specs.Roster.{covers_triple, covers, wrong_triple, wrong_codes}
use Rattle.model.specs.Partition.{label}
use Rattle.model.specs.Cliques.{Node}
use Rattle.model.specs.Classes.{map_of}
use Rattle.model.specs.Summary.{moved, summary, weights}
use Rattle.model.specs.Outcomes.{Outcome, Answer, answer, Said, new, refusal_number, zeroed, replied, outcome_by, reply}
use Rattle.model.specs.Intake.{State, state_of, Valid}
use Rattle.theory.proofs.Lists.{any_none, none_any, at_all, mem_get_d}
use Rattle.theory.proofs.Order.{insert-mem, insert-new}
use Rattle.theory.specs.Tables.{Below, AllBelow, In, Right}
use Rattle.theory.proofs.Covered.{codes-right}
use Rattle.theory.proofs.Flat.{padded-at, padded-set}
use Rattle.theory.proofs.Accepted.{size-bounds}
use Rattle.theory.proofs.Weights.{weights-length, weights-few}
use Rattle.lists.specs.Flat.{at, RisingPart, Bound, Cleared}
use Rattle.lists.proofs.Search.{cleared-all}
use Rattle.builder.specs.Builder.{first}
use Rattle.intake_insertion.specs.Insertion.{Inserted}
use Rattle.intake_opening.specs.Opening.{state_with}
use Rattle.intake_insertion.specs.Places.{KnownAt, bad}
use Rattle.intake_weighing.specs.Weighing.{Renewable, Renewed}
use Rattle.intake_adding.specs.Adding.{AddCall}
use Rattle.intake_insertion.proofs.Insertion.{new-mem, inserted_first}
use Rattle.intake_adding.proofs.Held.{inserted_listed}
use Rattle.intake_adding.proofs.Quick.{quick_map, quick_summary, quick_weights}
use Rattle.intake_calls.specs.Calls.{Ready}
use Rattle.intake_calls.proofs.AnyState.{alters_nothing, alters-more}
use Rattle.intake_calls.proofs.Parts as parts
use Rattle.intake_weighing.proofs.Anew.{few-lines, anew_kept, anew_state}

module _ (v : Vocabulary) where
  module _ (roster triples sums weighed map₀ work : List ℕ) (held summarised : ℕ) (t : Triple) where
    abbrev s : State
    s = state_with triples sums weighed map₀ held summarised

    module _ (i : ℕ) (R : Ready v roster triples sums weighed map₀ work t) (low : i ≤ held) (free : held < length triples / 3) where
      abbrev Adds : Outcome (Answer Said) → State → List ℕ → Type 0
      Adds = AddCall v roster s work t i

      room : length roster ≤ absent
      room = omega (arith, size-bounds (length roster) R.size)

      pub below-map : Below (length map₀) t
      below-map = subst (λ (n : ℕ). Below n t) (sym R.map_size) (codes-right v (length roster) t R.right).below

      -- ── held triples that are wrong ──
      pub added-wrong : any (bad v roster) (first triples held) ≡ true → Adds (replied (Err Full)) s work
      unfolding outcome_by reply refusal_number zeroed any
      added-wrong h =
          record {
            passes = inl refl;
            in_any_state = alters_nothing s work 7 refl;
            steps = λ H W B f. absurd (true≢false (sym h ∙ parts.none-bad v roster triples sums weighed map₀ held summarised H W));
          }

      module _ (m : List ℕ) (I : Inserted triples m held i t) where
        front-is : (H : List Triple) → Valid v roster s H → Bound (at triples) 0 held t i → holds t H ≡ false → first m (held + 1) ≡ insert t H
        front-is H W B f =
            let e = parts.first-is v roster triples sums weighed map₀ held summarised H W in
            inserted_first triples m held i t I low (parts.rising v roster triples sums weighed map₀ held summarised H W) B (ap (holds t) e ∙ f) ∙ ap (insert t) e

        list-is : (H : List Triple) → Valid v roster s H → Bound (at triples) 0 held t i → holds t H ≡ false → m ≡ listed (length triples) (insert t H)
        list-is H W B f =
            let e = parts.held-is v roster triples sums weighed map₀ held summarised H W in
            inserted_listed triples m H i t (parts.triples-is v roster triples sums weighed map₀ held summarised H W) (omega (arith, e, free)) (subst (RisingPart (at triples) 0) e (parts.rising v roster triples sums weighed map₀ held summarised H W)) (subst (λ (n : ℕ). Bound (at triples) 0 n t i) e B) f
            (subst (λ (n : ℕ). Inserted triples m n i t) e I)

        count-is : (H : List Triple) → Valid v roster s H → holds t H ≡ false → held + 1 ≡ length (insert t H)
        count-is H W f = omega (arith, parts.held-is v roster triples sums weighed map₀ held summarised H W, insert-new t H f)

        -- ── the summary stays ──
        module _ (j : ℕ) (K : KnownAt sums summarised map₀ t j) where
          pub weight-there : j < length weighed
          weight-there = omega (arith, K.inside, K.fits, R.equal, R.weights_size)

          module _ (H : List Triple) (W : Valid v roster s H) (f : holds t H ≡ false) where
            abbrev sum : List Triple
            sum = summary v roster H

            me : Below (length roster) t
            me = (codes-right v (length roster) t R.right).below

            node : (c : ℕ) → (label map₀ c ≡ absent → ⊥) → Node (In H) c
            node c n = parts.node v roster triples sums weighed map₀ held summarised H W c room n

            all : AllBelow (length roster) H
            all = parts.all-below v roster triples sums weighed map₀ held summarised H W

            inside : j < length sum
            inside = omega (arith, K.inside, parts.summarised-is v roster triples sums weighed map₀ held summarised H W)

            -- the image stands at place j of the summary
            line : get_or sum j t ≡ moved (label (map_of v roster H)) t
            line = parts.line-is v roster triples sums weighed map₀ held summarised H W K.fits t j K

            known : Mem (moved (label (map_of v roster H)) t) sum
            known = subst (λ (u : Triple). Mem u sum) line (mem_get_d sum t j inside)

            map-stays : map_of v roster H ≡ map_of v roster (insert t H)
            map-stays = quick_map v roster H t all me room (node t.subject K.subject) (node t.object K.object) known

            summary-stays : sum ≡ summary v roster (insert t H)
            summary-stays = quick_summary v roster H t all me room (node t.subject K.subject) (node t.object K.object) known

            -- the weight that is raised is far below the highest number
            small : (get_or (weights v roster H) j 0 + 1) % 2 ^ 32 ≡ get_or (weights v roster H) j 0 + 1
            unfolding slots
            small = mod-small _ (omega (arith, weights-few (map_of v roster H) H j t inside, W.fits, R.most))
              where
                mod-small : (x : ℕ) → x < 4294967296 → x % 2 ^ 32 ≡ x
                mod-small x h = omega arith

            weighed_then : (w : List ℕ) → w ≡ set weighed j ((get_or weighed j 0 + 1) % 2 ^ 32) → w ≡ padded (length weighed) (weights v roster (insert t H))
            weighed_then w e =
                let n = length weighed in
                let xs = weights v roster H in
                let i : j < length xs = omega (arith, inside, weights-length (map_of v roster H) H) in
                let a : get_or weighed j 0 ≡ get_or xs j 0 = ap (λ (l : List ℕ). get_or l j 0) (parts.weighed-is v roster triples sums weighed map₀ held summarised H W) ∙ padded-at n xs j i in
                e ∙ (λ k. set (parts.weighed-is v roster triples sums weighed map₀ held summarised H W k) j ((a k + 1) % 2 ^ 32)) ∙ ap (set (padded n xs) j) small ∙ padded-set n xs j _ i
                ∙ ap (padded n)
                (sym (quick_weights v roster H t all me room (node t.subject K.subject) (node t.object K.object) known j t f inside line))

          pub added_quick : (weighed' : List ℕ) → weighed' ≡ set weighed j ((get_or weighed j 0 + 1) % 2 ^ 32) → (w : List ℕ) → Cleared work w 0 (length work)
              → Adds (replied (Ok (New i))) (state_with m sums weighed' map₀ (held + 1) summarised) w
          unfolding outcome_by reply state_of slots
          added_quick weighed' e w C =
              record {
                passes = inr (answer new i, refl, refl);
                in_any_state = alters-more s work i (state_with m sums weighed' map₀ (held + 1) summarised) w (cleared-all work w (length work) C (omega arith))
                    (omega (arith, free), omega (arith, K.fits))
                    (record { in_triples = I.size; in_summary = refl; in_weights = ap {B = ℕ} (λ (x : List ℕ). length x) e ∙ length-set weighed j _; in_map = refl })
                    low refl;
                steps = λ H W B f. (refl, state-is H W B f);
              }
            where
              state-is : (H : List Triple) → Valid v roster s H → Bound (at triples) 0 held t i → holds t H ≡ false
                  → state_with m sums weighed' map₀ (held + 1) summarised ≡ state_of v roster s (insert t H)
              state-is H W B f =
                  let x1 = list-is H W B f in
                  let x2 : sums ≡ listed (length sums) (summary v roster (insert t H)) = parts.sums_is v roster triples sums weighed map₀ held summarised H W ∙ ap (listed (length sums)) (summary-stays H W f) in
                  let x3 = weighed_then H W f weighed' e in
                  let x4 : map₀ ≡ map_of v roster (insert t H) = parts.map_is v roster triples sums weighed map₀ held summarised H W ∙ map-stays H W f in
                  let x5 = count-is H W f in
                  let x6 : summarised ≡ length (summary v roster (insert t H)) = parts.summarised-is v roster triples sums weighed map₀ held summarised H W ∙ ap {B = ℕ} (λ (z : List Triple). length z) (summary-stays H W f) in
                  λ j. record { triples = x1 j; summary = x2 j; weights = x3 j; map = x4 j; held = x5 j; summarised = x6 j }

        -- ── a new summary ──
        pub right-after : any (bad v roster) (first triples held) ≡ false → Right v roster (first m (held + 1))
        unfolding wrong_codes covers
        right-after h =
            record {
              size = R.size;
              words = R.words;
              marks = R.marks;
              codes = none_any (wrong_triple v (length roster)) (first m (held + 1)) (λ u k. (each u k).0);
              cover = at_all (covers_triple v roster) (first m (held + 1)) (λ u k. (each u k).1);
            }
          where
            each : (u : Triple) → Mem u (first m (held + 1)) → (wrong_triple v (length roster) u ≡ false) × (covers_triple v roster u ≡ true)
            each u k =
                ⊎_elim
                (λ (e : u ≡ t). (ap (wrong_triple v (length roster)) e ∙ R.right, ap (covers_triple v roster) e ∙ R.cover))
                (λ x. parts.good-parts v roster u (any_none (bad v roster) (first triples held) h u x))
                (insert-mem t u (first triples held) (new-mem triples m held i t I low u k))

        pub renewable : any (bad v roster) (first triples held) ≡ false → Renewable v m (held + 1) roster sums weighed map₀ work
        renewable h =
            record {
              places = omega (arith, I.size, free);
              right = right-after h;
              most = omega (arith, free, R.most);
              summary_room = omega (arith, free, R.equal);
              weights_room = omega (arith, free, R.weights_size);
              map_size = R.map_size;
              work_size = R.work_size;
            }

        module _ (h : any (bad v roster) (first triples held) ≡ false) (k : ℕ) (sums' weighed' map' work' : List ℕ)
            (C : Renewed v roster (first m (held + 1)) sums weighed work k sums' weighed' map' work') where
          pub added_slow : Adds (replied (Ok (New i))) (state_with m sums' weighed' map' (held + 1) k) work'
          unfolding outcome_by reply slots
          added_slow =
              let A = renewable h in
              record {
                passes = inr (answer new i, refl, refl);
                in_any_state = alters-more s work i (state_with m sums' weighed' map' (held + 1) k) work' C.in_work
                    (omega (arith, free), omega (arith, few-lines v roster m sums weighed map₀ work (held + 1) A k sums' weighed' map' work' C triples held summarised I.size, R.equal, free))
                    (anew_kept v roster m sums weighed map₀ work (held + 1) A k sums' weighed' map' work' C triples held summarised I.size) low refl;
                steps = λ H W B f. (
                  refl,
                  anew_state v roster m sums weighed map₀ work (held + 1) A k sums' weighed' map' work' C triples held summarised I.size (insert t H)
                      (front-is H W B f) (list-is H W B f) (count-is H W f),
                );
              }
