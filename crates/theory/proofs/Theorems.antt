-- The theorems that specs/Theorems.antt states.
-- Assumes nothing.
use Prim.Native.Nat.{ℕ, ◌≤◌, ◌<◌}
use mathlib.Core.Path.{◌≡◌, refl, sym, subst, ◌∙◌, ap}
use mathlib.Core.Logic.{◌↔◌, inl, inr, ⊎_elim}
use mathlib.Core.List.{List, []}
use native.Mathlib.Omega.{arith}
use lib.ListN.{length, get_or}
use Rattle.model.specs.declared.Triple.{Triple}
use Rattle.model.specs.declared.Vocabulary.{Vocabulary}
use Rattle.model.specs.Codes.{kind, code_of, most_triples}
use Rattle.model.specs.Lists.{padded}
use Rattle.model.specs.Triples.{triple, triples, slots, listed}
use Rattle.model.specs.Rules.{Derives, given}
use Rattle.model.specs.Intake.{State, held_after, state_of}
use Rattle.model.specs.Saturation.{saturation}
use Rattle.model.specs.Cliques.{Clique, linked}
use Rattle.model.specs.Classes.{map_of}
use Rattle.model.specs.Summary.{weight, weights}
use Rattle.model.specs.Calls.{Accepted, table_checks}
use Rattle.model.specs.Outcomes.{wrong_length, wrong_size}
use Rattle.theory.specs.Theorems.{PlacesRight, TriplesOf, InSaturation, Source, SaturationExact, ConstraintsFollow, CliquesExact, RepresentativesExact}
use Rattle.theory.specs.Theorems.{SummaryExact, StrongRepresentativesExact, StrongSummaryExact, OwnRosterLeast, ShortcutBy, RoutesBy, AgainBy}
use Rattle.theory.specs.Theorems.{AtRestBy, ShortcutHolds, RoutesAccepted, StrongShortcutHolds, StrongRoutesAccepted, WeakOfStrongHolds}
use Rattle.theory.specs.Theorems.{Saturated, AtRestHolds, StrongAtRestHolds, AgainTheSame, StrongAgainTheSame, SaturationSaturated, AnyOrder}
use Rattle.theory.specs.Theorems.{WholeList, FedInAnyOrder, FedStands, RemovedStood, SlotFreed, LeavesRight, WeightsExact, SummaryBounded, PartBounded}
use Rattle.theory.proofs.Tests.{or-false}
use Rattle.theory.proofs.Checks.{passes-first}
use Rattle.theory.proofs.Flat.{triples-flat}
use Rattle.theory.proofs.Covered.{all_codes, kind_of_code}
use Rattle.theory.specs.Tables.{In, Weak, turned, chained, Right}
use Rattle.theory.proofs.Strata.{Types, subjects, objects, Free, inherit, widen}
use Rattle.theory.proofs.Weak.{weakly_weak, weak_weakly, clique_sym, reps-represents}
use Rattle.theory.proofs.Saturated as saturated
use Rattle.theory.proofs.Mapped as mapped
use Rattle.theory.proofs.Summaries as summaries
use Rattle.theory.proofs.OwnRoster as own
use Rattle.theory.proofs.Accepted as accept
use Rattle.theory.proofs.Strong.{Strong, strongly-strong, strong-strongly, strong-flip, strong-through}
use Rattle.theory.proofs.Grouping as grouping
use Rattle.theory.proofs.Grouping.{Grouping, weakly, strongly}
use Rattle.theory.proofs.Constraints.{origin_of, schema-kept}
use Rattle.theory.proofs.Places.{place-right}
use Rattle.theory.proofs.Weights.{weights-length, weights-at, weights-some, weights-total}
use Rattle.theory.proofs.Bounds as bounds
use Rattle.theory.proofs.Feeding as feeding

pub places_right : PlacesRight
places_right t ts r = place-right t ts r

pub leaves_right : LeavesRight
leaves_right t H r = feeding.leaves_right t H r

module _ (v : Vocabulary) where
  pub saturation-exact : SaturationExact v
  saturation-exact table roster h =
      let R = accept.accepted-right v table roster h in
      let b = accept.below v roster (triples table) R in
      record {
        rising = saturated.saturation-rising v (length roster) (accept.type-below R) (triples table) b;
        exact = saturated.saturation-exact v
            (length roster) (accept.type-below R) (triples table) b;
      }

  module _ (table roster : List ℕ) (h : Accepted v table roster) where
    abbrev Derived : ℕ → ℕ → ℕ → Type 0
    Derived s p o = Derives v (TriplesOf table) (triple s p o)

    abbrev Held : ℕ → ℕ → ℕ → Type 0
    Held s p o = InSaturation v table roster s p o

    held : (s p o : ℕ) → Derived s p o → Held s p o
    held s p o d = ((saturation-exact table roster h).exact (triple s p o)).1 d

    derived : (s p o : ℕ) → Held s p o → Derived s p o
    derived s p o m = ((saturation-exact table roster h).exact (triple s p o)).0 m

    -- a code of the vocabulary has its own kind
    kind_at : (k : ℕ) → k < 5 → kind v (code_of v k) ≡ k
    kind_at = kind_of_code v (length roster) (accept.accepted-right v table roster h).words

    -- a property's constraint p is also that of a property below it
    inherits : {k : ℕ} → Types k → (p : ℕ) → kind v p ≡ k → (a b c : ℕ) → Held a v.subproperty b → Held b p c → Held a p c
    unfolding code_of
    inherits w p e a b c x y =
        held a p c (inherit v w (triple a v.subproperty b) (triple b p c) (kind_at 2 (omega arith)) e refl (derived a v.subproperty b x) (derived b p c y))

    -- a constraint p holds with each class above its class too
    widens : {k : ℕ} → Types k → (p : ℕ) → kind v p ≡ k → (a c d : ℕ) → Held a p c → Held c v.subclass d → Held a p d
    unfolding code_of
    widens w p e a c d x y =
        held a p d (widen v w (triple a p c) (triple c v.subclass d) e (kind_at 1 (omega arith)) refl (derived a p c x) (derived c v.subclass d y))

    free : (t : Triple) → TriplesOf table t → Free v t
    free t m = let c = accept.covered v roster (triples table) (accept.accepted-right v table roster h) t m in (c.subject_free, c.object_free)

    sources : {k : ℕ} → Types k → (p : ℕ) → kind v p ≡ k → (a d : ℕ) → Held a p d ↔ Source v table roster p a d
    sources w p e a d = (to, from)
      where
        to : Held a p d → Source v table roster p a d
        to x =
            let s = origin_of v (TriplesOf table) free w p a d e (derived a p d x) in
            record {
              property = s.property;
              class = s.class;
              given = s.held;
              above = ⊎_elim (λ q. inl q) (λ y. inr (held a v.subproperty s.property y)) s.above;
              below = ⊎_elim (λ q. inl q) (λ y. inr (held s.class v.subclass d y)) s.below;
            }

        from : Source v table roster p a d → Held a p d
        from s =
            let here : Held s.property p s.class = held s.property p s.class (given s.given) in
            let wide : Held s.property p d = ⊎_elim (λ q. subst (Held s.property p) q here) (λ y. widens w p e s.property s.class d here y) s.below in
            ⊎_elim (λ q. subst (λ (z : ℕ). Held z p d) (sym q) wide) (λ y. inherits w p e a s.property d y wide) s.above

  pub constraints_follow : ConstraintsFollow v
  unfolding code_of
  constraints_follow table roster h =
      let domain = kind_at table roster h 3 (omega arith) in
      let range = kind_at table roster h 4 (omega arith) in
      record {
        rule_7 = inherits table roster h subjects v.domain domain;
        rule_8 = inherits table roster h objects v.range range;
        rule_9 = widens table roster h subjects v.domain domain;
        rule_10 = widens table roster h objects v.range range;
        domains = sources table roster h subjects v.domain domain;
        ranges = sources table roster h objects v.range range;
        printed = schema-kept v roster (saturation v (length roster) (triples table)) (accept.saturation-right v roster (triples table) (accept.accepted-right v table roster h));
      }

  pub cliques-exact : CliquesExact v
  cliques-exact table roster h e =
      let R = accept.accepted-right v table roster h in
      let b = accept.below v roster (triples table) R in
      let l = accept.room v roster (triples table) R in
      let L = mapped.clique-labels v roster (triples table) b l e in
      record {
        one_clique = λ n m p q x y. (
          λ k. linked (L.related p (record { node = n; has = x }))
              (subst (λ (z : ℕ). Clique v roster (TriplesOf table) e z q) (sym k) (clique_sym v roster (L.related q (record { node = m; has = y })))),
          λ k. mapped.clique-agrees v roster (triples table) b l e k,
        );
        member = λ n p x. L.related p (record { node = n; has = x });
        smallest = λ p q k.
            subst (λ (z : ℕ). z ≤ q) (sym (mapped.clique-agrees v roster (triples table) b l e k)) (L.low q (mapped.clique_cliqued v roster (triples table) b l e k));
        no_clique = λ p f. L.silent p (λ c. f c.node c.has);
        size = mapped.length-cliques v roster e (triples table);
      }

  pub representatives-exact : RepresentativesExact v
  representatives-exact table roster h =
      let R = accept.accepted-right v table roster h in
      let b = accept.below v roster (triples table) R in
      let l = accept.room v roster (triples table) R in
      let F = mapped.map-reps v roster (triples table) b l in
      let d = mapped.data_or v (triples table) in
      record {
        shared = λ c k x y. (
          λ e. weak_weakly v roster d (chained (F.of_plain c x) (turned (subst (Weak v roster (In (triples table)) k) (sym e) (F.of_plain k y)))),
          λ w. mapped.map-agrees v roster (triples table) b l (weakly_weak v roster w),
        );
        represents = reps-represents v roster d F;
        no_node = mapped.map-absent v roster (triples table) b l;
        no_word = λ c e. mapped.map-absent v roster (triples table) b l c (λ x. accept.word-no-node v roster (triples table) R c e x);
        size = mapped.length_map_of v roster (triples table);
      }

  pub summary-exact : SummaryExact v
  summary-exact table roster h = record { rising = summaries.condensed-rising _ (triples table); exact = summaries.condensed-exact _ (triples table) }

  pub summary_bounded : SummaryBounded v
  summary_bounded table roster h =
      let R = accept.accepted-right v table roster h in
      bounds.bounded v roster (triples table) (accept.below v roster (triples table) R) (accept.room v roster (triples table) R)

  pub part_bounded : PartBounded v
  part_bounded roster part ts among = bounds.part_bounded v roster part ts among

  pub strong-representatives-exact : StrongRepresentativesExact v
  strong-representatives-exact table roster h =
      let R = accept.accepted-right v table roster h in
      let b = accept.below v roster (triples table) R in
      let l = accept.room v roster (triples table) R in
      let F = mapped.strong-reps v roster (triples table) b l in
      let d = mapped.has_or v roster (triples table) b l in
      record {
        shared = λ c k x y. (
          λ e. strong-strongly v roster d (strong-through v roster (F.of_plain c x) (strong-flip v roster (subst (Strong v roster (In (triples table)) k) (sym e) (F.of_plain k y)))),
          λ w. mapped.strong-agrees v roster (triples table) b l (strongly-strong v roster w),
        );
        represents = record {
          of_marked = F.of_marked;
          of_plain = λ n x. strong-strongly v roster d (F.of_plain n x);
          least = λ n m x w. F.least n m x (strongly-strong v roster w);
        };
        no_node = mapped.strong-absent v roster (triples table) b l;
        no_word = λ c e. mapped.strong-absent v roster (triples table) b l c (λ x. accept.word-no-node v roster (triples table) R c e x);
        size = mapped.length-strong-map v roster (triples table);
      }

  pub strong-summary-exact : StrongSummaryExact v
  strong-summary-exact table roster h = record { rising = summaries.condensed-rising _ (triples table); exact = summaries.condensed-exact _ (triples table) }

  pub own-roster-least : OwnRosterLeast v
  own-roster-least n ts h =
      let c = all_codes v n ts h in
      record {
        size = own.own-length v n ts;
        right = own.own-right v n ts c;
        covering = own.own-covers v n ts (λ t m. (c t m).below);
        least = own.own-least v n ts;
      }

  -- ── the routes of the shortcut, by any grouping ──
  -- a table's length is that of at most so many triples
  table-few : (table roster : List ℕ) → Accepted v table roster → length (triples table) ≤ most_triples
  unfolding table_checks
  table-few table roster h = accept.few_triples table (or-false (wrong_length (length table)) _ (or-false (wrong_size (length roster)) _ (passes-first _ _ h).0).1).0

  module _ (table roster : List ℕ) (h : Accepted v table roster) (K : Grouping v roster) where
    abbrev ts : List Triple
    ts = triples table

    R : Right v roster ts
    R = accept.accepted-right v table roster h

    shortcut-by : ShortcutBy v K.map_of_lem table roster
    shortcut-by = record { triples = grouping.shortcut-summary v roster K ts R; maps = grouping.shortcut-map v roster K ts R }

    routes-by : RoutesBy v K.map_of_lem table roster
    routes-by =
        let S = grouping.sum-right v roster K ts R in
        record {
          summary_accepted = accept.right-accepted v roster _ S (omega (arith, summaries.condensed-length (K.map_of_lem ts) ts, table-few table roster h));
          saturation_accepted = λ l. accept.right-accepted v roster _ (accept.saturation-right v roster ts R) l;
          shorter = grouping.shortcut-shorter v roster K ts R;
          second_accepted = λ l. accept.right-accepted v roster _ (accept.saturation-right v roster _ S) l;
        }

    again_by : AgainBy v K.map_of_lem table
    again_by =
        record {
          same_triples = grouping.rest-again v roster K ts R;
          own_nodes = grouping.rest-own v roster K ts R;
          no_node = grouping.rest-absent v roster K ts R;
          carried = grouping.rest-carried v roster K ts R;
        }

    at-rest-by : Saturated v table → AtRestBy v K.map_of_lem table roster
    at-rest-by closed = record { saturated = grouping.rest-saturated v roster K ts R closed; again = again_by }

  pub shortcut-holds : ShortcutHolds v
  shortcut-holds table roster h = shortcut-by table roster h (weakly v roster)

  pub routes-accepted : RoutesAccepted v
  routes-accepted table roster h = routes-by table roster h (weakly v roster)

  pub strong-shortcut-holds : StrongShortcutHolds v
  strong-shortcut-holds table roster h = shortcut-by table roster h (strongly v roster)

  pub strong-routes-accepted : StrongRoutesAccepted v
  strong-routes-accepted table roster h = routes-by table roster h (strongly v roster)

  pub weak_of_strong_holds : WeakOfStrongHolds v
  weak_of_strong_holds table roster h =
      let R = accept.accepted-right v table roster h in
      record { triples = grouping.weak_of_strong v roster (triples table) R; maps = grouping.strong_then_weak v roster (triples table) R }

  pub any_order : AnyOrder v
  any_order table roster h space few cs work same =
      let R = accept.accepted-right v table roster h in
      let c = feeding.any_order v roster (triples table) R space cs few work same in
      record { held = c.0; summarised = c.1; mapped = c.2 }

  pub fed_stands : FedStands v
  fed_stands roster space H c x d r k q = feeding.fed_stands v roster space H c d r k x q

  pub removed_stood : RemovedStood v
  removed_stood roster space H c x d r k q = feeding.removed_stood v roster space H c x d r k q

  pub slot_freed : SlotFreed v
  slot_freed roster space H c d x few k q n p e = feeding.slot_freed v roster space H c d x few k q n p e

  pub whole_list : WholeList v
  whole_list roster s end cs os h run =
      let w = feeding.whole_list v roster s end cs os h run in
      let o = feeding.opening v roster s h in
      let z = feeding.opening-few v roster s o in
      let k = feeding.held-holds v roster (slots s.triples) cs [] (feeding.empty_holds v roster (slots s.triples)) in
      let R : Right v roster (held_after v roster (slots s.triples) cs []) =
      record { size = z.0; words = o.words; marks = o.marks; codes = k.codes; cover = k.covered } in
      record {
        answered = w.0;
        state = w.1;
        rising = k.rising;
        accepted_table = accept.right-accepted v roster _ R (omega (arith, k.fits, z.1));
        past = subst (λ (x : State). (k : ℕ) → x.summarised ≤ k → get_or x.weights k 0 ≡ 0) (sym w.1) (feeding.weights-past v roster s _);
        weighed = feeding.weighed v roster s end cs os h run;
      }

  pub weights_exact : WeightsExact v
  unfolding weight
  weights_exact roster H =
      let m = map_of v roster H in
      record {
        beside = weights-length m H;
        counts = λ k d h. weights-at m H k d h;
        some = λ k h. weights-some m H k (triple 0 0 0) h;
        sum = weights-total m H;
      }

  pub fed_in_any_order : FedInAnyOrder v
  unfolding state_of
  fed_in_any_order table roster h s end cs os op few work same run =
      let c = any_order table roster h (slots s.triples) few cs work same in
      let e = (whole_list roster s end cs os op run).state in
      let K = held_after v roster (slots s.triples) cs [] in
      record {
        triples = ap (λ (x : State). x.triples) e ∙ ap (listed (length s.triples)) c.held;
        summary = ap (λ (x : State). x.summary) e ∙ ap (listed (length s.summary)) c.summarised;
        weights = ap (λ (x : State). x.weights) e ∙ ap (λ (ts : List Triple). padded (length s.weights) (weights v roster ts)) c.held;
        map = ap (λ (x : State). x.map) e ∙ c.mapped;
        held = ap (λ (x : State). x.held) e ∙ ap {B = ℕ} (λ (ts : List Triple). length ts) c.held;
        summarised = ap (λ (x : State). x.summarised) e ∙ ap {B = ℕ} (λ (ts : List Triple). length ts) c.summarised;
      }

  -- ── a shipped summary is at rest ──
  pub at-rest-holds : AtRestHolds v
  at-rest-holds table roster h = at-rest-by table roster h (weakly v roster)

  pub strong-at-rest-holds : StrongAtRestHolds v
  strong-at-rest-holds table roster h = at-rest-by table roster h (strongly v roster)

  pub again_the_same : AgainTheSame v
  again_the_same table roster h = again_by table roster h (weakly v roster)

  pub strong_again_the_same : StrongAgainTheSame v
  strong_again_the_same table roster h = again_by table roster h (strongly v roster)

  pub saturation-saturated : SaturationSaturated v
  saturation-saturated table roster h =
      let S = saturation-exact table roster h in
      let ts = saturation v (length roster) (triples table) in
      subst (λ (us : List Triple). (t : Triple) → Derives v (In us) t → In us t) (sym (triples-flat ts))
      (λ t d. (S.exact t).1 (saturated.derives_cut v (λ u m. (S.exact u).0 m) d))
