-- Demand 3 and summaries at rest, over the calls.
-- Assumes nothing.
use Prim.Native.Nat.{ℕ, ◌*◌, ◌≤◌}
use mathlib.Core.Path.{◌≡◌, refl, sym, subst, subst₂, ◌∙◌, ap}
use mathlib.Core.Bool.{Bool, true, false, cond, not, ◌||◌}
use mathlib.Core.List.{List, [], ◌∷◌, ◌++◌, Memᴰ as Mem}
use native.Mathlib.Omega.{arith}
use lib.Dec.{eqb, ltb}
use borrow.Author.Tests.{eq-eqb, le-ltb}
use lib.ListN.{length, take}
use lib.Seq.{take-append_seam}
use Rattle.model.specs.declared.Triple.{Triple}
use Rattle.model.specs.declared.Vocabulary.{Vocabulary}
use Rattle.model.specs.Codes.{most_triples, wrong_words}
use Rattle.model.specs.Lists.{padded}
use Rattle.model.specs.Triples.{triples, flat, listed, slots}
use Rattle.model.specs.Partition.{label}
use Rattle.model.specs.Cliques.{Node}
use Rattle.model.specs.Classes.{map_of, strong_map_of}
use Rattle.model.specs.Summary.{condensed, summary, strong_summary}
use Rattle.model.specs.Saturation.{saturation}
use Rattle.model.specs.Outcomes.{Outcome, accepted, refused, check, checked, decided, left, wrong_size, wrong_length, wrong_work}
use Rattle.model.specs.Calls.{table_checks, Accepted, own_roster_outcome, saturated, saturate_outcome, saturate_leaves, cliques_outcome, summarise_outcome_by, summarise_leaves_by}
use Rattle.model.specs.Intake.{State, wrong_lists, open_outcome}
use Rattle.theory.proofs.Tests.{or-false, or_neither}
use Rattle.theory.proofs.Checks.{decided-passes, passed, passed-all, first_passes, passes-first, no_checks}
use Rattle.table_checks.proofs.Laws.{enough}
use Rattle.theory.proofs.Flat.{triples-flat, length-flat}
use Rattle.theory.specs.Theorems.{sum_by, ShortcutBy, RoutesBy, Saturated, AtRestBy}
use Rattle.theory.proofs.Theorems.{shortcut-holds, routes-accepted, strong-shortcut-holds, strong-routes-accepted, weak_of_strong_holds}
use Rattle.theory.proofs.Theorems.{at-rest-holds, strong-at-rest-holds, saturation-saturated}
use Rattle.theory.proofs.Accepted.{accepted-right}
use Rattle.theory.proofs.Mapped.{length_map_of, length-strong-map}
use Rattle.demands.proofs.NoneMeansNone.{none_means_none}
use Rattle.model.specs.Roster.{wrong_codes}
use Rattle.query.specs.declared.Query.{Query}
use Rattle.query.specs.Ask.{unbound, search, wrong_query, retired, ask_outcome, ask_checks}
use Rattle.query.specs.Match.{Match}
use Rattle.demands.specs.Routes.{table_in, Lent, LongEnough, SummarisesBy, AcceptsSummarise, Saturates, Asks, AcceptedCalls, RoutesOfCallsBy}
use Rattle.demands.specs.Routes.{RoutesOfCalls, StrongRoutesOfCalls, ShortcutOfCallsBy, ShortcutOfCalls, StrongShortcutOfCalls}
use Rattle.demands.specs.Routes.{WeakOfStrongCalls, AtRestOfCallsBy, AtRestOfCalls, StrongAtRestOfCalls, LeavesSaturated, NoneOfCallsBy}

-- what a list that lists triples begins with
listed-table : (n : ℕ) (ts : List Triple) (c : ℕ) → length ts ≡ c → table_in c (listed n ts) ≡ flat ts
unfolding listed padded
listed-table n ts c e =
    let q : 3 * c ≡ length (flat ts) = omega (arith, e, length-flat ts) in
    ap (λ (k : ℕ). take k (listed n ts)) q ∙ take-append_seam (flat ts) _

-- what a call left, as triples
pub left_is : (out : List ℕ) (ts : List Triple) → out ≡ flat ts → triples out ≡ ts
left_is out ts e = ap triples e ∙ triples-flat ts

-- where the first three checks of an ask pass, the two of the query decide
query-decides : (b k c d e y : Bool) → b ≡ false → k ≡ false → c ≡ false
    → checked (check 1 b ∷ check 10 k ∷ check 3 c ∷ check 6 d ∷ check 12 e ∷ []) y ≡ cond d (refused 6) (cond e (refused 12) (accepted y))
unfolding decided
query-decides b k c d e y p x q = rw (p, x, q)

module _ (v : Vocabulary) where
  -- an accepted saturate
  pub record Sat (table roster out : List ℕ) (c : ℕ) : Type 0 where
    pub accepts : Accepted v table roster
    pub counts : length (saturation v (length roster) (triples table)) ≡ c
    pub is : out ≡ flat (saturation v (length roster) (triples table))

  pub sat-is : (table roster result out : List ℕ) (c : ℕ) → Saturates v table roster result c out → Sat table roster out c
  unfolding saturate_outcome saturate_leaves saturated table_checks left
  sat-is table roster result out c h =
      let a = passed _ _ _ c h.returns in
      let b = passed _ _ _ c a.1 in
      let d = passed _ _ _ c b.1 in
      let e = passed _ _ _ c d.1 in
      let f = passed _ _ _ c e.1 in
      let g = passed _ _ _ c f.1 in
      let n = passed-all _ c g.1 in
      record {
        accepts = first_passes _ _ a.0 (first_passes _ _ b.0 (first_passes _ _ d.0 (first_passes _ _ e.0 (first_passes _ _ f.0 no_checks))));
        counts = n;
        is = h.triples ∙ ap (λ (o : Outcome ℕ). table_in c (left o result (listed (length result) (saturation v (length roster) (triples table))))) h.returns ∙ listed-table (length result) _ c n;
      }

  -- an accepted summarise by a map m
  pub record Sum (m table roster out map : List ℕ) (c : ℕ) : Type 0 where
    pub accepts : Accepted v table roster
    pub counts : length (condensed m (triples table)) ≡ c
    pub is : out ≡ flat (condensed m (triples table))
    pub maps : map ≡ m

  module _ (mapped : List ℕ → List Triple → List ℕ) where
    pub sum_is : (table roster : List ℕ) (l : Lent) (out map : List ℕ) (c : ℕ) → SummarisesBy v mapped table roster l c out map → Sum (mapped roster (triples table)) table roster out map c
    unfolding summarise_outcome_by summarise_leaves_by table_checks left
    sum_is table roster l out map c h =
        let ms = mapped roster (triples table) in
        let a = passed _ _ _ c h.returns in
        let b = passed _ _ _ c a.1 in
        let d = passed _ _ _ c b.1 in
        let e = passed _ _ _ c d.1 in
        let f = passed _ _ _ c e.1 in
        let g = passed _ _ _ c f.1 in
        let n = passed-all _ c g.1 in
        let x = or-false (wrong_size (length roster)) _ a.0 in
        let y = or-false (wrong_length (length table)) _ x.1 in
        let z = or_neither (wrong_size (length roster)) _ x.0 (or_neither (wrong_length (length table)) false y.0 refl) in
        record {
          accepts = first_passes _ _ z (first_passes _ _ b.0 (first_passes _ _ d.0 (first_passes _ _ e.0 (first_passes _ _ f.0 no_checks))));
          counts = n;
          is = h.triples ∙ ap (λ (o : Outcome ℕ). table_in c (left o l.result (listed (length l.result) (condensed ms (triples table))))) h.returns ∙ listed-table (length l.result) _ c n;
          maps = h.representatives ∙ ap (λ (o : Outcome ℕ). left o l.map ms) h.returns;
        }

    shortcut-by-calls : ((table roster : List ℕ) → Accepted v table roster → ShortcutBy v (mapped roster) table roster) → ShortcutOfCallsBy v mapped
    shortcut-by-calls holds table roster big small l k m a b c d e sat sum short short_sat short_sum f g h hs hg hf ht hh =
        let S = sat-is table roster big sat a hs in
        let G = sum_is sat roster l sum g b hg in
        let F = sum_is table roster k short f c hf in
        let T = sat-is short roster small short_sat d ht in
        let H = sum_is short_sat roster m short_sum h e hh in
        let R = holds table roster F.accepts in
        let by = sum_by v (mapped roster) in
        let long : triples sat ≡ saturation v (length roster) (triples table) = left_is sat _ S.is in
        let sh : triples short ≡ by (triples table) = left_is short _ F.is in
        let st : triples short_sat ≡ saturation v (length roster) (by (triples table)) = left_is short_sat _ T.is ∙ ap (saturation v (length roster)) sh in
        let q : by (triples sat) ≡ by (triples short_sat) = ap by long ∙ R.triples ∙ ap by (sym st) in (
          sym G.counts ∙ ap {B = ℕ} (λ (ts : List Triple). length ts) q ∙ H.counts,
          G.is ∙ ap flat q ∙ sym H.is,
          λ x.
              let hm : h ≡ mapped roster (saturation v (length roster) (by (triples table))) = H.maps ∙ ap (mapped roster) st in
              let gm : g ≡ mapped roster (saturation v (length roster) (triples table)) = G.maps ∙ ap (mapped roster) long in
              (λ i. label (hm i) (label (F.maps i) x)) ∙ R.maps x ∙ ap (λ (z : List ℕ). label z x) (sym gm),
        )

  pub shortcut_of_calls : ShortcutOfCalls v
  shortcut_of_calls = shortcut-by-calls (map_of v) (shortcut-holds v)

  pub strong_shortcut_of_calls : StrongShortcutOfCalls v
  strong_shortcut_of_calls = shortcut-by-calls (strong_map_of v) (strong-shortcut-holds v)

  pub weak_of_strong_calls : WeakOfStrongCalls v
  weak_of_strong_calls table roster l k m a b c strong sum own f g h hf hg hh =
      let F = sum_is (strong_map_of v) table roster l strong f a hf in
      let G = sum_is (map_of v) strong roster k sum g b hg in
      let H = sum_is (map_of v) table roster m own h c hh in
      let R = weak_of_strong_holds v table roster H.accepts in
      let st : triples strong ≡ strong_summary v roster (triples table) = left_is strong _ F.is in
      let q : summary v roster (triples strong) ≡ summary v roster (triples table) = ap (summary v roster) st ∙ R.triples in (
        sym G.counts ∙ ap {B = ℕ} (λ (ts : List Triple). length ts) q ∙ H.counts,
        G.is ∙ ap flat q ∙ sym H.is,
        λ x.
            let gm : g ≡ map_of v roster (strong_summary v roster (triples table)) = G.maps ∙ ap (map_of v roster) st in
            (λ i. label (gm i) (label (F.maps i) x)) ∙ R.maps x ∙ ap (λ (z : List ℕ). label z x) (sym H.maps),
      )

  pub none_of_calls : (mapped : List ℕ → List Triple → List ℕ) → NoneOfCallsBy v mapped
  none_of_calls mapped table roster big l a b sat sum g q hs hg e m =
      let S = sat-is table roster big sat a hs in
      let G = sum_is mapped sat roster l sum g b hg in
      let long : triples sat ≡ saturation v (length roster) (triples table) = left_is sat _ S.is in
      let gm : g ≡ mapped roster (saturation v (length roster) (triples table)) = G.maps ∙ ap (mapped roster) long in
      let sm : sum ≡ flat (condensed (mapped roster (saturation v (length roster) (triples table))) (saturation v (length roster) (triples table))) =
      G.is ∙ ap (λ (ts : List Triple). flat (condensed (mapped roster ts) ts)) long in
      none_means_none v mapped table roster q S.accepts (sym (λ i. ask_outcome v (sm i) (gm i) q) ∙ e) (subst (λ (ts : List Triple). Match ts q) long m)

  table-length : (table roster : List ℕ) → Accepted v table roster → wrong_length (length table) ≡ false
  unfolding table_checks
  table-length table roster h = (or-false (wrong_length (length table)) _ (or-false (wrong_size (length roster)) _ (passes-first _ _ h).0).1).0

  -- an ask of a table that is accepted with a roster, by a map of the roster's length
  pub asks_of : (table map roster : List ℕ) → Accepted v table roster → length map ≡ length roster → Asks v table map
  unfolding ask_outcome ask_checks
  asks_of table map roster h e =
      let R = accepted-right v table roster h in
      let lengths = or_neither (wrong_size (length map)) _ (subst (λ (z : ℕ). wrong_size z ≡ false) (sym e) R.size) (table-length table roster h) in
      let words = subst (λ (z : ℕ). wrong_words v z ≡ false) (sym e) R.words in
      let codes = subst (λ (z : ℕ). wrong_codes v z (triples table) ≡ false) (sym e) R.codes in
      let found : Query → Bool = λ q. search (triples table) map q.patterns q.count 0 unbound in
      let decides : (q : Query) (d e : Bool) → wrong_query (length map) q ≡ d → retired v q ≡ e → ask_outcome v table map q ≡ cond d (refused 6) (cond e (refused 12) (accepted (found q))) =
      λ q d e f g. query-decides _ _ _ _ _ _ lengths words codes ∙ (λ i. cond (f i) (refused 6) (cond (g i) (refused 12) (accepted (found q)))) in
      record {
        answers = λ q f g. (_, decides q false false f g);
        refuses = λ q f. decides q true _ f refl;
        retires = λ q f g. decides q false true f g;
      }

  -- ── long enough lists ──
  accepts_summarise : (mapped : List ℕ → List Triple → List ℕ) (table roster : List ℕ) → Accepted v table roster → AcceptsSummarise v mapped table roster
  unfolding summarise_outcome_by wrong_work
  accepts_summarise mapped table roster h l long =
      let n = length (condensed (mapped roster (triples table)) (triples table)) in
      let lengths : (not (eqb (length l.map) (length roster)) || not (eqb (length l.work) (2 * length roster))) ≡ false =
      or_neither (not (eqb (length l.map) (length roster))) _ (ap not (eq-eqb _ _ long.map_size)) (ap not (eq-eqb _ _ long.work_size)) in
      ap (λ (b : Bool). checked (table_checks v b table roster ++ check 5 (ltb (slots l.result) n) ∷ []) n) lengths
      ∙ enough (table_checks v false table roster) (slots l.result) n h long.room

  accepts_saturate : (table roster result : List ℕ) → Accepted v table roster → length (saturation v (length roster) (triples table)) ≤ slots result
      → saturate_outcome v table roster result ≡ accepted (length (saturation v (length roster) (triples table)))
  unfolding saturate_outcome saturated
  accepts_saturate table roster result h few = enough (table_checks v false table roster) (slots result) _ h few

  accepts-own-roster : (table roster list : List ℕ) → Accepted v table roster → length list ≡ length roster → own_roster_outcome v table list ≡ accepted tt
  unfolding own_roster_outcome
  accepts-own-roster table roster list h e =
      let R = accepted-right v table roster h in
      decided-passes _ (accepted tt)
      (first_passes _ _ (or_neither (wrong_size (length list)) _ (subst (λ (z : ℕ). wrong_size z ≡ false) (sym e) R.size) (table-length table roster h))
      (first_passes _ _ (subst (λ (z : ℕ). wrong_words v z ≡ false) (sym e) R.words)
      (first_passes _ _ (subst (λ (z : ℕ). wrong_codes v z (triples table) ≡ false) (sym e) R.codes) no_checks)))

  accepts-cliques : (table roster sources targets : List ℕ) → Accepted v table roster → length sources ≡ length roster
      → length targets ≡ length roster → cliques_outcome v table roster sources targets ≡ accepted tt
  unfolding cliques_outcome
  accepts-cliques table roster sources targets h a b =
      ap (λ (x : Bool). checked (table_checks v x table roster) tt) (or_neither (not (eqb (length sources) (length roster))) _ (ap not (eq-eqb _ _ a)) (ap not (eq-eqb _ _ b)))
      ∙ decided-passes (table_checks v false table roster) (accepted tt) h

  accepts_open : (table roster : List ℕ) (s : State) → Accepted v table roster → length s.map ≡ length roster
      → slots s.triples ≡ slots s.summary → slots s.triples ≤ most_triples → length s.weights ≡ slots s.triples → open_outcome v roster s ≡ accepted tt
  unfolding open_outcome wrong_lists
  accepts_open table roster s h a b c d =
      let R = accepted-right v table roster h in
      decided-passes _ (accepted tt)
      (first_passes _ _
      (or_neither (wrong_size (length roster)) _ R.size
      (or_neither (not (eqb (length s.map) (length roster))) _ (ap not (eq-eqb _ _ a))
      (or_neither (not (eqb (slots s.triples) (slots s.summary))) _ (ap not (eq-eqb _ _ b))
      (or_neither (ltb most_triples (slots s.triples)) _ (le-ltb _ _ c) (ap not (eq-eqb _ _ d))))))
      (first_passes _ _ R.words (first_passes _ _ R.marks no_checks)))

  pub accepted_calls : AcceptedCalls v
  accepted_calls table roster h =
      record {
        accepts_own_roster = λ list e. accepts-own-roster table roster list h e;
        saturates = λ result few. accepts_saturate table roster result h few;
        summarises = accepts_summarise (map_of v) table roster h;
        strongly_summarises = accepts_summarise (strong_map_of v) table roster h;
        cliques = λ sources targets a b. accepts-cliques table roster sources targets h a b;
        opens = λ s a b c d. accepts_open table roster s h a b c d;
        asks = asks_of _ _ roster (routes-accepted v table roster h).summary_accepted (length_map_of v roster (triples table));
        asks_strong = asks_of _ _ roster (strong-routes-accepted v table roster h).summary_accepted (length-strong-map v roster (triples table));
      }

  -- so a saturate of an accepted table leaves its saturation, where there are slots for it
  runs_saturate : (table roster result : List ℕ) (ts : List Triple) → saturation v (length roster) (triples table) ≡ ts → Accepted v table roster → length ts ≤ slots result
      → Saturates v table roster result (length ts) (flat ts)
  unfolding saturate_leaves saturated left
  runs_saturate table roster result ts e h few =
      let sat = saturation v (length roster) (triples table) in
      let r : saturate_outcome v table roster result ≡ accepted (length ts) =
      subst (λ (us : List Triple). length us ≤ slots result → saturate_outcome v table roster result ≡ accepted (length us)) e (accepts_saturate table roster result h) few in
      record {
        returns = r;
        triples = sym (ap (λ (o : Outcome ℕ). table_in (length ts) (left o result (listed (length result) sat))) r
            ∙ ap (λ (us : List Triple). table_in (length ts) (listed (length result) us)) e
            ∙ listed-table (length result) ts (length ts) refl);
      }

  module _ (mapped : List ℕ → List Triple → List ℕ) where
    -- and a summarise its summary
    runs_summarise : (table roster : List ℕ) (l : Lent) (ts : List Triple) → condensed (mapped roster (triples table)) (triples table) ≡ ts → Accepted v table roster
        → LongEnough roster (length ts) l → SummarisesBy v mapped table roster l (length ts) (flat ts) (mapped roster (triples table))
    unfolding summarise_leaves_by left
    runs_summarise table roster l ts e h long =
        let m = mapped roster (triples table) in
        let r : summarise_outcome_by v m table roster l.result l.map l.work ≡ accepted (length ts) =
        subst (λ (us : List Triple). LongEnough roster (length us) l → summarise_outcome_by v m table roster l.result l.map l.work ≡ accepted (length us)) e
        (accepts_summarise mapped table roster h l) long in
        record {
          returns = r;
          triples = sym (ap (λ (o : Outcome ℕ). table_in (length ts) (left o l.result (listed (length l.result) (condensed m (triples table))))) r
              ∙ ap (λ (us : List Triple). table_in (length ts) (listed (length l.result) us)) e
              ∙ listed-table (length l.result) ts (length ts) refl);
          representatives = sym (ap (λ (o : Outcome ℕ). left o l.map m) r);
        }

    -- ── both routes in one piece ──
    routes-by-calls : ((roster : List ℕ) (ts : List Triple) → length (mapped roster ts) ≡ length roster)
        → ((table roster : List ℕ) → Accepted v table roster → RoutesBy v (mapped roster) table roster)
        → ((table roster : List ℕ) → Accepted v table roster → ShortcutBy v (mapped roster) table roster) → RoutesOfCallsBy v mapped
    routes-by-calls sizes routes holds table roster big small l k m h few hb hl hk hs hm =
        let sat = saturation v (length roster) in
        let by = sum_by v (mapped roster) in
        let ts = triples table in
        let R = routes table roster h in
        let S = runs_saturate table roster big (sat ts) refl h hb in
        let again : by (triples (flat (sat (by ts)))) ≡ by (sat ts) = ap by (triples-flat (sat (by ts))) ∙ sym (holds table roster h).triples in
        let G = runs_summarise (flat (sat ts)) roster l (by (sat ts)) (ap by (triples-flat (sat ts))) (R.saturation_accepted few) hl in
        let F = runs_summarise table roster k (by ts) refl h hk in
        let T = runs_saturate (flat (by ts)) roster small (sat (by ts)) (ap sat (triples-flat (by ts))) R.summary_accepted hs in
        let H = runs_summarise (flat (sat (by ts))) roster m (by (sat ts)) again (R.second_accepted (omega (arith, few, R.shorter))) hm in
        let sum-accepted : Accepted v (flat (by (sat ts))) roster =
        subst (λ (us : List Triple). Accepted v (flat (by us)) roster) (triples-flat (sat ts)) (routes (flat (sat ts)) roster (R.saturation_accepted few)).summary_accepted in
        record {
          sat = _;
          sum = _;
          short = _;
          short_sat = _;
          short_sum = _;
          f = _;
          g = _;
          h = _;
          a = _;
          b = _;
          c = _;
          d = _;
          e = _;
          saturates = S;
          summarises = G;
          short_summarises = F;
          short_saturates = T;
          short_summarises_again = H;
          agree = shortcut-by-calls mapped holds table roster big small l k m _ _ _ _ _ _ _ _ _ _ _ _ _ S G F T H;
          asks = asks_of _ _ roster sum-accepted (sizes roster (triples (flat (sat ts))));
        }

    -- ── a shipped summary is at rest ──
    at-rest-by-calls : ((table roster : List ℕ) → Accepted v table roster → RoutesBy v (mapped roster) table roster)
        → ((table roster : List ℕ) → Accepted v table roster → Saturated v table → AtRestBy v (mapped roster) table roster) → AtRestOfCallsBy v mapped
    at-rest-by-calls routes holds table roster l count summary map closed h =
        let S = sum_is mapped table roster l summary map count h in
        let R = holds table roster S.accepts closed in
        let by = sum_by v (mapped roster) in
        let ts = by (triples table) in
        let held : triples summary ≡ ts = left_is summary ts S.is in
        let sat : saturation v (length roster) (triples summary) ≡ ts = ap (saturation v (length roster)) held ∙ R.saturated in
        let two : by (triples summary) ≡ ts = ap by held ∙ R.again.same_triples in
        let accepts : Accepted v summary roster = subst (λ (xs : List ℕ). Accepted v xs roster) (sym S.is) (routes table roster S.accepts).summary_accepted in
        let m : mapped roster (triples summary) ≡ mapped roster ts = ap (mapped roster) held in
        record {
          saturates = λ result few.
              subst₂ (λ (c : ℕ) (xs : List ℕ). Saturates v summary roster result c xs) S.counts (sym S.is)
              (runs_saturate summary roster result ts sat accepts (subst (λ (c : ℕ). c ≤ slots result) (sym S.counts) few));
          summarises = λ k long.
              subst₂ (λ (c : ℕ) (xs : List ℕ). SummarisesBy v mapped summary roster k c xs (mapped roster (triples summary))) S.counts (sym S.is)
              (runs_summarise summary roster k ts two accepts (subst (λ (c : ℕ). LongEnough roster c k) (sym S.counts) long));
          own_nodes = λ x n.
              ap (λ (z : List ℕ). label z x) m ∙ R.again.own_nodes x (subst (λ (us : List Triple). Node (λ t. Mem t us) x) held n);
          no_node = λ x n.
              ap (λ (z : List ℕ). label z x) m ∙ R.again.no_node x (λ y. n (subst (λ (us : List Triple). Node (λ t. Mem t us) x) (sym held) y));
          carried = λ x. (λ i. label (m i) (label (S.maps i) x)) ∙ R.again.carried x ∙ ap (λ (z : List ℕ). label z x) (sym S.maps);
        }

  pub routes_of_calls : RoutesOfCalls v
  routes_of_calls = routes-by-calls (map_of v) (length_map_of v) (routes-accepted v) (shortcut-holds v)

  pub strong_routes_of_calls : StrongRoutesOfCalls v
  strong_routes_of_calls = routes-by-calls (strong_map_of v) (length-strong-map v) (strong-routes-accepted v) (strong-shortcut-holds v)

  pub at_rest_of_calls : AtRestOfCalls v
  at_rest_of_calls = at-rest-by-calls (map_of v) (routes-accepted v) (at-rest-holds v)

  pub strong_at_rest_of_calls : StrongAtRestOfCalls v
  strong_at_rest_of_calls = at-rest-by-calls (strong_map_of v) (strong-routes-accepted v) (strong-at-rest-holds v)

  pub leaves_saturated : LeavesSaturated v
  leaves_saturated table roster result count out h =
      let S = sat-is table roster result out count h in
      subst (Saturated v) (sym S.is) (saturation-saturated v table roster S.accepts)
