-- The calls within the printer, answer by answer.
-- Assumes nothing.
use Prim.Native.Nat.{ℕ, ◌-◌, ◌*◌, ◌/◌, ◌%◌, ◌<◌, ◌≤◌}
use mathlib.Core.Path.{◌≡◌, refl, sym, ◌∙◌, ap, subst}
use mathlib.Core.Logic.{⊎_elim}
use mathlib.Core.Bool.{Bool, true, false, cond, not, ◌||◌}
use mathlib.Core.List.{List}
use native.Mathlib.Omega.{arith}
use lib.Dec.{eqb, ltb}
use lib.ListN.{length, take}
use lib.Seq.{take-append_seam, length-take-le}
use borrow.Author.Tests.{eq-eqb, lt-ltb, le-ltb, ltb-false, ltb-true}
use Rattle.std.specs.declared.result.Result.{Result}
use Rattle.std.specs.declared.result.Result.TheVariants.{Ok, Err}
use Rattle.model.specs.declared.Refusal.{Refusal}
use Rattle.model.specs.declared.Refusal.TheVariants.{Length, Words, Code, Slots}
use Rattle.model.specs.declared.Triple.{Triple}
use Rattle.model.specs.declared.Vocabulary.{Vocabulary}
use Rattle.model.specs.Codes.{wrong_words, most_triples}
use Rattle.model.specs.Lists.{padded}
use Rattle.model.specs.Triples.{triples, flat, slots, listed}
use Rattle.model.specs.Roster.{own_roster, wrong_codes}
use Rattle.model.specs.Saturation.{saturation}
use Rattle.model.specs.Classes.{map_of}
use Rattle.model.specs.Summary.{summary}
use Rattle.model.specs.Outcomes.{refused, accepted, refusal_number, decided, Passes, wrong_size, wrong_length, wrong_work, outcome_by, outcome_of}
use Rattle.model.specs.Calls.{table_checks, Accepted, Summarised, saturated, own_roster_outcome, own_roster_leaves, saturate_outcome, saturate_leaves, summarise_outcome, summarise_outcome_by, summarise_leaves_by}
use Rattle.theory.proofs.Tests.{or_left, or_right, or_neither, bool_cases}
use Rattle.theory.proofs.Checks.{first_passes, no_checks, decided-passes, not_accepted, same-value}
use Rattle.theory.proofs.Flat.{triples-flat, flat-triples, length-flat, length-triples, length-listed}
use Rattle.theory.specs.Tables.{Right}
use Rattle.theory.proofs.Accepted.{right-accepted}
use Rattle.theory.proofs.Summaries.{condensed-length}
use Rattle.theory.proofs.Mapped.{length_map_of}
use Rattle.table_checks.proofs.Laws.{too_few, enough, left_after}
use Rattle.roster.specs.Calls.{OwnRosterCall}
use Rattle.summarise.specs.Condensed.{SummariseCall}
use Rattle.query.specs.declared.Query.{Query}
use Rattle.site_form.specs.Text.{most_lines, most_asks}
use Rattle.site_form.specs.Printing.{largest_printed, printer_slots, report, shown}
use Rattle.site_bytes.specs.Calls.{Room, Put}
use Rattle.table_printing.specs.Outcomes.{asked_of, asks_outcome, summary_outcome, saturation_outcome, site_outcome, Whole, CheckedTable}
use Rattle.site_report.proofs.Lines.{room_as}
use Rattle.table_printing.proofs.Reports.{shows}
use Rattle.theory.proofs.OwnTables.{own-right, own-size, sat-right}
use Rattle.table_printing.proofs.Fits.{summary-fits, asked-few}

pub part_length : (n : ℕ) (l : List ℕ) → n ≤ length l → length (take (n - 0) l) ≡ n
part_length n l h = let e : n - 0 ≡ n = omega arith in ap (λ (k : ℕ). length (take k l)) e ∙ length-take-le n l h

-- the triples that a list begins with
pub front : (n : ℕ) (ts : List Triple) (k : ℕ) → length ts ≡ k → take (3 * k - 0) (listed n ts) ≡ flat ts
unfolding listed padded
front n ts k e =
    let q : 3 * k - 0 ≡ length (flat ts) = omega (arith, e, length-flat ts) in
    ap (λ (j : ℕ). take j (listed n ts)) q ∙ take-append_seam (flat ts) _

module _ (words : Vocabulary) where
  flat-accepted : (table roster : List ℕ) → Right words roster (triples table) → length table % 3 ≡ 0 → length table ≤ 3 * printer_slots → Accepted words table roster
  flat-accepted table roster R m l =
      subst (λ (t : List ℕ). Accepted words t roster) (flat-triples table m) (right-accepted words roster (triples table) R (omega (arith, length-triples table)))

  -- ── summarise ──
  module _ (table roster result map work : List ℕ) (W : Whole words table roster) (hr : length result ≡ 3 * printer_slots) (hm : length map ≡ length roster) (hw : length work ≡ 2 * length roster) where
    abbrev sum : List Triple
    sum = summary words roster (triples table)

    abbrev lengths : Bool
    lengths = not (eqb (length map) (length roster)) || wrong_work (length roster) (length work)

    lengths-right : lengths ≡ false
    unfolding wrong_work
    lengths-right = or_neither (not (eqb (length map) (length roster))) _ (ap not (eq-eqb _ _ hm)) (ap not (eq-eqb _ _ hw))

    passes : Passes (table_checks words lengths table roster)
    passes = subst (λ (b : Bool). Passes (table_checks words b table roster)) (sym lengths-right) (flat-accepted table roster W.right W.flat W.slots)

    few : length (triples table) ≤ printer_slots
    few = omega (arith, length-triples table, W.slots)

    outcome : summarise_outcome words table roster result map work ≡ accepted (length sum)
    unfolding summarise_outcome_by slots
    outcome =
        let f = few in
        enough (table_checks words lengths table roster) (length result / 3) (length sum) passes (omega (arith, condensed-length (map_of words roster (triples table)) (triples table)))

    module _ (r : Result ℕ Refusal) (result' map' work' : List ℕ) (S : SummariseCall words table roster result map work r result' map' work') where
      pub never_refused : (x : Refusal) → r ≡ Err x → ⊥
      unfolding outcome_by
      never_refused x e = not_accepted (sym (ap outcome_of e) ∙ S.answer ∙ outcome)

      result-is : result' ≡ listed (length result) sum
      unfolding summarise_leaves_by
      result-is = ap (λ (s : Summarised words). s.result) S.leaves ∙ left_after _ _ _ _ outcome

      map_is : map' ≡ map_of words roster (triples table)
      unfolding summarise_leaves_by
      map_is = ap (λ (s : Summarised words). s.map) S.leaves ∙ left_after _ _ _ _ outcome

      module _ (k : ℕ) (e : r ≡ Ok k) where
        count-is : length sum ≡ k
        unfolding outcome_by
        count-is = same-value (sym outcome ∙ sym S.answer ∙ ap outcome_of e)

        pub sum-few : 3 * k ≤ 3 * printer_slots
        sum-few = let f = few in omega (arith, count-is, condensed-length (map_of words roster (triples table)) (triples table))

        pub sum-end : 3 * k ≤ length result'
        sum-end =
            let f = sum-few in
            let l : length result' ≡ length result = ap length result-is ∙ length-listed (length result) sum (omega (arith, count-is)) in
            omega arith

        part-is : take (3 * k - 0) result' ≡ flat sum
        part-is = ap (take (3 * k - 0)) result-is ∙ front (length result) sum k count-is

        pub sum-table : length (take (3 * k - 0) result') ≤ 3 * printer_slots
        sum-table = let l : length (take (3 * k - 0) result') ≡ length (flat sum) = ap length part-is in omega (arith, length-flat sum, count-is, sum-few)

        pub sum-map : length map' ≤ largest_printed
        sum-map = let l : length map' ≡ length (map_of words roster (triples table)) = ap length map_is in omega (arith, length_map_of words roster (triples table), W.size)

        triples_are : triples (take (3 * k - 0) result') ≡ sum
        triples_are = ap triples part-is ∙ triples-flat sum

        module _ (queries : List Query) (count : ℕ) (few_asks : count ≤ most_asks) where
          pub sum_room : Room 0 (report (triples (take (3 * k - 0) result')) map' (asked_of words (take (3 * k - 0) result') map' queries count))
          sum_room =
              let b = summary-fits words roster (triples table) W.right W.size
              (asked_of words (flat sum) (map_of words roster (triples table)) queries count) few (asked-few words queries count few_asks _ _) in
              room_as 0 (λ i. report (sym triples_are i) (sym map_is i) (asked_of words (sym part-is i) (sym map_is i) queries count)) (omega arith)

          pub sum-put : (l out : List ℕ) (x : ℕ) → Put l 0 (shown (asks_outcome (triples (take (3 * k - 0) result')) map' (asked_of words (take (3 * k - 0) result') map' queries count))) out x → Put l 0 (shown (summary_outcome words roster (triples table) queries count)) out x
          unfolding summary_outcome
          sum-put l out x p = shows l _ _ (λ i. asks_outcome (sym triples_are i) (sym map_is i) (asked_of words (sym part-is i) (sym map_is i) queries count)) out x p

  -- ── saturate ──
  module _ (table roster list : List ℕ) (given : CheckedTable words table (length roster)) (hl : length list ≡ 3 * printer_slots) (d : Result (Unit {0}) Refusal)
      (own : List ℕ) (O : OwnRosterCall words table roster d own) where
    abbrev ts : List Triple
    ts = triples table

    abbrev sat : List Triple
    sat = saturation words (length roster) ts

    table-right : wrong_length (length table) ≡ false
    unfolding wrong_length
    table-right = or_neither (not (eqb (length table % 3) 0)) _ (ap not (eq-eqb _ _ given.flat)) (le-ltb (3 * most_triples) (length table) (omega (arith, given.few)))

    own-accepted : own_roster_outcome words table roster ≡ accepted tt
    unfolding own_roster_outcome
    own-accepted = decided-passes _ _ (first_passes _ _ (or_neither (wrong_size (length roster)) _ given.size table-right)
        (first_passes _ _ given.words (first_passes _ _ given.codes no_checks)))

    own_is : own ≡ own_roster words (length roster) ts
    unfolding own_roster_leaves
    own_is = O.leaves ∙ left_after _ _ _ _ own-accepted

    own-long : length own ≡ length roster
    own-long = ap length own_is ∙ own-size words (length roster) ts given.codes

    own-passes : Accepted words table own
    own-passes = flat-accepted table own (subst (λ (z : List ℕ). Right words z ts) (sym own_is)
        (own-right words (length roster) ts given.size given.words given.codes)) given.flat (omega (arith, given.few))

    sat_as : saturated words table own ≡ sat
    unfolding saturated
    sat_as = ap (λ (z : ℕ). saturation words z ts) own-long

    sat-count : length (saturated words table own) ≡ length sat
    sat-count = ap {B = ℕ} (λ (x : List Triple). length x) sat_as

    over : printer_slots < length sat → saturate_outcome words table own list ≡ refused 5
    unfolding saturate_outcome slots
    over h = let c = sat-count in too_few (table_checks words false table own) (length list / 3) _ own-passes (omega arith)

    within : length sat ≤ printer_slots → saturate_outcome words table own list ≡ accepted (length (saturated words table own))
    unfolding saturate_outcome slots
    within h = let c = sat-count in enough (table_checks words false table own) (length list / 3) _ own-passes (omega arith)

    outcome-is : (queries : List Query) (count : ℕ) (b : Bool) → ltb printer_slots (length sat) ≡ b
        → saturation_outcome words (length roster) ts queries count ≡ cond b (refused 5) (summary_outcome words (own_roster words (length roster) ts) sat queries count)
    unfolding saturation_outcome decided
    outcome-is queries count b e = ap (λ (x : Bool). cond x (refused 5) (summary_outcome words (own_roster words (length roster) ts) sat queries count)) e

    module _ (r : Result ℕ Refusal) (list' : List ℕ) (S : (outcome_of r ≡ saturate_outcome words table own list) × (list' ≡ saturate_leaves words table own list)) where
      pub sat-refused : (x : Refusal) → r ≡ Err x → (queries : List Query) (count : ℕ) → saturation_outcome words (length roster) ts queries count ≡ refused (refusal_number Slots)
      unfolding outcome_by refusal_number
      sat-refused x e queries count =
          ⊎_elim
          (λ t. outcome-is queries count true t)
          (λ f. absurd (not_accepted (sym (ap outcome_of e) ∙ S.0 ∙ within (ltb-false printer_slots (length sat) f))))
          (bool_cases (ltb printer_slots (length sat)))

      module _ (k : ℕ) (e : r ≡ Ok k) where
        fits : ltb printer_slots (length sat) ≡ false
        unfolding outcome_by
        fits =
            ⊎_elim
            (λ t. absurd (not_accepted (sym (over (ltb-true printer_slots (length sat) t)) ∙ sym S.0 ∙ ap outcome_of e)))
            (λ f. f)
            (bool_cases (ltb printer_slots (length sat)))

        few-sat : length sat ≤ printer_slots
        few-sat = ltb-false printer_slots (length sat) fits

        count-sat : length sat ≡ k
        unfolding outcome_by
        count-sat = sym sat-count ∙ same-value (sym (within few-sat) ∙ sym S.0 ∙ ap outcome_of e)

        list-is : list' ≡ listed (length list) sat
        unfolding saturate_leaves
        list-is = S.1 ∙ left_after _ _ _ _ (within few-sat) ∙ ap (listed (length list)) sat_as

        pub sat-few : 3 * k ≤ 3 * printer_slots
        sat-few = omega (arith, count-sat, few-sat)

        pub sat-end : 3 * k ≤ length list'
        sat-end =
            let f = sat-few in
            let l : length list' ≡ length list = ap length list-is ∙ length-listed (length list) sat (omega (arith, count-sat)) in
            omega arith

        sat-part : take (3 * k - 0) list' ≡ flat sat
        sat-part = ap (take (3 * k - 0)) list-is ∙ front (length list) sat k count-sat

        sat-triples : triples (take (3 * k - 0) list') ≡ sat
        sat-triples = ap triples sat-part ∙ triples-flat sat

        pub sat-whole : Whole words (take (3 * k - 0) list') own
        sat-whole =
            let l : length (take (3 * k - 0) list') ≡ length (flat sat) = ap length sat-part in
            let m = length-flat sat in
            let c = count-sat in
            let f = sat-few in
            let o = own-long in
            record {
              right = subst (λ (z : List ℕ). Right words z (triples (take (3 * k - 0) list'))) (sym own_is)
                  (subst (λ (z : List Triple). Right words (own_roster words (length roster) ts) z) (sym sat-triples)
                  (sat-right words (length roster) ts given.size given.words given.codes));
              flat = omega arith;
              slots = omega arith;
              size = omega (arith, given.printed);
            }

        pub sat-put : (queries : List Query) (count : ℕ) (l out : List ℕ) (x : ℕ)
            → Put l 0 (shown (summary_outcome words own (triples (take (3 * k - 0) list')) queries count)) out x
            → Put l 0 (shown (saturation_outcome words (length roster) ts queries count)) out x
        sat-put queries count l out x p =
            shows l _ _ (outcome-is queries count false fits ∙ (λ i. summary_outcome words (sym own_is i) (sym sat-triples i) queries count)) out x p

  pub checked_as : (table : List ℕ) (n k : ℕ) → k ≡ n → CheckedTable words table n → CheckedTable words table k
  checked_as table n k e g = subst (CheckedTable words table) (sym e) g

  pub sat_as_put : (n k : ℕ) → k ≡ n → (ts : List Triple) (queries : List Query) (count : ℕ) (l out : List ℕ) (x : ℕ)
      → Put l 0 (shown (saturation_outcome words k ts queries count)) out x → Put l 0 (shown (saturation_outcome words n ts queries count)) out x
  sat_as_put n k e ts queries count l out x p = shows l _ _ (ap (λ (z : ℕ). saturation_outcome words z ts queries count) (sym e)) out x p

  -- ── the checks 1, 10 and 3 ──
  module _ (size n : ℕ) (e : n ≡ size) (table : List ℕ) (queries : List Query) (count : ℕ) where
    site-is : (a k b : Bool) → (wrong_size n || ltb largest_printed n) ≡ a → wrong_words words n ≡ k → wrong_codes words n (triples table) ≡ b
        → site_outcome words size (triples table) queries count ≡ cond a (refused 1) (cond k (refused 10) (cond b (refused 3) (saturation_outcome words n (triples table) queries count)))
    unfolding site_outcome decided
    site-is a k b p y q = ap (λ (z : ℕ). site_outcome words z (triples table) queries count) (sym e) ∙
        (λ i. cond (p i) (refused 1) (cond (y i) (refused 10) (cond (q i) (refused 3) (saturation_outcome words n (triples table) queries count))))

    pub site-small : wrong_size n ≡ true → site_outcome words size (triples table) queries count ≡ refused (refusal_number Length)
    unfolding refusal_number
    site-small p = site-is true _ _ (or_left (wrong_size n) _ p) refl refl

    pub site-large : largest_printed < n → site_outcome words size (triples table) queries count ≡ refused (refusal_number Length)
    unfolding refusal_number
    site-large p = site-is true _ _ (or_right (wrong_size n) _ (lt-ltb largest_printed n p)) refl refl

    module _ (s : wrong_size n ≡ false) (l : n ≤ largest_printed) where
      right-size : (wrong_size n || ltb largest_printed n) ≡ false
      right-size = or_neither (wrong_size n) _ s (le-ltb largest_printed n l)

      pub site-words : wrong_words words n ≡ true → site_outcome words size (triples table) queries count ≡ refused (refusal_number Words)
      unfolding refusal_number
      site-words y = site-is false true _ right-size y refl

      pub site-codes : wrong_words words n ≡ false → wrong_codes words n (triples table) ≡ true → site_outcome words size (triples table) queries count ≡ refused (refusal_number Code)
      unfolding refusal_number
      site-codes y q = site-is false false true right-size y q

      pub site-checked : wrong_words words n ≡ false → wrong_codes words n (triples table) ≡ false
          → site_outcome words size (triples table) queries count ≡ saturation_outcome words n (triples table) queries count
      site-checked y q = site-is false false false right-size y q

      pub is-checked : wrong_words words n ≡ false → wrong_codes words n (triples table) ≡ false → length table % 3 ≡ 0 → length table ≤ 3 * most_lines → CheckedTable words table n
      is-checked y q m f = record { size = s; printed = l; words = y; codes = q; flat = m; few = f }
