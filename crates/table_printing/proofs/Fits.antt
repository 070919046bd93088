-- What is printed of any text fits into 49,152 bytes.
-- Assumes nothing.
use Prim.Native.Nat.{ℕ, zero, suc, ◌+◌, ◌*◌, ◌<◌, ◌≤◌}
use mathlib.Core.Path.{◌≡◌, refl, sym, ap, subst}
use mathlib.Core.Logic.{◌⊎◌, inl, inr, ⊎_elim}
use mathlib.Core.Bool.{Bool, true, false, cond, ◌||◌}
use mathlib.Core.List.Memᴰ.{head as here}
use mathlib.Core.List.Memᴰ.{tail as there}
use mathlib.Core.List.{List, [], ◌∷◌, ◌++◌}
use mathlib.Core.Option.{Option, none, some}
use native.Mathlib.Omega.{arith}
use lib.Dec.{eqb, ltb}
use lib.ListN.{length, get_or, length-append}
use borrow.Author.Tests.{eq-eqb, ne_eqb, ltb-false}
use Rattle.model.specs.declared.Triple.{Triple}
use Rattle.model.specs.declared.Vocabulary.{Vocabulary}
use Rattle.model.specs.Codes.{wrong_words, absent}
use Rattle.model.specs.Lists.{any, collect, tabulate}
use Rattle.model.specs.Roster.{own_roster, wrong_codes}
use Rattle.model.specs.Saturation.{saturation}
use Rattle.model.specs.Partition.{label}
use Rattle.model.specs.Classes.{map_of}
use Rattle.model.specs.Summary.{summary}
use Rattle.model.specs.Outcomes.{Outcome, refused, accepted, decided, wrong_size}
use Rattle.theory.proofs.Tests.{cond_cases, or-false}
use Rattle.theory.proofs.Lists.{length-tabulate}
use Rattle.theory.specs.Tables.{AllBelow, Right}
use Rattle.theory.proofs.Accepted.{room, below, summary-right}
use Rattle.theory.proofs.Summaries.{condensed-length}
use Rattle.theory.proofs.Mapped.{node_or, node-below, map-absent, map-node, length_map_of}
use Rattle.theory.proofs.OwnTables.{own-size, sat-right}
use Rattle.query.specs.declared.Query.{Query}
use Rattle.query.specs.Ask.{ask_outcome}
use Rattle.site_form.specs.Text.{bytes, numeral, triple_line, most_asks}
use Rattle.site_form.specs.Reading.{Forms, loaded, read_forms, queries_of}
use Rattle.site_form.specs.Printing.{most_bytes, largest_printed, printer_slots, is_wrong, refused_line, summary_line, pair_line, node_line, node_lines}
use Rattle.site_form.specs.Printing.{answer_line, report, shown, print_checked, print_forms, print_read, print_outcome, printed}
use Rattle.site_form.proofs.Whole.{read-says}
use Rattle.site_bytes.proofs.Numerals.{three_digits, five-digits}
use Rattle.table_printing.specs.Outcomes.{no_query, asked_of, asks_outcome, summary_outcome, saturation_outcome, site_outcome}
use Rattle.site_report.proofs.Lines.{node-absent, node-pair}
use Rattle.table_printing.proofs.Answers.{asked_are}
use Rattle.table_printing.proofs.Reports.{refused-short, shown-refused}

-- ── lines ──
count-short : (n : ℕ) → n < 100000 → length (summary_line n) ≤ 16
unfolding summary_line
count-short n h = omega (arith, length-append (numeral n) (bytes ")\n"), five-digits n h)

line-short : (t : Triple) → t.subject < 1000 → t.property < 1000 → t.object < 1000 → length (triple_line t) ≤ 16
unfolding triple_line
line-short t a b c =
    let o = length-append (numeral t.object) (bytes ")\n") in
    let p = length-append (numeral t.property) (bytes " " ++ (numeral t.object ++ bytes ")\n")) in
    let s = length-append (numeral t.subject) (bytes " " ++ (numeral t.property ++ (bytes " " ++ (numeral t.object ++ bytes ")\n")))) in
    omega (arith, three_digits _ a, three_digits _ b, three_digits _ c)

lines-short : (n : ℕ) → n ≤ 1000 → (ts : List Triple) → AllBelow n ts → length (collect triple_line ts) ≤ 16 * length ts
unfolding collect
lines-short n h [] b = omega arith
lines-short n h (t ∷ ts) b =
    let x = b t (here refl) in
    let l = line-short t (omega (arith, x.subject)) (omega (arith, x.property)) (omega (arith, x.object)) in
    omega (arith, length-append (triple_line t) (collect triple_line ts), lines-short n h ts (λ u m. b u (there m)))

pair-short : (c r : ℕ) → c < 1000 → r < 1000 → length (pair_line c r) ≤ 14
unfolding pair_line
pair-short c r h k =
    omega (arith, length-append (numeral r) (bytes ")\n"), length-append (numeral c) (bytes " " ++ (numeral r ++ bytes ")\n")), three_digits c h, three_digits r k)

Entry : List ℕ → ℕ → Type 0
Entry m c = (label m c ≡ absent) ⊎ (label m c < 1000)

node-short : (m : List ℕ) (c : ℕ) → c < 1000 → Entry m c → length (node_line m c) ≤ 14
unfolding Entry
node-short m c h (inl e) = let z : length (node_line m c) ≡ 0 = ap length (node-absent m c (eq-eqb _ _ e)) in omega arith
node-short m c h (inr k) =
    let z : length (node_line m c) ≡ length (pair_line c (label m c)) = ap length (node-pair m c (ne_eqb (label m c) absent (λ (e : label m c ≡ absent). absurd (omega arith)))) in
    omega (arith, pair-short c (label m c) h k)

some-nodes : (m : List ℕ) (i n : ℕ) → ((c : ℕ) → c < i + n → length (node_line m c) ≤ 14) → length (collect (node_line m) (tabulate (λ c. c) i n)) ≤ 14 * n
unfolding collect tabulate
some-nodes m i zero h = omega arith
some-nodes m i (suc n) h =
    omega (arith, length-append (node_line m i) (collect (node_line m) (tabulate (λ c. c) (suc i) n)), h i (omega arith), some-nodes m (suc i) n (λ c k. h c (omega arith)))

nodes-short : (m : List ℕ) → length m ≤ largest_printed → ((c : ℕ) → Entry m c) → length (node_lines m) ≤ 14 * length m
unfolding node_lines
nodes-short m k h = some-nodes m 0 (length m) (λ c l. node-short m c (omega arith) (h c))

answer-short : (a : Outcome Bool) → length (answer_line a) ≤ 14
unfolding answer_line
answer-short (refused r) = cond_cases (λ (l : List ℕ). length l ≤ 14) (eqb r 12) (λ e. omega arith) (λ e. omega arith)
answer-short (accepted true) = omega arith
answer-short (accepted false) = omega arith

answers-short : (answers : List (Outcome Bool)) → length (collect answer_line answers) ≤ 14 * length answers
unfolding collect
answers-short [] = omega arith
answers-short (a ∷ answers) = omega (arith, length-append (answer_line a) (collect answer_line answers), answer-short a, answers-short answers)

-- ── a report ──
report-fits : (ts : List Triple) (m : List ℕ) (answers : List (Outcome Bool)) → length ts ≤ printer_slots → AllBelow largest_printed ts
    → length m ≤ largest_printed → ((c : ℕ) → Entry m c) → length answers ≤ most_asks → length (report ts m answers) ≤ 49152
unfolding report
report-fits ts m answers h b k e l =
    omega (
      arith,
      length-append (summary_line (length ts)) (collect triple_line ts ++ (node_lines m ++ collect answer_line answers)),
      length-append (collect triple_line ts) (node_lines m ++ collect answer_line answers),
      length-append (node_lines m) (collect answer_line answers),
      count-short (length ts) (omega arith),
      lines-short largest_printed (omega arith) ts b,
      nodes-short m k e,
      answers-short answers,
    )

-- ── the outcomes ──
abbrev Fits : Outcome (List ℕ) → Type 0
Fits o = length (shown o) ≤ 49152

refused-fits : (n : ℕ) → n < 100000 → Fits (refused n)
refused-fits n h = let z : length (shown (refused n)) ≡ length (refused_line n) = ap length (shown-refused n) in omega (arith, refused-short n h)

module _ (v : Vocabulary) where
  module _ (roster : List ℕ) (ts : List Triple) (r : Right v roster ts) (size : length roster ≤ largest_printed) where
    entries : (c : ℕ) → Entry (map_of v roster ts) c
    unfolding Entry
    entries c =
        ⊎_elim
        (λ x. let z = node-below (length roster) ts (below v roster ts r) _ (map-node v roster ts (below v roster ts r) (room v roster ts r) c x) in inr (omega arith))
        (λ f. inl (map-absent v roster ts (below v roster ts r) (room v roster ts r) c f))
        (node_or ts c)

    -- the report of a summary with codes below 512
    pub summary-fits : (answers : List (Outcome Bool)) → length ts ≤ printer_slots → length answers ≤ most_asks → length (report (summary v roster ts) (map_of v roster ts) answers) ≤ 49152
    summary-fits answers h l =
        let s = summary-right v roster ts r in
        let b = below v roster (summary v roster ts) s in
        report-fits (summary v roster ts) (map_of v roster ts) answers (omega (arith, condensed-length (map_of v roster ts) ts))
        (λ t m. let x = b t m in record { subject = omega (arith, x.subject); property = omega (arith, x.property); object = omega (arith, x.object) })
        (omega (arith, length_map_of v roster ts)) entries l

  module _ (queries : List Query) (k : ℕ) (few : k ≤ most_asks) where
    pub asked-few : (table m : List ℕ) → length (asked_of v table m queries k) ≤ most_asks
    unfolding asked_of
    asked-few table m = omega (arith, length-tabulate (λ i. ask_outcome v table m (get_or queries i no_query)) 0 k)

    summary-outcome-fits : (roster : List ℕ) (ts : List Triple) → Right v roster ts → length roster ≤ largest_printed → length ts ≤ printer_slots → Fits (summary_outcome v roster ts queries k)
    unfolding summary_outcome asks_outcome decided shown
    summary-outcome-fits roster ts r s h =
        cond_cases Fits (any is_wrong _) (λ e. refused-fits 6 (omega arith))
        (λ e. summary-fits roster ts r s _ h (asked-few _ _))

    site-fits : (n : ℕ) (ts : List Triple) → Fits (site_outcome v n ts queries k)
    unfolding site_outcome saturation_outcome decided
    site-fits n ts =
        cond_cases Fits (wrong_size n || ltb largest_printed n) (λ e. refused-fits 1 (omega arith)) (λ e.
        let w = or-false (wrong_size n) (ltb largest_printed n) e in
        cond_cases Fits (wrong_words v n) (λ y. refused-fits 10 (omega arith)) (λ y.
        cond_cases Fits (wrong_codes v n ts) (λ f. refused-fits 3 (omega arith)) (λ f.
        cond_cases Fits (ltb printer_slots (length (saturation v n ts))) (λ g. refused-fits 5 (omega arith)) (λ g.
        summary-outcome-fits (own_roster v n ts) (saturation v n ts) (sat-right v n ts w.0 y f)
        (omega (arith, own-size v n ts f, ltb-false largest_printed n w.1)) (ltb-false printer_slots (length (saturation v n ts)) g)))))

-- what is printed of forms, with the answers to the queries as they were read
pub forms_are : (f : Forms) → print_forms f ≡ site_outcome (loaded f.words) f.size f.triples (queries_of f.asks) (length f.asks)
unfolding print_forms print_checked site_outcome saturation_outcome summary_outcome asks_outcome decided
forms_are f =
    let v = loaded f.words in
    let own = own_roster v f.size f.triples in
    let sat = saturation v f.size f.triples in
    ap
    (λ (answers : List (Outcome Bool)).
    cond (wrong_size f.size || ltb largest_printed f.size) (refused 1)
    (cond (wrong_words v f.size) (refused 10)
    (cond (wrong_codes v f.size f.triples) (refused 3)
    (cond (ltb printer_slots (length sat)) (refused 5)
    (cond (any is_wrong answers) (refused 6) (accepted (report (summary v own sat) (map_of v own sat) answers)))))))
    (asked_are v (summary v own sat) (map_of v own sat) f.asks)

read_fits : (text : List ℕ) (o : Option Forms) → read_forms text ≡ o → Fits (print_read o)
read_fits text none e = refused-fits 8 (omega arith)
read_fits text (some f) e =
    subst Fits (sym (forms_are f)) (site-fits (loaded f.words) (queries_of f.asks) (length f.asks) (read-says text f e).few_asks f.size f.triples)

-- its list is always long enough
pub printed-fits : (text : List ℕ) → length (printed text) ≤ 49152
unfolding printed print_outcome
printed-fits text = cond_cases Fits (ltb most_bytes (length text)) (λ e. refused-fits 8 (omega arith)) (λ e. read_fits text (read_forms text) refl)
