-- The report line by line, and refusals.
-- Assumes nothing.
use Prim.Native.Nat.{ℕ, ◌/◌, ◌<◌, ◌≤◌}
use mathlib.Core.Path.{◌≡◌, refl, sym, ◌∙◌, ap}
use mathlib.Core.Bool.{Bool, true, false, cond}
use mathlib.Core.List.{List, ◌++◌}
use native.Mathlib.Omega.{arith}
use lib.ListN.{length, length-append}
use Rattle.model.specs.declared.Refusal.{Refusal}
use Rattle.model.specs.declared.Refusal.TheVariants.{Length, Roster, Code, Cover, Slots, Query, Full, Form, Missing, Words, Retired}
use Rattle.model.specs.declared.Triple.{Triple}
use Rattle.model.specs.Lists.{any, collect}
use Rattle.model.specs.Triples.{triples}
use Rattle.model.specs.Outcomes.{Outcome, refused, accepted, refusal_number, decided}
use Rattle.theory.proofs.Lists.{length-tabulate}
use Rattle.lists.specs.Flat.{at}
use Rattle.lists.proofs.Places.{triples-table}
use Rattle.site_form.specs.Text.{bytes, numeral, triple_line}
use Rattle.site_form.specs.Printing.{refused_line, summary_line, node_lines, answer_line, report, shown, is_wrong}
use Rattle.site_bytes.specs.Calls.{Room, Put}
use Rattle.site_bytes.proofs.Stores.{put_then, room-first, room_next}
use Rattle.site_bytes.proofs.Numerals.{five-digits}
use Rattle.table_printing.specs.Outcomes.{asks_outcome}
use Rattle.site_report.proofs.Lines.{room_as, put_as}

-- ── refusals ──
small-number : (r : Refusal) → refusal_number r < 100000
unfolding refusal_number
small-number Length = omega arith
small-number Roster = omega arith
small-number Code = omega arith
small-number Cover = omega arith
small-number Slots = omega arith
small-number Query = omega arith
small-number Full = omega arith
small-number Form = omega arith
small-number Missing = omega arith
small-number Words = omega arith
small-number Retired = omega arith

pub refused-short : (n : ℕ) → n < 100000 → length (refused_line n) ≤ 16
unfolding refused_line
refused-short n h = omega (arith, length-append (numeral n) (bytes ")\n"), five-digits n h)

pub shown-refused : (n : ℕ) → shown (refused n) ≡ refused_line n
unfolding shown
shown-refused n = refl

pub room_refusal : (r : Refusal) (n : ℕ) → n ≡ refusal_number r → Room 0 (refused_line n)
room_refusal r n e = omega (arith, small-number r, refused-short n (omega (arith, small-number r)))

pub refusal_put : (l : List ℕ) (r : Refusal) (n : ℕ) → n ≡ refusal_number r → (out : List ℕ) (x : ℕ) → Put l 0 (refused_line n) out x → Put l 0 (shown (refused (refusal_number r))) out x
refusal_put l r n e out x p = put_as 0 (shown-refused (refusal_number r) ∙ ap refused_line (sym e)) l out x p

-- an outcome that is known
pub shows : (l : List ℕ) (o : Outcome (List ℕ)) (s : Outcome (List ℕ)) → o ≡ s → (out : List ℕ) (x : ℕ) → Put l 0 (shown s) out x → Put l 0 (shown o) out x
shows l o s e out x p = put_as 0 (ap shown e) l out x p

-- ── the report ──
pub triples-count : (table : List ℕ) → length (triples table) ≡ length table / 3
triples-count table = ap length (triples-table table) ∙ length-tabulate (at table) 0 (length table / 3)

module _ (out table m : List ℕ) (answers : List (Outcome Bool)) (count : ℕ) (e : count ≡ length table / 3) (h : Room 0 (report (triples table) m answers)) where
  abbrev T : List ℕ
  T = collect triple_line (triples table)

  abbrev N : List ℕ
  N = node_lines m

  abbrev S : List ℕ
  S = collect answer_line answers

  is-report : report (triples table) m answers ≡ summary_line count ++ (T ++ (N ++ S))
  unfolding report
  is-report = ap (λ (k : ℕ). summary_line k ++ (T ++ (N ++ S))) (triples-count table ∙ sym e)

  all_room : Room 0 (summary_line count ++ (T ++ (N ++ S)))
  all_room = room_as 0 is-report h

  pub room-count : Room 0 (summary_line count)
  room-count = room-first 0 (summary_line count) _ all_room

  module _ (a : List ℕ) (i : ℕ) (p : Put out 0 (summary_line count) a i) where
    behind-count : Room i (T ++ (N ++ S))
    behind-count = room_next out 0 (summary_line count) _ a i all_room p

    pub room-table : Room i T
    room-table = room-first i T _ behind-count

    module _ (b : List ℕ) (j : ℕ) (q : Put a i T b j) where
      behind-table : Room j (N ++ S)
      behind-table = room_next a i T _ b j behind-count q

      pub room-nodes : Room j N
      room-nodes = room-first j N _ behind-table

      module _ (d : List ℕ) (k : ℕ) (s : Put b j N d k) where
        pub room-answers : Room k S
        room-answers = room_next b j N _ d k behind-table s

        pub report-put : (z : List ℕ) (r : ℕ) → Put d k S z r → Put out 0 (report (triples table) m answers) z r
        report-put z r u =
            put_as 0 is-report out z r
            (put_then out 0 (summary_line count) a i _ z r p
            (put_then a i T b j _ z r q
            (put_then b j N d k S z r s u)))

-- ── check 6 ──
module _ (ts : List Triple) (m : List ℕ) (answers found : List (Outcome Bool)) (same : found ≡ answers) where
  asks_are : (b : Bool) → any is_wrong found ≡ b → asks_outcome ts m answers ≡ cond b (refused 6) (accepted (report ts m answers))
  unfolding asks_outcome decided
  asks_are b e = ap (λ (x : Bool). cond x (refused 6) (accepted (report ts m answers))) (ap (any is_wrong) (sym same) ∙ e)

  pub room-found : Room 0 (report ts m answers) → Room 0 (report ts m found)
  room-found h = room_as 0 (ap (report ts m) (sym same)) h

  module _ (l out : List ℕ) (x : ℕ) where
    pub asks-refused : any is_wrong found ≡ true → Put l 0 (shown (refused (refusal_number Query))) out x → Put l 0 (shown (asks_outcome ts m answers)) out x
    unfolding refusal_number
    asks-refused e p = shows l (asks_outcome ts m answers) (refused 6) (asks_are true e) out x p

    pub asks-accepted : any is_wrong found ≡ false → Put l 0 (report ts m found) out x → Put l 0 (shown (asks_outcome ts m answers)) out x
    unfolding shown
    asks-accepted e p = put_as 0 (ap shown (asks_are false e) ∙ ap (report ts m) (sym same)) l out x p
