-- The printer's lines: their stores, and the loop over numbered lines.
-- Assumes nothing.
use Prim.Native.Nat.{ℕ, zero, suc, ◌+◌, ◌-◌, ◌<◌, ◌≤◌}
use mathlib.Core.Path.{◌≡◌, refl, sym, ◌∙◌, ap, subst}
use mathlib.Core.Bool.{Bool, true, false, cond}
use mathlib.Core.List.{List, [], ◌∷◌, ◌++◌}
use native.Mathlib.Numerals.{add-one}
use native.Mathlib.Omega.{arith}
use lib.Dec.{eqb}
use lib.ListN.{length, get_or, length-append}
use lib.Seq.{sets}
use Rattle.std.specs.declared.result.Result.{Result}
use Rattle.std.specs.declared.result.Result.TheVariants.{Ok, Err}
use Rattle.model.specs.Codes.{absent}
use Rattle.model.specs.Lists.{collect, tabulate}
use Rattle.model.specs.Partition.{label}
use Rattle.model.specs.declared.Refusal.{Refusal}
use Rattle.model.specs.Outcomes.{refused, refusal_number, outcome_by, outcome_of, accepted}
use Rattle.query.specs.declared.Asked.{Asked}
use Rattle.query.specs.declared.Asked.TheVariants.{Maybe, None}
use Rattle.query.specs.Ask.{asked, says_maybe}
use Rattle.site_form.specs.Text.{bytes, numeral}
use Rattle.site_form.specs.Printing.{refused_line, summary_line, pair_line, node_line, node_lines, maybe_line, none_line, retired_line, answer_line}
use Rattle.site_bytes.specs.Calls.{Room, Put}
use Rattle.site_bytes.proofs.Stores.{sets_append, put-length, put_then_two, room-first-two, room-next-two}
use Rattle.site_report.specs.Lines.{answer_at, answers_in}

-- nothing stored
pub put-none : (l : List ℕ) (from : ℕ) (xs : List ℕ) → xs ≡ [] → Put l from xs l from
put-none l from xs e = record { list = ap (sets l from) (sym e); next = let n : length xs ≡ 0 = ap length e in omega arith }

get_d_any : (m : List ℕ) (i d e : ℕ) → i < length m → get_or m i d ≡ get_or m i e
get_d_any [] i d e h = absurd (omega arith)
get_d_any (x ∷ m) zero d e h = refl
get_d_any (x ∷ m) (suc i) d e h = get_d_any m i d e (omega arith)

-- ── lines of one number ──
module _ (l : List ℕ) (from n : ℕ) where
  pub room-refused : Room from (refused_line n) → Room from (bytes "(refused " ++ numeral n)
  unfolding refused_line
  room-refused h = room-first-two from (bytes "(refused ") (numeral n) (bytes ")\n") h

  pub room-summary : Room from (summary_line n) → Room from (bytes "(summary " ++ numeral n)
  unfolding summary_line
  room-summary h = room-first-two from (bytes "(summary ") (numeral n) (bytes ")\n") h

  module _ (m : List ℕ) (i : ℕ) (p : Put l from (bytes "(refused " ++ numeral n) m i) where
    pub room-refused-end : Room from (refused_line n) → Room i (bytes ")\n")
    unfolding refused_line
    room-refused-end h = room-next-two l from (bytes "(refused ") (numeral n) (bytes ")\n") m i h p

    pub refused-put : (out : List ℕ) (r : ℕ) → Put m i (bytes ")\n") out r → Put l from (refused_line n) out r
    unfolding refused_line
    refused-put out r q = put_then_two l from (bytes "(refused ") (numeral n) m i (bytes ")\n") out r p q

  module _ (m : List ℕ) (i : ℕ) (p : Put l from (bytes "(summary " ++ numeral n) m i) where
    pub room-summary-end : Room from (summary_line n) → Room i (bytes ")\n")
    unfolding summary_line
    room-summary-end h = room-next-two l from (bytes "(summary ") (numeral n) (bytes ")\n") m i h p

    pub summary-put : (out : List ℕ) (r : ℕ) → Put m i (bytes ")\n") out r → Put l from (summary_line n) out r
    unfolding summary_line
    summary-put out r q = put_then_two l from (bytes "(summary ") (numeral n) m i (bytes ")\n") out r p q

-- ── the line of a node ──
module _ (l : List ℕ) (from c rep : ℕ) (h : Room from (pair_line c rep)) where
  pub room-code : Room from (bytes "(rep " ++ numeral c)
  unfolding pair_line
  room-code = room-first-two from (bytes "(rep ") (numeral c) _ h

  module _ (a : List ℕ) (i : ℕ) (p : Put l from (bytes "(rep " ++ numeral c) a i) where
    behind-code : Room i (bytes " " ++ (numeral rep ++ bytes ")\n"))
    unfolding pair_line
    behind-code = room-next-two l from (bytes "(rep ") (numeral c) _ a i h p

    pub room_representative : Room i (bytes " " ++ numeral rep)
    room_representative = room-first-two i (bytes " ") (numeral rep) _ behind-code

    module _ (b : List ℕ) (j : ℕ) (q : Put a i (bytes " " ++ numeral rep) b j) where
      pub room-pair-end : Room j (bytes ")\n")
      room-pair-end = room-next-two a i (bytes " ") (numeral rep) _ b j behind-code q

      pub pair_put : (out : List ℕ) (r : ℕ) → Put b j (bytes ")\n") out r → Put l from (pair_line c rep) out r
      unfolding pair_line
      pair_put out r u =
          put_then_two l from (bytes "(rep ") _ a i _ out r p
          (put_then_two a i (bytes " ") _ b j _ out r q u)

pub node-absent : (m : List ℕ) (c : ℕ) → eqb (label m c) absent ≡ true → node_line m c ≡ []
unfolding node_line
node-absent m c e = ap (λ (b : Bool). cond b [] (pair_line c (label m c))) e

pub node-pair : (m : List ℕ) (c : ℕ) → eqb (label m c) absent ≡ false → node_line m c ≡ pair_line c (label m c)
unfolding node_line
node-pair m c e = ap (λ (b : Bool). cond b [] (pair_line c (label m c))) e

module _ (l : List ℕ) (from : ℕ) (m : List ℕ) (c : ℕ) (h : c < length m) (k : ℕ) (ek : k ≡ c) where
  entry : get_or m c 0 ≡ label m c
  entry = get_d_any m c 0 absent h

  absent_as : (b : Bool) → eqb (get_or m c 0) absent ≡ b → eqb (label m c) absent ≡ b
  absent_as b e = ap (λ (x : ℕ). eqb x absent) (sym entry) ∙ e

  pub node-none : eqb (get_or m c 0) absent ≡ true → Put l from (node_line m c) l from
  node-none e = put-none l from (node_line m c) (node-absent m c (absent_as true e))

  is_pair : eqb (get_or m c 0) absent ≡ false → node_line m c ≡ pair_line k (get_or m c 0)
  is_pair e = node-pair m c (absent_as false e) ∙ (λ i. pair_line (sym ek i) (sym entry i))

  pub room-node : eqb (get_or m c 0) absent ≡ false → Room from (node_line m c) → Room from (pair_line k (get_or m c 0))
  room-node e r = subst (λ (x : List ℕ). Room from x) (is_pair e) r

  pub node-some : eqb (get_or m c 0) absent ≡ false → (out : List ℕ) (r : ℕ) → Put l from (pair_line k (get_or m c 0)) out r → Put l from (node_line m c) out r
  node-some e out r p = subst (λ (x : List ℕ). Put l from x out r) (sym (is_pair e)) p

-- ── lines by their numbers: f 0, f 1, .., n of them ──
abbrev pub numbered : (ℕ → List ℕ) → ℕ → List ℕ
numbered f n = collect f (tabulate (λ c. c) 0 n)

pub rest : (ℕ → List ℕ) → ℕ → ℕ → List ℕ
rest f n i = collect f (tabulate (λ c. c) i (n - i))

rest_all : (f : ℕ → List ℕ) (n : ℕ) → rest f n 0 ≡ numbered f n
unfolding rest
rest_all f n = let e : n - 0 ≡ n = omega arith in ap (λ (k : ℕ). collect f (tabulate (λ c. c) 0 k)) e

rest-on : (f : ℕ → List ℕ) (n i : ℕ) → i < n → rest f n i ≡ f i ++ rest f n (i + 1)
unfolding rest collect tabulate
rest-on f n i h =
    let e : n - i ≡ suc (n - (i + 1)) = omega arith in
    ap (λ (k : ℕ). collect f (tabulate (λ c. c) i k)) e
    ∙ ap (λ (k : ℕ). f i ++ collect f (tabulate (λ c. c) k (n - (i + 1)))) (sym (add-one i))

rest-none : (f : ℕ → List ℕ) (n i : ℕ) → n ≤ i → rest f n i ≡ []
unfolding rest collect tabulate
rest-none f n i h = let e : n - i ≡ 0 = omega arith in ap (λ (k : ℕ). collect f (tabulate (λ c. c) i k)) e

-- what is left gives the rest
pub record Lining (f : ℕ → List ℕ) (n : ℕ) (l₀ : List ℕ) (from : ℕ) (l : List ℕ) (i next : ℕ) : Type 0 where
  pub within : i ≤ n
  pub gives : sets l next (rest f n i) ≡ sets l₀ from (numbered f n)
  pub ends : next + length (rest f n i) ≡ from + length (numbered f n)
  pub size : length l ≡ length l₀

module _ (f : ℕ → List ℕ) (n : ℕ) (l₀ : List ℕ) (from : ℕ) where
  pub lines_start : Lining f n l₀ from l₀ 0 from
  lines_start =
      let e = rest_all f n in
      record { within = omega arith; gives = ap (sets l₀ from) e; ends = ap (λ (x : List ℕ). from + length x) e; size = refl }

  module _ (l : List ℕ) (i next : ℕ) (h : Lining f n l₀ from l i next) where
    module _ (k : i < n) where
      longer : length (rest f n i) ≡ length (f i) + length (rest f n (i + 1))
      longer = ap length (rest-on f n i k) ∙ length-append (f i) (rest f n (i + 1))

      pub room-line : Room from (numbered f n) → Room next (f i)
      room-line r = omega (arith, h.ends, longer)

      pub lines_step : (m : List ℕ) (next' : ℕ) → Put l next (f i) m next' → Lining f n l₀ from m (i + 1) next'
      lines_step m next' p = record {
        within = omega arith;
        gives =
            (λ j. sets (p.list j) (p.next j) (rest f n (i + 1)))
            ∙ sym (sets_append l next (f i) (rest f n (i + 1)))
            ∙ ap (sets l next) (sym (rest-on f n i k))
            ∙ h.gives;
        ends = omega (arith, h.ends, p.next, longer);
        size = put-length l next (f i) m next' p ∙ h.size;
      }

    pub lines_end : n ≤ i → Put l₀ from (numbered f n) l next
    lines_end k =
        let e = rest-none f n i k in
        let z : length (rest f n i) ≡ 0 = ap length e in
        record { list = ap (sets l next) (sym e) ∙ h.gives; next = omega (arith, h.ends) }

-- ── the lines of nodes and answers are numbered ──
pub nodes_are : (m : List ℕ) → node_lines m ≡ numbered (node_line m) (length m)
unfolding node_lines
nodes_are m = refl

module _ {A : Type 0} (f : A → List ℕ) (g : ℕ → A) where
  collect-numbers : (i n : ℕ) → collect f (tabulate g i n) ≡ collect (λ k. f (g k)) (tabulate (λ k. k) i n)
  unfolding collect tabulate
  collect-numbers i zero = refl
  collect-numbers i (suc n) = ap (λ (x : List ℕ). f (g i) ++ x) (collect-numbers (suc i) n)

abbrev pub line_at : List (Result Asked Refusal) → ℕ → List ℕ
line_at answers i = answer_line (answer_at answers i)

pub answers_are : (answers : List (Result Asked Refusal)) (n : ℕ) → collect answer_line (answers_in answers n) ≡ numbered (line_at answers) n
unfolding answers_in
answers_are answers n = collect-numbers answer_line (answer_at answers) 0 n

module _ (from : ℕ) {xs ys : List ℕ} (e : xs ≡ ys) where
  pub room_as : Room from xs → Room from ys
  room_as h = subst (λ (x : List ℕ). Room from x) e h

  pub put_as : (l out : List ℕ) (r : ℕ) → Put l from ys out r → Put l from xs out r
  put_as l out r p = subst (λ (x : List ℕ). Put l from x out r) (sym e) p

-- ── the line of an answer ──
module _ (a : Asked) where
  pub line-maybe : a ≡ Maybe → answer_line (accepted (says_maybe a)) ≡ maybe_line
  unfolding answer_line says_maybe
  line-maybe e = ap (λ (x : Asked). answer_line (accepted (says_maybe x))) e

  pub line-none : a ≡ None → answer_line (accepted (says_maybe a)) ≡ none_line
  unfolding answer_line says_maybe
  line-none e = ap (λ (x : Asked). answer_line (accepted (says_maybe x))) e

module _ (n : ℕ) {t : Bool} (h : t ≡ eqb n 12) where
  pub line-retired : t ≡ true → answer_line (refused n) ≡ retired_line
  unfolding answer_line
  line-retired e = rw (← h, e)

  pub line-wrong : t ≡ false → answer_line (refused n) ≡ []
  unfolding answer_line
  line-wrong e = rw (← h, e)
