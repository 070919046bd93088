-- One line for each query: retired, maybe or none.
-- Assumes nothing.
use Prim.Native.Nat.{ℕ, zero, suc, ◌<◌}
use mathlib.Core.Path.{◌≡◌, refl, sym, ap, subst, ◌∙◌}
use mathlib.Core.Logic.{⊎_elim}
use mathlib.Core.Bool.{Bool, true, false, cond}
use mathlib.Core.List.{List, [], ◌∷◌, ◌++◌, map, append_assoc}
use mathlib.Core.Option.{Option, none, some}
use native.Mathlib.Omega.{arith}
use lib.Dec.{eqb, ltb}
use lib.ListN.{length, get_or, length-map}
use Rattle.model.specs.declared.Triple.{Triple}
use Rattle.model.specs.declared.Vocabulary.{Vocabulary}
use Rattle.model.specs.Lists.{any, collect}
use Rattle.model.specs.Triples.{triples, flat}
use Rattle.model.specs.Outcomes.{Outcome, refused, accepted, Check, decided}
use Rattle.theory.proofs.Tests.{bool_cases, not_both}
use Rattle.theory.proofs.Checks.{first-decides, not_accepted, accepted-passes, passed, passed-all}
use Rattle.theory.proofs.Flat.{triples-flat}
use Rattle.theory.proofs.Lists.{any_none, mem-map, mem_get_d}
use Rattle.query.specs.declared.Pattern.{Pattern}
use Rattle.query.specs.declared.Query.{Query}
use Rattle.query.specs.Ask.{retired, search, unbound, ask_checks, ask_outcome}
use Rattle.query.specs.Match.{Choice, Exact}
use Rattle.query.proofs.Exact.{ask-exact}
use Rattle.site_form.specs.Text.{triple_line}
use Rattle.site_form.specs.Reading.{Forms, loaded, read_forms, query_of}
use Rattle.site_form.specs.Printing.{most_bytes, summary_line, node_lines, maybe_line, none_line, retired_line, answer_line, report, is_wrong, print_checked, query_answers, print_forms}
use Rattle.site_form.specs.Printing.{summary_of, representatives_of, print_read, print_outcome}
use Rattle.site_form.specs.Answers.{QueryLine, AnswerLines, RetiredPrinted}

-- ── the checks before 12 ──
other-wrong : (r : ℕ) → eqb r 12 ≡ false → is_wrong (refused r) ≡ true
other-wrong r n = cc

-- where an outcome is not wrong, a check that returns another number than 12 did not decide it
not_decided : (c : Check) (cs : List Check) (rest : Outcome Bool) → eqb c.returns 12 ≡ false → is_wrong (decided (c ∷ cs) rest) ≡ false
    → (decided (c ∷ cs) rest ≡ decided cs rest) × (is_wrong (decided cs rest) ≡ false)
not_decided c cs rest n h =
    ⊎_elim
    (λ e. absurd (not_both (other-wrong c.returns n) (sym (ap is_wrong (first-decides c cs rest e)) ∙ h)))
    (λ e. (first-decides c cs rest e, sym (ap is_wrong (first-decides c cs rest e)) ∙ h))
    (bool_cases c.fails)

last-decides : (c : Check) (rest : Outcome Bool) → decided (c ∷ []) rest ≡ cond c.fails (refused c.returns) rest
unfolding decided
last-decides c rest = refl

-- ── the three lines ──
maybe-is : answer_line (accepted true) ≡ maybe_line
unfolding answer_line
maybe-is = refl

none_is : answer_line (accepted false) ≡ none_line
unfolding answer_line
none_is = refl

-- they have 14, 12 and 11 bytes
answer_not_retired : (b : Bool) → answer_line (accepted b) ≡ retired_line → ⊥
unfolding answer_line
answer_not_retired true e = let n : length maybe_line ≡ length retired_line = ap length e in omega arith
answer_not_retired false e = let n : length none_line ≡ length retired_line = ap length e in omega arith

answer-maybe : (b : Bool) → answer_line (accepted b) ≡ maybe_line → ◌≡◌ {A = Outcome Bool} (accepted b) (accepted true)
unfolding answer_line
answer-maybe true e = refl
answer-maybe false e = let n : length none_line ≡ length maybe_line = ap length e in absurd (omega arith)

answer-none : (b : Bool) → answer_line (accepted b) ≡ none_line → ◌≡◌ {A = Outcome Bool} (accepted b) (accepted false)
unfolding answer_line
answer-none true e = let n : length maybe_line ≡ length none_line = ap length e in absurd (omega arith)
answer-none false e = refl

-- ── one query ──
module _ (v : Vocabulary) (ts : List Triple) (m : List ℕ) (q : Query) where
  abbrev said : Outcome Bool
  said = ask_outcome v (flat ts) m q

  -- what the table and the map say of the query
  abbrev searched : Bool
  searched = search (triples (flat ts)) m q.patterns q.count 0 unbound

  module _ (h : is_wrong said ≡ false) where
    -- the checks 1, 10, 3 and 6 passed, so 12 decides
    decides : said ≡ cond (retired v q) (refused 12) (accepted searched)
    unfolding ask_outcome ask_checks
    decides =
        let a = not_decided _ _ _ refl h in
        let b = not_decided _ _ _ refl a.1 in
        let c = not_decided _ _ _ refl b.1 in
        let d = not_decided _ _ _ refl c.1 in
        a.0 ∙ b.0 ∙ c.0 ∙ d.0 ∙ last-decides _ _

    retired-line : retired v q ≡ true → QueryLine v ts m q (answer_line said)
    unfolding answer_line
    retired-line e =
        let s : said ≡ refused 12 = decides ∙ ap (λ (b : Bool). cond b (refused 12) (accepted searched)) e in
        record {
          retires = (λ x. e, λ x. ap answer_line s);
          maybe = λ f. absurd (not_both e f);
          none = λ f. absurd (not_both e f);
        }

    answered-line : retired v q ≡ false → QueryLine v ts m q (answer_line said)
    unfolding ask_outcome
    answered-line e = record {
      retires = (λ x. absurd (answer_not_retired searched (sym (ap answer_line s) ∙ x)), λ f. absurd (not_both f e));
      maybe = λ f. (
        λ x. subst (λ (us : List Triple). Choice us m q) (triples-flat ts) (X.maybe.0 (s ∙ answer-maybe searched (sym (ap answer_line s) ∙ x))),
        λ c. ap answer_line (X.maybe.1 (back c)) ∙ maybe-is,
      );
      none = λ f. (
        λ x c. X.none.0 (s ∙ answer-none searched (sym (ap answer_line s) ∙ x)) (back c),
        λ n. ap answer_line (X.none.1 (λ c. n (subst (λ (us : List Triple). Choice us m q) (triples-flat ts) c))) ∙ none_is,
      );
    }
      where
        s : said ≡ accepted searched
        s = decides ∙ ap (λ (b : Bool). cond b (refused 12) (accepted searched)) e

        X : Exact v (flat ts) m q
        X = ask-exact v (flat ts) m q (accepted-passes _ _ searched s)

        back : Choice ts m q → Choice (triples (flat ts)) m q
        back c = subst (λ (us : List Triple). Choice us m q) (sym (triples-flat ts)) c

    pub line_of : QueryLine v ts m q (answer_line said)
    line_of = ⊎_elim retired-line answered-line (bool_cases (retired v q))

-- ── all queries ──
module _ (g : List Pattern → Outcome Bool) where
  line_at : (qs : List (List Pattern)) (k : ℕ) → k < length qs → get_or (map answer_line (map g qs)) k [] ≡ answer_line (g (get_or qs k []))
  line_at [] k l = absurd (omega arith)
  line_at (ps ∷ qs) zero l = refl
  line_at (ps ∷ qs) (suc k) l = line_at qs k (omega arith)

  right-at : (qs : List (List Pattern)) → any is_wrong (map g qs) ≡ false → (k : ℕ) → k < length qs → is_wrong (g (get_or qs k [])) ≡ false
  right-at qs h k l = any_none is_wrong (map g qs) h _ (mem-map g qs (get_or qs k []) (mem_get_d qs [] k l) refl)

lines_of : (answers : List (Outcome Bool)) → collect answer_line answers ≡ collect (λ line. line) (map answer_line answers)
unfolding collect
lines_of [] = refl
lines_of (a ∷ answers) = ap (λ (l : List ℕ). answer_line a ++ l) (lines_of answers)

-- the answers stand behind the rest of a report
report_then : (ts : List Triple) (m : List ℕ) (answers : List (Outcome Bool)) → report ts m answers ≡ report ts m [] ++ collect answer_line answers
unfolding report collect
report_then ts m answers =
    let S = summary_line (length ts) in
    let T = collect triple_line ts in
    let N = node_lines m in
    let A = collect answer_line answers in
    sym
    (append_assoc S (T ++ (N ++ [])) A
    ∙ ap (λ (l : List ℕ). S ++ l) (append_assoc T (N ++ []) A ∙ ap (λ (l : List ℕ). T ++ l) (append_assoc N [] A)))

pub forms-answers : (f : Forms) (out : List ℕ) → print_forms f ≡ accepted out → AnswerLines f out
unfolding print_forms print_checked query_answers
forms-answers f out e =
    let v = loaded f.words in
    let ts = summary_of f in
    let m = representatives_of f in
    let ask : List Pattern → Outcome Bool = λ ps. ask_outcome v (flat ts) m (query_of ps) in
    let a = passed _ _ _ out e in
    let b = passed _ _ _ out a.1 in
    let c = passed _ _ _ out b.1 in
    let d = passed _ _ _ out c.1 in
    let g = passed _ _ _ out d.1 in
    let os : List (Outcome Bool) = map ask f.asks in
    record {
      answers = map answer_line os;
      one_each = length-map os answer_line ∙ length-map f.asks ask;
      behind = sym (passed-all _ out g.1) ∙ report_then ts m os ∙ ap (λ (l : List ℕ). report ts m [] ++ l) (lines_of os);
      lines = λ k l.
          subst (QueryLine v ts m (query_of (get_or f.asks k []))) (sym (line_at ask f.asks k l))
          (line_of v ts m (query_of (get_or f.asks k [])) (right-at ask f.asks g.0 k l));
    }

pub retired_printed : RetiredPrinted
unfolding print_outcome
retired_printed text out e =
    ⊎_elim
    (λ x. absurd (not_accepted (sym (at x) ∙ e)))
    (λ x. read (read_forms text) refl (sym (at x) ∙ e))
    (bool_cases (ltb most_bytes (length text)))
  where
    at : {b : Bool} → ltb most_bytes (length text) ≡ b → print_outcome text ≡ cond b (refused 8) (print_read (read_forms text))
    at x = ap (λ (b : Bool). cond b (refused 8) (print_read (read_forms text))) x

    read : (o : Option Forms) → read_forms text ≡ o → print_read o ≡ accepted out → (f : Forms) × (read_forms text ≡ some f) × AnswerLines f out
    read none r x = absurd (not_accepted x)
    read (some f) r x = (f, r, forms-answers f out x)
