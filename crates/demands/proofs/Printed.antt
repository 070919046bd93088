-- The queries of a text that the site printer gets as far as.
-- Assumes nothing.
use Prim.Native.Nat.{ℕ}
use mathlib.Core.Path.{◌≡◌, refl, sym, subst, ◌∙◌, ap}
use mathlib.Core.Logic.{⊎_elim}
use mathlib.Core.Bool.{Bool, true, false, cond}
use mathlib.Core.List.{List}
use native.Mathlib.Omega.{arith}
use lib.ListN.{length}
use borrow.Author.Tests.{le-ltb}
use Rattle.model.specs.declared.Vocabulary.{Vocabulary}
use Rattle.model.specs.Lists.{any}
use Rattle.model.specs.Outcomes.{Outcome, accepted, refused, decided, wrong_size}
use Rattle.theory.proofs.Tests.{or_neither, bool_cases}
use Rattle.theory.proofs.Lists.{any-map}
use Rattle.theory.proofs.OwnTables.{own-size, sat-right}
use Rattle.theory.proofs.Accepted.{summary-right, right-accepted}
use Rattle.theory.proofs.Summaries.{condensed-length}
use Rattle.theory.proofs.Mapped.{length_map_of}
use Rattle.query.specs.declared.Query.{Query}
use Rattle.query.specs.Ask.{wrong_query, retired, ask_outcome}
use Rattle.site_form.specs.Reading.{Forms, loaded, read_forms, query_of}
use Rattle.site_form.specs.Printing.{most_bytes, report, refused_line, is_wrong, saturated_of, own_roster_of, summary_of, representatives_of, answers_of}
use Rattle.site_form.specs.Printing.{print_checked, query_answers, print_forms, print_read, print_outcome, printed, shown}
use Rattle.site_form.specs.Answers.{AnswerLines}
use Rattle.site_form.proofs.Answers.{forms-answers}
use Rattle.demands.specs.Routes.{Asks}
use Rattle.demands.specs.Printed.{RightForms, ReachesQueries, any_wrong, AskRefusesQueries, SixForWrong, RetiredRead}
use Rattle.demands.proofs.Routes.{asks_of}

pub ask_refuses_queries : AskRefusesQueries
ask_refuses_queries f r =
    let v = loaded f.words in
    let own = own_roster_of f in
    let S = sat-right v f.size f.triples r.size r.words r.codes in
    let T = summary-right v own (saturated_of f) S in
    let A = right-accepted v own (summary_of f) T (omega (arith, r.slots, condensed-length (representatives_of f) (saturated_of f))) in
    asks_of v _ _ own A (length_map_of v own (saturated_of f))

-- so the printer finds exactly the wrong queries
wrong-is : (v : Vocabulary) (table map : List ℕ) → Asks v table map → (q : Query) → is_wrong (ask_outcome v table map q) ≡ wrong_query (length map) q
wrong-is v table map a q =
    ⊎_elim
    (λ f. ap is_wrong (a.refuses q f) ∙ sym f)
    (λ f. ⊎_elim (λ g. ap is_wrong (a.retires q f g) ∙ sym f) (λ g. ap is_wrong (a.answers q f g).1 ∙ sym f) (bool_cases (retired v q)))
    (bool_cases (wrong_query (length map) q))

any-wrong : (f : Forms) → RightForms f → any is_wrong (answers_of f) ≡ any_wrong f
unfolding query_answers
any-wrong f r =
    let v = loaded f.words in
    let long : length (representatives_of f) ≡ f.size = length_map_of v _ _ ∙ own-size v f.size f.triples r.codes in
    any-map is_wrong _ _ f.asks (λ ps. wrong-is v _ _ (ask_refuses_queries f r) (query_of ps) ∙ ap (λ (n : ℕ). wrong_query n (query_of ps)) long)

module _ (text : List ℕ) (f : Forms) (r : ReachesQueries text f) where
  abbrev reported : List ℕ
  reported = report (summary_of f) (representatives_of f) (answers_of f)

  abbrev either : Bool → Outcome (List ℕ)
  either b = cond b (refused 6) (accepted reported)

  forms-outcome : print_forms f ≡ either (any_wrong f)
  unfolding print_forms print_checked decided
  forms-outcome =
      let R = r.right in
      let size = or_neither (wrong_size f.size) _ R.size (le-ltb _ _ r.printable) in
      rw (size, R.words, R.codes, le-ltb _ _ R.slots, any-wrong f R)

  text_outcome : print_outcome text ≡ either (any_wrong f)
  unfolding print_outcome
  text_outcome =
      ap (λ (b : Bool). cond b (refused 8) (print_read (read_forms text))) (le-ltb most_bytes (length text) r.short)
      ∙ ap print_read r.reads
      ∙ forms-outcome

  either-shown : (b : Bool) → shown (either b) ≡ cond b (refused_line 6) reported
  unfolding shown
  either-shown true = refl
  either-shown false = refl

  six_or_report : printed text ≡ cond (any_wrong f) (refused_line 6) reported
  unfolding printed
  six_or_report = ap shown text_outcome ∙ either-shown (any_wrong f)

  lines-printed : any_wrong f ≡ false → AnswerLines f (printed text)
  lines-printed right =
      subst (AnswerLines f) (sym (six_or_report ∙ ap (λ (b : Bool). cond b (refused_line 6) reported) right))
      (forms-answers f reported (forms-outcome ∙ ap either right))

pub six_for_wrong : SixForWrong
six_for_wrong = six_or_report

pub retired_read : RetiredRead
retired_read = lines-printed
