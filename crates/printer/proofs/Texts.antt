-- A text that was read.
-- Assumes nothing.
use Prim.Native.Nat.{ℕ, ◌-◌, ◌*◌, ◌/◌, ◌%◌, ◌<◌, ◌≤◌}
use mathlib.Core.Path.{◌≡◌, refl, sym, ◌∙◌, ap}
use mathlib.Core.Bool.{Bool, cond}
use mathlib.Core.List.{List, []}
use mathlib.Core.Option.{Option, none, some}
use native.Mathlib.Omega.{arith}
use lib.Dec.{ltb}
use lib.ListN.{length, take}
use borrow.Author.Tests.{lt-ltb, le-ltb}
use Rattle.model.specs.declared.Refusal.{Refusal}
use Rattle.model.specs.declared.Refusal.TheVariants.{Form}
use Rattle.model.specs.Triples.{triples, flat, slots, listed}
use Rattle.model.specs.Outcomes.{refused, accepted, refusal_number, check}
use Rattle.theory.proofs.Checks.{no_checks, not_accepted, same-value, decided-passes, first-decides}
use Rattle.theory.proofs.Flat.{triples-flat, length-flat, length-listed}
use Rattle.table_checks.proofs.Laws.{left_after}
use Rattle.site_form.specs.declared.Site.{Site}
use Rattle.std.specs.Prelude.{Ok, Err}
use Rattle.site_form.specs.Text.{most_lines, most_asks}
use Rattle.site_form.specs.Reading.{Forms, read_forms, site_of, read_outcome, read_list, outcome_of, triples_in}
use Rattle.site_form.specs.Printing.{most_bytes, print_read, print_outcome, printed, shown}
use Rattle.site_form.proofs.Whole.{read-says}
use Rattle.site_reader.specs.Calls.{ReadCall}
use Rattle.site_bytes.specs.Calls.{Put}
use Rattle.table_printing.specs.Outcomes.{site_outcome}
use Rattle.site_report.proofs.Lines.{put_as}
use Rattle.table_printing.proofs.Fits.{forms_are}
use Rattle.table_printing.proofs.Parts.{front}

module _ (text l out : List ℕ) (x : ℕ) where
  pub too_long : most_bytes < length text → Put l 0 (shown (refused (refusal_number Form))) out x → Put l 0 (printed text) out x
  unfolding printed print_outcome refusal_number
  too_long h p = put_as 0 (ap (λ (b : Bool). shown (cond b (refused 8) (print_read (read_forms text)))) (lt-ltb most_bytes (length text) h)) l out x p

printed-is : (text : List ℕ) → length text ≤ most_bytes → (o : Option Forms) → read_forms text ≡ o → printed text ≡ shown (print_read o)
unfolding printed print_outcome
printed-is text h o e = λ i. shown (cond (le-ltb most_bytes (length text) h i) (refused 8) (print_read (e i)))

-- what was read
pub record Taken (text list' : List ℕ) (site : Site) (f : Forms) : Type 0 where
  pub says : read_forms text ≡ some f
  pub is_site : site ≡ site_of f
  pub is_list : list' ≡ listed (3 * most_lines) f.triples

module _ (text list : List ℕ) (size : length list ≡ 3 * most_lines) (short : length text ≤ most_bytes) (list' : List ℕ) where
  none_is : read_forms text ≡ none → read_outcome text list ≡ refused 8
  unfolding read_outcome
  none_is e = ap (λ (o : Option Forms). outcome_of o list) e

  some_is : (f : Forms) → read_forms text ≡ some f → read_outcome text list ≡ accepted (site_of f)
  unfolding read_outcome slots
  some_is f e =
      ap (λ (o : Option Forms). outcome_of o list) e
      ∙ first-decides (check 5 (ltb (length list / 3) (length f.triples))) [] (accepted (site_of f))
      (le-ltb (length list / 3) (length f.triples) (omega (arith, (read-says text f e).few_triples)))
      ∙ decided-passes [] (accepted (site_of f)) no_checks

  refused-by : (y : Refusal) → ReadCall text list (Err y) list' → (o : Option Forms) → read_forms text ≡ o → printed text ≡ shown (refused (refusal_number Form))
  unfolding refusal_number
  refused-by y C none q = printed-is text short none q
  refused-by y C (some f) q = absurd (not_accepted (C.outcome ∙ some_is f q))

  pub text_refused : (y : Refusal) → ReadCall text list (Err y) list' → (l out : List ℕ) (x : ℕ) → Put l 0 (shown (refused (refusal_number Form))) out x → Put l 0 (printed text) out x
  text_refused y C l out x p = put_as 0 (refused-by y C (read_forms text) refl) l out x p

  module _ (site : Site) (C : ReadCall text list (Ok site) list') where
    taken-by : (o : Option Forms) → read_forms text ≡ o → (f : Forms) × Taken text list' site f
    unfolding read_list
    taken-by none q = absurd (not_accepted (sym (none_is q) ∙ sym C.outcome))
    taken-by (some f) q = (
      f,
      record {
        says = q;
        is_site = same-value (C.outcome ∙ some_is f q);
        is_list =
            C.list
            ∙ left_after _ _ _ _ (some_is f q)
            ∙ (λ i. listed (size i) (triples_in (q i)));
      },
    )

    taken : (f : Forms) × Taken text list' site f
    taken = taken-by (read_forms text) refl

    abbrev f : Forms
    f = taken.0

    counts : site.count ≡ length f.triples
    unfolding site_of
    counts = ap (λ (s : Site). s.count) taken.1.is_site

    few : length f.triples ≤ most_lines
    few = (read-says text f taken.1.says).few_triples

    pub count-few : 3 * site.count ≤ 3 * most_lines
    count-few = omega (arith, counts, few)

    pub count-end : 3 * site.count ≤ length list'
    count-end =
        let n : length list' ≡ 3 * most_lines = ap length taken.1.is_list ∙ length-listed (3 * most_lines) f.triples (omega (arith, few)) in
        omega (arith, count-few)

    abbrev part : List ℕ
    part = take (3 * site.count - 0) list'

    part-is : part ≡ flat f.triples
    part-is = ap (take (3 * site.count - 0)) taken.1.is_list ∙ front (3 * most_lines) f.triples site.count (sym counts)

    part-long : length part ≡ 3 * length f.triples
    part-long = ap length part-is ∙ length-flat f.triples

    pub part-flat : length part % 3 ≡ 0
    part-flat = let n = part-long in omega arith

    pub part-few : length part ≤ 3 * most_lines
    part-few = omega (arith, part-long, few)

    asks_are : site.asks ≡ length f.asks
    unfolding site_of
    asks_are = ap (λ (s : Site). s.asks) taken.1.is_site

    pub asks-few : site.asks ≤ most_asks
    asks-few = omega (arith, asks_are, (read-says text f taken.1.says).few_asks)

    printed_as : printed text ≡ shown (site_outcome site.words site.size (triples part) site.queries site.asks)
    unfolding site_of
    printed_as =
        printed-is text short (some f) taken.1.says
        ∙ ap shown (forms_are f)
        ∙ (λ i. shown (site_outcome (sym taken.1.is_site i).words (sym taken.1.is_site i).size
        (sym (ap triples part-is ∙ triples-flat f.triples) i) (sym taken.1.is_site i).queries (sym taken.1.is_site i).asks))

    pub text_put : (l out : List ℕ) (x : ℕ) → Put l 0 (shown (site_outcome site.words site.size (triples part) site.queries site.asks)) out x → Put l 0 (printed text) out x
    text_put l out x p = put_as 0 printed_as l out x p
