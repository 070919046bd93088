-- The lines of a subject after a summarise.
-- Assumes nothing.
use Prim.Native.Nat.{ℕ}
use mathlib.Core.Path.{◌≡◌, sym, subst, ◌∙◌, ap}
use mathlib.Core.Bool.{Bool, true, cond}
use mathlib.Core.List.{List}
use Rattle.model.specs.declared.Triple.{Triple}
use Rattle.model.specs.declared.Vocabulary.{Vocabulary}
use Rattle.model.specs.Lists.{filter}
use Rattle.model.specs.Triples.{triples, flat}
use Rattle.model.specs.Classes.{map_of, strong_map_of}
use Rattle.model.specs.Summary.{condensed}
use Rattle.theory.proofs.Summaries.{condensed-rising}
use Rattle.subject_lines.specs.Lines.{has_subject, lines_of, PartOf}
use Rattle.subject_lines.proofs.Statements.{all-lines-right}
use Rattle.demands.specs.Lines.{LinesOfCallsBy}
use Rattle.demands.proofs.Routes.{sum_is, left_is}

module _ (v : Vocabulary) (mapped : List ℕ → List Triple → List ℕ) where
  pub lines_of_calls : LinesOfCallsBy v mapped
  lines_of_calls table roster l count out map h c summary other r e own back =
      let S = sum_is v mapped table roster l out map count h in
      let ts = condensed (mapped roster (triples table)) (triples table) in
      let part : PartOf c summary r = subst (λ (b : Bool). PartOf c (cond b summary other) r) own back in
      let held : triples summary.now ≡ ts = ap triples e ∙ left_is out ts S.is in
      part.numbers ∙ ap (λ (us : List Triple). flat (lines_of c us)) held
      ∙ ap flat (all-lines-right.sorted c ts (all-lines-right.rising ts (condensed-rising (mapped roster (triples table)) (triples table))))
