-- None on the summary means no match in the table.
-- Assumes nothing.
use Prim.Native.Nat.{ℕ}
use mathlib.Core.Path.{◌≡◌, refl, sym, subst}
use mathlib.Core.Bool.{false}
use mathlib.Core.List.{List}
use lib.ListN.{length}
use Rattle.model.specs.declared.Triple.{Triple}
use Rattle.model.specs.declared.Vocabulary.{Vocabulary}
use Rattle.model.specs.Triples.{flat}
use Rattle.model.specs.Partition.{label}
use Rattle.model.specs.Summary.{moved, condensed}
use Rattle.model.specs.Outcomes.{Passes, accepted}
use Rattle.query.specs.declared.Query.{Query}
use Rattle.query.specs.Ask.{ask_checks, ask_outcome, wrong_query}
use Rattle.query.specs.Match.{Choice}
use Rattle.query.proofs.Exact.{ask-exact}
use Rattle.query.proofs.Carried.{match_carried}
use Rattle.theory.specs.Theorems.{saturation_of}
use Rattle.theory.proofs.Summaries as summaries
use Rattle.theory.proofs.Checks.{passes-first, accepted-passes}
use Rattle.theory.proofs.Flat.{triples-flat}
use Rattle.demands.specs.NoneMeansNone.{NoneMeansNoneBy}

module _ (v : Vocabulary) where
  -- an ask that is answered passed its checks
  answered-passes : (table map : List ℕ) (q : Query) → ask_outcome v table map q ≡ accepted false → Passes (ask_checks v table map q)
  unfolding ask_outcome
  answered-passes table map q h = accepted-passes (ask_checks v table map q) _ false h

  query-right : (table map : List ℕ) (q : Query) → Passes (ask_checks v table map q) → wrong_query (length map) q ≡ false
  unfolding ask_checks
  query-right table map q h = (passes-first _ _ (passes-first _ _ (passes-first _ _ (passes-first _ _ h).1).1).1).0

  pub none_means_none : (mapped : List ℕ → List Triple → List ℕ) → NoneMeansNoneBy v mapped
  none_means_none mapped table roster q h e m =
      let sat = saturation_of v table roster in
      let map = mapped roster sat in
      let sum = condensed map sat in
      let p = answered-passes (flat sum) map q e in
      let choice = match_carried (label map) sat sum map q
      (λ t n. (summaries.condensed-exact _ sat (moved (label map) t)).1 (t, n, refl)) (λ c l n. refl) (query-right (flat sum) map q p) m in
      (ask-exact v (flat sum) map q p).none.0 e (subst (λ (us : List Triple). Choice us map q) (sym (triples-flat sum)) choice)
