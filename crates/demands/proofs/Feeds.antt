-- A list of calls after an opening, by their contracts.
-- Assumes nothing.
use mathlib.Core.Path.{sym, subst, ap}
use Rattle.model.specs.declared.Vocabulary.{Vocabulary}
use Rattle.model.specs.Intake.{State, Run, open_leaves}
use Rattle.theory.proofs.Theorems as theorems
use Rattle.demands.specs.Feeds.{ListOfCalls, WeightsAddUp, RepeatAltersNoWeight}

module _ (v : Vocabulary) where
  pub list_of_calls : ListOfCalls v
  unfolding open_leaves
  list_of_calls roster before empty end cs os o calls =
      theorems.whole_list v roster before end cs os (sym o.answer) (subst (λ (s : State). Run v roster s cs os end) o.leaves calls)

  pub weights_add_up : WeightsAddUp v
  weights_add_up roster before empty end cs os o calls = (list_of_calls roster before empty end cs os o calls).weighed

  pub repeat_alters_no_weight : RepeatAltersNoWeight v
  repeat_alters_no_weight roster kind s after work work-after t outcome f n = ap (λ (x : State). x.weights) (f.in_any_state.unaltered n)
