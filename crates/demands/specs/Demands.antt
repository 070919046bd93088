-- The demands in one place: for every word table. Demand 1, what every lent list and record holds after every call, is no statement over the
-- definitions: it is each call's contract, and README's section "Demand 1, call by call" says which contract that is.
-- Assumes nothing.
use Rattle.std.specs.Prelude.{ℕ, min, T, ltb, ◌≡◌, Bool, true, false, List, [], ◌∷◌}
use Rattle.std.proofs.Math.Option.{none}
use Rattle.model.specs.declared.Vocabulary.{Vocabulary}
use Rattle.model.specs.Codes.{rdfs, codes, kind, reserved, wrong_words}
use Rattle.model.specs.Outcomes.{Outcome, Check, check, decided, wrong_size}
use Rattle.model.specs.Graphs.{graphs, all_right, closures, all_closed, strong_graphs, all_strong_right, weight_examples, all_weights_right, removals, all_removals_right}
use Rattle.query.specs.Match.{AskExact, RetiredExact}
use Rattle.roster_values.specs.Bytes.{WordTest}
use Rattle.site_form.specs.Reading.{ReadsExactly, CountsPatterns, loaded}
use Rattle.site_form.specs.Writing.{WrittenIsRead, line_of}
use Rattle.site_form.specs.Example.{SignBytes, PrintsExample, PrintsRetired}
use Rattle.site_form.specs.Answers.{RetiredPrinted}
use Rattle.subject_lines.specs.Statements.{PartRight, AllLines}
use Rattle.theory.specs.SmallSites.{small_sites, all_sites_right, strong_needs_more}
use Rattle.theory.specs.Theorems.{SaturationExact, ConstraintsFollow, CliquesExact, RepresentativesExact, SummaryExact, StrongRepresentativesExact}
use Rattle.theory.specs.Theorems.{StrongSummaryExact, OwnRosterLeast, ShortcutHolds, RoutesAccepted, StrongShortcutHolds, StrongRoutesAccepted}
use Rattle.theory.specs.Theorems.{WeakOfStrongHolds, AtRestHolds, StrongAtRestHolds, AgainTheSame, StrongAgainTheSame, AnyOrder, FedInAnyOrder}
use Rattle.theory.specs.Theorems.{WholeList, PlacesRight, FedStands, WeightsExact, LeavesRight, RemovedStood, SlotFreed, SummaryBounded, PartBounded}
use Rattle.demands.specs.NoneMeansNone.{NoneMeansNone, StrongNoneMeansNone}
use Rattle.demands.specs.Feeds.{ListOfCalls, WeightsAddUp, RepeatAltersNoWeight}
use Rattle.demands.specs.Routes.{AcceptedCalls, RoutesOfCalls, StrongRoutesOfCalls, ShortcutOfCalls, StrongShortcutOfCalls, WeakOfStrongCalls}
use Rattle.demands.specs.Routes.{AtRestOfCalls, StrongAtRestOfCalls, LeavesSaturated, NoneOfCalls, StrongNoneOfCalls}
use Rattle.demands.specs.Slots.{NeverFive, PartNeverFive, SlotsSuffice, SaturationSlots}
use Rattle.demands.specs.Lines.{LinesOfCalls, StrongLinesOfCalls}
use Rattle.demands.specs.Printed.{AskRefusesQueries, SixForWrong, RetiredRead}

-- the small graphs of 01, computed, with the saturation that 02 gives the six triples, and two graphs with reserved codes of their own
abbrev pub GraphsRight : Type 0
GraphsRight = T (all_right graphs)

-- small graphs with their strong summaries and strong maps, and the weak summaries beside them, computed
abbrev pub StrongGraphsRight : Type 0
StrongGraphsRight = T (all_strong_right strong_graphs)

-- small schemas, for the rules of 02, computed
abbrev pub ClosuresRight : Type 0
ClosuresRight = T (all_closed closures)

-- small intakes with the lines of their summary and how many triples each stands for, computed
abbrev pub WeightExamplesRight : Type 0
WeightExamplesRight = T (all_weights_right weight_examples)

-- small intakes from which a triple is removed: the summary afterwards, its weights and the map, computed
abbrev pub RemovalExamplesRight : Type 0
RemovalExamplesRight = T (all_removals_right removals)

-- small sites with the slots that their summaries may need and the summaries themselves, computed
abbrev pub SmallSitesRight : Type 0
SmallSitesRight = T (all_sites_right small_sites)

-- a small site whose strong summary does not fit into the slots that its weak one may need, computed
abbrev pub StrongNeedsMore : Type 0
StrongNeedsMore = T strong_needs_more

pub record Demand2 : Type 0 where
  pub saturation : (v : Vocabulary) → SaturationExact v
  pub constraints : (v : Vocabulary) → ConstraintsFollow v
  pub cliques : (v : Vocabulary) → CliquesExact v
  pub representatives : (v : Vocabulary) → RepresentativesExact v
  pub summaries : (v : Vocabulary) → SummaryExact v
  pub strong_representatives : (v : Vocabulary) → StrongRepresentativesExact v
  pub strong_summaries : (v : Vocabulary) → StrongSummaryExact v
  pub own_roster_least : (v : Vocabulary) → OwnRosterLeast v
  pub ask : AskExact
  pub retired : RetiredExact

pub record Demand3 : Type 0 where
  pub shortcut : (v : Vocabulary) → ShortcutHolds v
  pub routes : (v : Vocabulary) → RoutesAccepted v
  pub accepted_calls : (v : Vocabulary) → AcceptedCalls v
  pub routes_of_calls : (v : Vocabulary) → RoutesOfCalls v
  pub shortcut_of_calls : (v : Vocabulary) → ShortcutOfCalls v
  pub strong_shortcut : (v : Vocabulary) → StrongShortcutHolds v
  pub strong_routes : (v : Vocabulary) → StrongRoutesAccepted v
  pub strong_routes_of_calls : (v : Vocabulary) → StrongRoutesOfCalls v
  pub strong_shortcut_of_calls : (v : Vocabulary) → StrongShortcutOfCalls v
  pub weak_of_strong : (v : Vocabulary) → WeakOfStrongHolds v
  pub weak_of_strong_calls : (v : Vocabulary) → WeakOfStrongCalls v
  pub any_order : (v : Vocabulary) → AnyOrder v
  pub fed_in_any_order : (v : Vocabulary) → FedInAnyOrder v
  pub none_means_none : (v : Vocabulary) → NoneMeansNone v
  pub none_of_calls : (v : Vocabulary) → NoneOfCalls v
  pub strong_none_means_none : (v : Vocabulary) → StrongNoneMeansNone v
  pub strong_none_of_calls : (v : Vocabulary) → StrongNoneOfCalls v
  pub whole_list : (v : Vocabulary) → WholeList v
  pub list_of_calls : (v : Vocabulary) → ListOfCalls v

-- 02: "A shipped summary is at rest. .. State that the weak summary of a saturated table is saturated already, and that summarising it again
-- under the same roster yields the same triples and maps each of its nodes to itself. Let this cover the strong summary and every loaded word
-- table as well."
pub record AtRest : Type 0 where
  pub at_rest : (v : Vocabulary) → AtRestHolds v
  pub strong_at_rest : (v : Vocabulary) → StrongAtRestHolds v
  pub again_the_same : (v : Vocabulary) → AgainTheSame v
  pub strong_again_the_same : (v : Vocabulary) → StrongAgainTheSame v
  -- as calls: saturate, then summarise, then both again
  pub leaves_saturated : (v : Vocabulary) → LeavesSaturated v
  pub at_rest_of_calls : (v : Vocabulary) → AtRestOfCalls v
  pub strong_at_rest_of_calls : (v : Vocabulary) → StrongAtRestOfCalls v

-- 02: "Technicians who step through a long list want to land where a triple belongs." The contracts of look up, feeding and removing say which place
-- they report, and `WholeList` says it of every list of calls: `answers` carries the places.
pub record Places : Type 0 where
  -- in a rising list the place is where the triple stands or belongs
  pub places_right : PlacesRight
  -- after an accepted feed, new or not, the triple stands there
  pub fed_stands : (v : Vocabulary) → FedStands v

-- 02: "Planners judge a summary line by its weight." The contracts of opening, feeding and removing say what the further list holds after each
-- call, and `WholeList` says it of every list of calls: `state_of` carries the weights.
pub record Weights : Type 0 where
  -- beside each line of the summary the number of held triples whose image it is, never 0, and together as many as are held
  pub weights_exact : (v : Vocabulary) → WeightsExact v
  pub weights_add_up : (v : Vocabulary) → WeightsAddUp v
  pub repeat_alters_no_weight : (v : Vocabulary) → RepeatAltersNoWeight v

-- 02: "The intake gains removal of a held triple". Its contract says what it answers and leaves, `WholeList` and `ListOfCalls` say it of every
-- mixture of feeds and removals.
pub record Removals : Type 0 where
  -- the triple that leaves is gone, and every other stays
  pub leaves_right : LeavesRight
  -- it stood at the place that is reported
  pub removed_stood : (v : Vocabulary) → RemovedStood v
  pub slot_freed : (v : Vocabulary) → SlotFreed v

-- 02: "The controller's lists are cut at build time." How many slots a weak summary may need: by property, over all, and the exact number where no
-- data triple touches a marked node; and that a list with so many slots is never too short, for the table, for any part of it, and behind a saturate.
pub record Slots : Type 0 where
  pub summary_bounded : (v : Vocabulary) → SummaryBounded v
  pub part_bounded : (v : Vocabulary) → PartBounded v
  pub never_five : (v : Vocabulary) → NeverFive v
  pub part_never_five : (v : Vocabulary) → PartNeverFive v
  pub slots_suffice : (v : Vocabulary) → SlotsSuffice v
  pub saturation_slots : (v : Vocabulary) → SaturationSlots v

-- 02: "The lane display shows a subject's triples and has no memory for a copy." The contract of the call says which part of which list is handed
-- back; here, that its numbers are those of the lines, and that in sorted lists these are all of the subject's triples.
pub record SubjectLines : Type 0 where
  pub part_right : PartRight
  pub all_lines : AllLines
  -- after a summarise
  pub lines_of_calls : (v : Vocabulary) → LinesOfCalls v
  pub strong_lines_of_calls : (v : Vocabulary) → StrongLinesOfCalls v

-- 02: "The check should take eight roster bytes as one u64 word at a time; show for every u64 that one test of the word passes exactly if
-- none of its eight bytes is over 3." The code has the test in roster_values' `word_over_three`, which is called for each word; that rosters of
-- every length keep their answers is the contract of roster_checks' `roster_wrong`.
pub record RosterByWords : Type 0 where
  pub word_test : WordTest

-- the site form: read exactly, read back as written, the examples printed, and one line for each query
pub record SiteForms : Type 0 where
  pub reads : ReadsExactly
  pub written_is_read : WrittenIsRead
  pub example : PrintsExample
  pub ask_refuses_queries : AskRefusesQueries
  pub six_for_wrong : SixForWrong
  -- the k-th answer line is `(ask retired)` exactly if the k-th query is retired
  pub retired_printed : RetiredPrinted
  pub retired_read : RetiredRead
  pub retired_example : PrintsRetired
  pub signs : SignBytes
  pub counts : CountsPatterns

-- 02: "A customer who loads 0 to 4 sees the present engine."
pub record LoadsRdfs : Type 1 where
  pub never_refused : (n : ℕ) → wrong_size n ≡ false → wrong_words rdfs n ≡ false
  -- in each call 10 stands straight after a 1 that fails with a wrong N: there it decides nothing
  pub decides_nothing : {A : Type 0} (n : ℕ) (lengths : Bool) → (wrong_size n ≡ true → lengths ≡ true) → (cs : List Check) (rest : Outcome A)
      → decided (check 1 lengths ∷ check 10 (wrong_words rdfs n) ∷ cs) rest ≡ decided (check 1 lengths ∷ cs) rest
  -- the codes are 01's: those that a roster leaves unmarked, those that stand only in the property place, and the kind of a triple
  pub five : codes rdfs ≡ 0 ∷ 1 ∷ 2 ∷ 3 ∷ 4 ∷ []
  pub reserved_low : (c : ℕ) → reserved rdfs c ≡ ltb c 5
  pub kind_low : (c : ℕ) → kind rdfs c ≡ min c 5
  -- a text without the line loads them, and they are written without it
  pub loads : loaded none ≡ rdfs
  pub no_line : line_of rdfs ≡ none
