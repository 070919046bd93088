-- Each demand is met by the definitions.
-- Assumes nothing.
use Rattle.model.specs.Classes.{map_of, strong_map_of}
use Rattle.model.proofs.Graphs as graphs
use Rattle.query.proofs.Exact.{ask-exact}
use Rattle.query.proofs.Retired.{retired-exact}
use Rattle.roster_values.proofs.Bytes.{word_test_exact}
use Rattle.theory.proofs.SmallSites as sites
use Rattle.theory.proofs.Theorems as theorems
use Rattle.site_form.proofs.Whole.{reads_exactly}
use Rattle.site_form.proofs.Back.{written_is_read}
use Rattle.site_form.proofs.Queries.{counts_patterns}
use Rattle.site_form.proofs.Example.{sign_bytes, prints_example, prints_retired}
use Rattle.site_form.proofs.Answers.{retired_printed}
use Rattle.subject_lines.proofs.Statements.{part_right, all-lines-right}
use Rattle.demands.specs.Demands.{GraphsRight, StrongGraphsRight, ClosuresRight, WeightExamplesRight, RemovalExamplesRight, SmallSitesRight}
use Rattle.demands.specs.Demands.{StrongNeedsMore, Demand2, Demand3, AtRest, Places, Weights, Removals, Slots, SubjectLines, RosterByWords, SiteForms}
use Rattle.demands.proofs.NoneMeansNone.{none_means_none}
use Rattle.demands.proofs.Feeds.{list_of_calls, weights_add_up, repeat_alters_no_weight}
use Rattle.demands.proofs.Routes.{accepted_calls, routes_of_calls, strong_routes_of_calls, shortcut_of_calls, strong_shortcut_of_calls}
use Rattle.demands.proofs.Routes.{weak_of_strong_calls, at_rest_of_calls, strong_at_rest_of_calls, leaves_saturated, none_of_calls}
use Rattle.demands.proofs.Slots.{never_five, part_never_five, slots_suffice, saturation_slots}
use Rattle.demands.proofs.Lines.{lines_of_calls}
use Rattle.demands.proofs.Printed.{ask_refuses_queries, six_for_wrong, retired_read}

pub graphs-right : GraphsRight
graphs-right = graphs.graphs-right

pub strong-graphs-right : StrongGraphsRight
strong-graphs-right = graphs.strong-graphs-right

pub closures-right : ClosuresRight
closures-right = graphs.closures-right

pub weight_examples_right : WeightExamplesRight
weight_examples_right = graphs.weights-right

pub removal_examples_right : RemovalExamplesRight
removal_examples_right = graphs.removals-right

pub small-sites-right : SmallSitesRight
small-sites-right = sites.small-sites-right

pub strong_needs_more_lem : StrongNeedsMore
strong_needs_more_lem = sites.strong_needs_more_lem

pub demand_2 : Demand2
demand_2 =
    record {
      saturation = theorems.saturation-exact;
      constraints = theorems.constraints_follow;
      cliques = theorems.cliques-exact;
      representatives = theorems.representatives-exact;
      summaries = theorems.summary-exact;
      strong_representatives = theorems.strong-representatives-exact;
      strong_summaries = theorems.strong-summary-exact;
      own_roster_least = theorems.own-roster-least;
      ask = ask-exact;
      retired = retired-exact;
    }

pub demand_3 : Demand3
demand_3 =
    record {
      shortcut = theorems.shortcut-holds;
      routes = theorems.routes-accepted;
      accepted_calls = accepted_calls;
      routes_of_calls = routes_of_calls;
      shortcut_of_calls = shortcut_of_calls;
      strong_shortcut = theorems.strong-shortcut-holds;
      strong_routes = theorems.strong-routes-accepted;
      strong_routes_of_calls = strong_routes_of_calls;
      strong_shortcut_of_calls = strong_shortcut_of_calls;
      weak_of_strong = theorems.weak_of_strong_holds;
      weak_of_strong_calls = weak_of_strong_calls;
      any_order = theorems.any_order;
      fed_in_any_order = theorems.fed_in_any_order;
      none_means_none = λ v. none_means_none v (map_of v);
      none_of_calls = λ v. none_of_calls v (map_of v);
      strong_none_means_none = λ v. none_means_none v (strong_map_of v);
      strong_none_of_calls = λ v. none_of_calls v (strong_map_of v);
      whole_list = theorems.whole_list;
      list_of_calls = list_of_calls;
    }

pub at_rest : AtRest
at_rest =
    record {
      at_rest = theorems.at-rest-holds;
      strong_at_rest = theorems.strong-at-rest-holds;
      again_the_same = theorems.again_the_same;
      strong_again_the_same = theorems.strong_again_the_same;
      leaves_saturated = leaves_saturated;
      at_rest_of_calls = at_rest_of_calls;
      strong_at_rest_of_calls = strong_at_rest_of_calls;
    }

pub places : Places
places = record { places_right = theorems.places_right; fed_stands = theorems.fed_stands }

pub weights : Weights
weights = record { weights_exact = theorems.weights_exact; weights_add_up = weights_add_up; repeat_alters_no_weight = repeat_alters_no_weight }

pub removals : Removals
removals = record { leaves_right = theorems.leaves_right; removed_stood = theorems.removed_stood; slot_freed = theorems.slot_freed }

pub slots : Slots
slots =
    record {
      summary_bounded = theorems.summary_bounded;
      part_bounded = theorems.part_bounded;
      never_five = never_five;
      part_never_five = part_never_five;
      slots_suffice = slots_suffice;
      saturation_slots = saturation_slots;
    }

pub subject-lines : SubjectLines
subject-lines =
    record {
      part_right = part_right;
      all_lines = all-lines-right;
      lines_of_calls = λ v. lines_of_calls v (map_of v);
      strong_lines_of_calls = λ v. lines_of_calls v (strong_map_of v);
    }

pub roster-by-words : RosterByWords
roster-by-words = record { word_test = word_test_exact }

pub site-forms : SiteForms
site-forms =
    record {
      reads = reads_exactly;
      written_is_read = written_is_read;
      example = prints_example;
      ask_refuses_queries = ask_refuses_queries;
      six_for_wrong = six_for_wrong;
      retired_printed = retired_printed;
      retired_read = retired_read;
      retired_example = prints_retired;
      signs = sign_bytes;
      counts = counts_patterns;
    }
