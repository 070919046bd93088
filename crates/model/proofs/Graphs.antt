-- Each graph, each schema, each strong summary, each list of weights and each removal comes out as its table says, by computation.
-- Assumes nothing.
use lib.Dec.{T}
use Rattle.model.specs.Graphs.{graphs, all_right, right, equal, closures, all_closed, closed, strong_graphs, all_strong_right, strong_right}
use Rattle.model.specs.Graphs.{weight_examples, all_weights_right, weights_right, removals, all_removals_right, removal_right}
use Rattle.model.specs.Codes.{kind, reserved, repeated, wrong_words}
use Rattle.model.specs.Lists.{any, all, how_many, collect, among, tabulate}
use Rattle.model.specs.Triples.{triples, flat, is_data, before, same, holds, place as number-before, insert, without, sorted}
use Rattle.model.specs.Roster.{is_class, is_property, unmarked, class_roles, property_roles, class_in, property_in, covers_triple, covers, own_roster}
use Rattle.model.specs.Roster.{wrong_roster, wrong_end, wrong_triple, wrong_codes, is_node}
use Rattle.model.specs.Rules.{place, fits, gives}
use Rattle.model.specs.Saturation.{conclusions, round, rounds, saturation}
use Rattle.model.specs.Partition.{union, merged, pairs}
use Rattle.model.specs.Cliques.{links, shares, has_clique, cliques}
use Rattle.model.specs.Classes.{together, alike, clique_of, placed, map_by, map_of, strong_map_of}
use Rattle.model.specs.Summary.{condensed, weight, weights_by}
use Rattle.model.specs.Outcomes.{place_of, wrong_size, wrong_length}
use Rattle.model.specs.Calls.{table_checks}
use Rattle.model.specs.Intake.{judged_removal, after_saying, held_then}

pub graphs-right : T (all_right graphs)
unfolding table_checks wrong_words repeated wrong_size wrong_length wrong_roster wrong_codes wrong_triple wrong_end covers covers_triple kind reserved any all collect among tabulate triples flat is_data before same insert sorted is_class is_property unmarked class_roles property_roles class_in property_in own_roster is_node place fits gives conclusions round rounds saturation union merged pairs links shares has_clique cliques together clique_of placed map_by map_of condensed equal right all_right
graphs-right = tt

pub closures-right : T (all_closed closures)
unfolding kind all collect triples flat before same insert sorted place fits gives conclusions round rounds saturation equal closed all_closed
closures-right = tt

pub strong-graphs-right : T (all_strong_right strong_graphs)
unfolding table_checks wrong_words repeated wrong_size wrong_length wrong_roster wrong_codes wrong_triple wrong_end covers covers_triple kind reserved any all collect among tabulate triples flat is_data before same insert sorted is_class is_property unmarked class_roles property_roles class_in property_in own_roster is_node union merged pairs links shares has_clique cliques together alike clique_of placed map_by map_of strong_map_of condensed equal strong_right all_strong_right
strong-graphs-right = tt

pub weights-right : T (all_weights_right weight_examples)
unfolding table_checks wrong_words repeated wrong_size wrong_length wrong_roster wrong_codes wrong_triple wrong_end covers covers_triple kind reserved any all how_many collect among tabulate triples flat is_data before same insert sorted is_class is_property unmarked class_roles property_roles class_in property_in own_roster is_node union merged pairs links shares has_clique cliques together clique_of placed map_by map_of condensed weight weights_by equal weights_right all_weights_right
weights-right = tt

pub removals-right : T (all_removals_right removals)
unfolding table_checks wrong_words repeated wrong_size wrong_length wrong_roster wrong_codes wrong_triple wrong_end covers covers_triple kind reserved any all how_many collect among tabulate triples flat is_data before same insert sorted is_class is_property unmarked class_roles property_roles class_in property_in own_roster is_node union merged pairs links shares has_clique cliques together clique_of placed map_by map_of condensed weight weights_by number-before holds without place_of judged_removal after_saying held_then equal removal_right all_removals_right
removals-right = tt
