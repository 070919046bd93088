-- The small sites, computed.
-- Assumes nothing.
use lib.Dec.{T}
use Rattle.model.specs.Codes.{kind, reserved, repeated, wrong_words}
use Rattle.model.specs.Lists.{any, all, how_many, collect, among, tabulate, total}
use Rattle.model.specs.Triples.{triples, flat, is_data, before, same, insert, sorted}
use Rattle.model.specs.Roster.{is_class, is_property, unmarked, class_roles, property_roles, covers_triple, covers, wrong_roster, wrong_end, wrong_triple, wrong_codes, is_node}
use Rattle.model.specs.Partition.{pairs, union, merged}
use Rattle.model.specs.Cliques.{links, shares, has_clique, cliques}
use Rattle.model.specs.Classes.{together, alike, clique_of, placed, map_by, map_of, strong_map_of}
use Rattle.model.specs.Summary.{condensed}
use Rattle.model.specs.Outcomes.{wrong_size, wrong_length}
use Rattle.model.specs.Calls.{table_checks}
use Rattle.model.specs.Graphs.{equal}
use Rattle.theory.specs.Bounds.{marked_ends, property_bound, data_bound, slots_bound}
use Rattle.theory.specs.SmallSites.{small_sites, site_right, all_sites_right, strong_needs_more}

pub small-sites-right : T (all_sites_right small_sites)
unfolding table_checks wrong_words repeated wrong_size wrong_length wrong_roster wrong_codes wrong_triple wrong_end covers covers_triple kind reserved any all how_many collect among tabulate total triples flat is_data before same insert sorted is_class is_property unmarked class_roles property_roles is_node union merged pairs links shares has_clique cliques together clique_of placed map_by map_of condensed marked_ends property_bound data_bound slots_bound equal site_right all_sites_right
small-sites-right = tt

pub strong_needs_more_lem : T strong_needs_more
unfolding table_checks wrong_words repeated wrong_size wrong_length wrong_roster wrong_codes wrong_triple wrong_end covers covers_triple kind reserved any all how_many collect among tabulate total triples flat is_data before same insert sorted is_class is_property unmarked class_roles property_roles is_node union merged pairs links shares has_clique cliques together alike clique_of placed map_by map_of strong_map_of condensed marked_ends property_bound data_bound slots_bound equal site_right strong_needs_more
strong_needs_more_lem = tt
