use mathlib.Core.Path.{sym, ◌∙◌}
use Rattle.property_groups.proofs.Places.{place-skipped, place-below, property-inside, place-linkable, place-linked}
use Rattle.property_groups.proofs.link_at.Goals as goal

pub links_at-requires : goal.links_at-requires
links_at-requires c = place-below _ c.args.table.now c.args.i c.args.roster.now c.args.side _ c.triple_at-t.ensures c.requires.0
    c.requires.1

pub returns-then-not-links_at : goal.returns-then-not-links_at
returns-then-not-links_at c = place-skipped _ c.args.table.now c.args.i c.args.roster.now c.args.side _ c.triple_at-t.ensures _
    (sym c.links_at.ensures ∙ c.if-not-links_at.true) c.requires.2

pub open_property-requires : goal.open_property-requires
open_property-requires c = property-inside _ c.args.table.now c.args.i c.args.roster.now c.args.side _ c.triple_at-t.ensures c.requires.0
    c.requires.1 _ c.requires.2
    (sym c.links_at.ensures ∙ c.if-not-links_at.false)

pub link_node-requires : goal.link_node-requires
link_node-requires c = place-linkable _ c.args.table.now c.args.i c.args.roster.now c.args.side _ c.triple_at-t.ensures c.requires.0
    c.requires.1 _ c.requires.2
    (sym c.links_at.ensures ∙ c.if-not-links_at.false) _ c.open_property.ensures _ c.side_end.ensures

pub returns : goal.returns
returns c = place-linked _ c.args.table.now c.args.i c.args.roster.now c.args.side _ c.triple_at-t.ensures c.requires.0
    c.requires.1 _ c.requires.2
    (sym c.links_at.ensures ∙ c.if-not-links_at.false) _ c.open_property.ensures _ c.side_end.ensures _
    c.link_node.ensures
