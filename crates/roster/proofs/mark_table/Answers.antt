use Rattle.std.proofs.Common.{refl, sym, ◌∙◌, ap, length}
use Rattle.roster.proofs.Marking.{left-start, left_step, left_end, roles_length}
use Rattle.roster_checks.proofs.Tables.{below_at, below-size}
use Rattle.roster.proofs.mark_table.Goals as goal

pub loop-i-init : goal.loop-i-init
loop-i-init c = record { size = refl; left = left-start _ c.args.table.now c.args.roster.now }

pub mark_roles-requires : goal.mark_roles-requires
mark_roles-requires c = below-size _ _ _ (sym c.loop-i.invariant.size)
    (below_at _ c.args.table.now _ _ c.requires c.loop-i-test.true c.triple_at.ensures)

pub loop-i-preserved : goal.loop-i-preserved
loop-i-preserved c = record {
  size = ap length c.mark_roles.ensures ∙ roles_length _ _ _ ∙ c.loop-i.invariant.size;
  left = left_step _ _ _ _ _ _ _ _ c.loop-i-test.true c.triple_at.ensures c.mark_roles.ensures c.loop-i.invariant.left;
}

pub returns : goal.returns
returns c = left_end _ _ _ _ _ _ c.loop-i-test.false c.loop-i.invariant.left
