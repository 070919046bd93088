use mathlib.Core.Path.{◌∙◌}
use Rattle.builder.proofs.Offers.{known-base, known-run}
use Rattle.builder.proofs.is_known.Goals as goal

pub returns-then-contains : goal.returns-then-contains
returns-then-contains c = c.if-contains.true ∙ known-base c.args.list.now c.args.b c.args.t _ c.contains.ensures c.if-contains.true

pub returns-else-contains : goal.returns-else-contains
returns-else-contains c = known-run c.args.list.now c.args.b c.args.t _ _ c.contains.ensures c.if-contains.false
    c.contains-else-contains.ensures
