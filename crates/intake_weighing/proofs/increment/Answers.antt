use Rattle.std.proofs.Common.{set, ap}
use Rattle.intake_weighing.proofs.increment.Goals as goal

pub returns : goal.returns
returns c = ap (set c.args.list.now c.args.j) c.wrapping_add_u32.ensures.value
