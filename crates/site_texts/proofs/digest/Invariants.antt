use Rattle.std.proofs.Common.{◌<◌}
use Rattle.site_texts.proofs.digest.Given as goal

abbrev pub invariant-loop-number : goal.invariant-loop-number
invariant-loop-number l = l.sum < 1000003
