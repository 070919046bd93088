use Rattle.std.proofs.Common.{◌-◌}
use Rattle.naive_ask.proofs.+choose.Given as goal

-- variables that are still to be chosen
abbrev pub decreases-choose : goal.decreases-choose
decreases-choose l = 8 - l.variable
