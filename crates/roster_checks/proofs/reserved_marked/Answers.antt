use mathlib.Core.Path.{refl}
use mathlib.Core.List.Memᴰ.{head as here}
use mathlib.Core.List.Memᴰ.{tail as there}
use Rattle.theory.proofs.Accepted.{words-below}
use Rattle.roster_checks.proofs.reserved_marked.Goals as goal

pub is_marked-requires : goal.is_marked-requires
is_marked-requires c = words-below c.args.words _ c.requires _ (here refl)

pub is_marked-requires-else-is_marked : goal.is_marked-requires-else-is_marked
is_marked-requires-else-is_marked c = words-below c.args.words _ c.requires _ (there (here refl))

pub is_marked-requires-else-is_marked-2 : goal.is_marked-requires-else-is_marked-2
is_marked-requires-else-is_marked-2 c = words-below c.args.words _ c.requires _ (there (there (here refl)))

pub is_marked-requires-else-is_marked-3 : goal.is_marked-requires-else-is_marked-3
is_marked-requires-else-is_marked-3 c = words-below c.args.words _ c.requires _ (there (there (there (here refl))))

pub is_marked-requires-else-is_marked-4 : goal.is_marked-requires-else-is_marked-4
is_marked-requires-else-is_marked-4 c = words-below c.args.words _ c.requires _ (there (there (there (there (here refl)))))
