use mathlib.Core.Path.{sym, ◌∙◌}
use Rattle.rule_walk.proofs.Sweeps.{drives_nothing}
use Rattle.rule_walk.proofs.draw_driver.Goals as goal

pub returns-then-not-drives : goal.returns-then-not-drives
returns-then-not-drives c = drives_nothing _ _ _ _ _ c.requires.0 (sym c.drives.ensures ∙ c.if-not-drives.true)
