use mathlib.Core.Path.{sym, ◌∙◌}
use Rattle.thread_settling.proofs.Loops.{labels-skip, labels-walk}
use Rattle.thread_settling.proofs.settle_label.Goals as goal

pub returns-then-is_label : goal.returns-then-is_label
returns-then-is_label c = λ g b k. labels-walk _ g b _ _ _ _ k c.requires.1 (sym c.is_label.ensures ∙ c.if-is_label.true) _ c.narrow.ensures _ _
    (c.walk.ensures g b)

pub returns-else-is_label : goal.returns-else-is_label
returns-else-is_label c = λ g b k. labels-skip _ g b _ _ _ _ k c.requires.1 (sym c.is_label.ensures ∙ c.if-is_label.false)
