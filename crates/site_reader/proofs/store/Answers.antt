use Rattle.std.proofs.Common.{◌∙◌}
use Rattle.site_reader.proofs.Triples.{not_stored, stored_at}
use Rattle.site_reader.proofs.store.Goals as goal

pub returns-then-i-list : goal.returns-then-i-list
returns-then-i-list c = c.put.ensures ∙ stored_at _ _ _ c.if-i-list.true

pub returns-else-i-list : goal.returns-else-i-list
returns-else-i-list c = not_stored _ _ _ c.if-i-list.false
