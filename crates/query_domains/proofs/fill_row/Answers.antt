use Rattle.query_domains.proofs.Fills.{every_node}
use Rattle.query_domains.proofs.fill_row.Goals as goal

pub returns-then-is_absent : goal.returns-then-is_absent
returns-then-is_absent c = every_node _ _ _ _ c.set_row.ensures
