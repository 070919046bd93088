use Rattle.flat_queries.proofs.Queries.{pattern-put}
use Rattle.flat_queries.proofs.put_pattern.Goals as goal

pub returns : goal.returns
returns c = let a = c.args in pattern-put a.list.now _ a.i a.p c.put_end.ensures _ c.put_end-2.ensures
