use Rattle.query_rows.proofs.Rows.{node-put}
use Rattle.query_rows.proofs.put_in.Goals as goal

pub returns : goal.returns
returns c = node-put c.args.rows.now _ _ _ c.requires.0 c.requires.1 c.place-i.ensures
