use Rattle.std.proofs.Common.{refl}
use Rattle.site_bytes.proofs.Stores.{put_then}
use Rattle.site_bytes.proofs.Page.put_after.Goals as goal

pub returns : goal.returns
returns c = record { put = put_then _ _ _ _ _ _ _ _ c.put_bytes-next.ensures c.put_numeral-self.ensures; lent = refl }
