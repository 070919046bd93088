use Rattle.std.proofs.Common.{refl}
use Rattle.site_report.proofs.Lines.{put-none, room_as, put_as, line-retired, line-wrong}
use Rattle.site_report.proofs.put_refused_query.Goals as goal

pub put-requires : goal.put-requires
put-requires c = room_as _ (line-retired _ c.is_retired.ensures c.if-is_retired.true) c.requires

pub returns-then-is_retired : goal.returns-then-is_retired
returns-then-is_retired c = record { put = put_as _ (line-retired _ c.is_retired.ensures c.if-is_retired.true) _ _ _ c.put.ensures.put; lent = c.put.ensures.lent }

pub returns-else-is_retired : goal.returns-else-is_retired
returns-else-is_retired c = record { put = put-none _ _ _ (line-wrong _ c.is_retired.ensures c.if-is_retired.false); lent = refl }
