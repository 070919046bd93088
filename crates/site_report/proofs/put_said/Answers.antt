use Rattle.site_report.proofs.Lines.{put_as, line-maybe, line-none}
use Rattle.site_report.proofs.put_said.Goals as goal

pub returns-in-Maybe : goal.returns-in-Maybe
returns-in-Maybe c = record { put = put_as _ (line-maybe _ c.in-Maybe.is) _ _ _ c.put.ensures.put; lent = c.put.ensures.lent }

pub returns-in-None : goal.returns-in-None
returns-in-None c = record { put = put_as _ (line-none _ c.in-None.is) _ _ _ c.put-in-None.ensures.put; lent = c.put-in-None.ensures.lent }
