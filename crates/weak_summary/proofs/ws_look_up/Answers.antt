use Rattle.call_numbers.specs.Status.{bit}
use Rattle.call_numbers.proofs.Outcomes.{reports_as}
use Rattle.weak_summary.proofs.ws_look_up.Goals as goal

pub returns : goal.returns
returns c = reports_as bit c.look_up.ensures c.found_status.ensures
