use Rattle.law_below_hubs.proofs.ControlBegin.{control_work_is_events}
use Rattle.law_below_hubs.proofs.work.control_work_is_events.Goals as goal

pub returns : goal.returns
returns c = control_work_is_events
