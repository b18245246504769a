use Rattle.law_below_hubs.proofs.InBegin.{in_work_is_events}
use Rattle.law_below_hubs.proofs.work.in_work_is_events.Goals as goal

pub returns : goal.returns
returns c = in_work_is_events
