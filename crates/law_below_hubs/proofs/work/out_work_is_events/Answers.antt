use Rattle.law_below_hubs.proofs.OutBegin.{out_work_is_events}
use Rattle.law_below_hubs.proofs.work.out_work_is_events.Goals as goal

pub returns : goal.returns
returns c = out_work_is_events
