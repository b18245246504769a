use Rattle.law_below_hubs.proofs.ControlTurns.{quiet_is_in_turn, request_work_is_events}
use Rattle.law_below_hubs.proofs.work.request_work_is_events.Goals as goal

pub returns : goal.returns
returns c = record { turn = quiet_is_in_turn; work = request_work_is_events }
