use Rattle.law_below_hubs.proofs.InEvents.{event_keeps_in_behind}
use Rattle.law_below_hubs.proofs.OutEvents.{event_keeps_out_behind}
use Rattle.law_below_hubs.proofs.events.an_event_keeps_a_pipe_below.Goals as goal

pub returns : goal.returns
returns c = record { outward = event_keeps_out_behind; inward = event_keeps_in_behind }
