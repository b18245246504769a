use Rattle.law_below_hubs.proofs.AwaitedEvents.{event_keeps_awaiting, unasked_leaves_key}
use Rattle.law_below_hubs.proofs.awaited.an_event_keeps_what_is_awaited.Goals as goal

pub returns : goal.returns
returns c = record { met = event_keeps_awaiting; unasked = unasked_leaves_key }
