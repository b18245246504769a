use Rattle.law_below_hubs.proofs.RequestEvents.{event_leaves_request, event_leaves_rest}
use Rattle.law_below_hubs.proofs.requests.an_event_leaves_a_request_below.Goals as goal

pub returns : goal.returns
returns c = record { request = event_leaves_request; rest = event_leaves_rest }
