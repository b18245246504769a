use Rattle.law_below_hubs.proofs.RequestMoves.{ring_keeps_queue, beside_keeps_queue}
use Rattle.law_below_hubs.proofs.requests.the_controller_keeps_requests_below.Goals as goal

pub returns : goal.returns
returns c = record { ring = ring_keeps_queue; beside = beside_keeps_queue }
