use Rattle.law_below_hubs.proofs.RequestMoves.{ring_keeps_rest, beside_keeps_rest, ring_keeps_left, beside_keeps_left}
use Rattle.law_below_hubs.proofs.requests.the_controller_keeps_a_rest_below.Goals as goal

pub returns : goal.returns
returns c = record { ring = ring_keeps_rest; beside = beside_keeps_rest; ring_left = ring_keeps_left; beside_left = beside_keeps_left }
