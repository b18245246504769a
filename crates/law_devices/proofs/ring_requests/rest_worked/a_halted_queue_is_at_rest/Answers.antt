use Rattle.law_devices.proofs.lemmas.ring_requests.RestingSampled.{stalled_rests, stalled_stops}
use Rattle.law_devices.proofs.ring_requests.rest_worked.a_halted_queue_is_at_rest.Goals as goal

pub returns : goal.returns
returns c = record { rest = stalled_rests; halted = stalled_stops }
