use Rattle.law_devices.proofs.lemmas.ring_requests.Resting.{a_queue_at_rest_stays_so}
use Rattle.law_devices.proofs.ring_requests.rest_laws.a_queue_at_rest_stays_so.Goals as goal

pub returns : goal.returns
returns g c = a_queue_at_rest_stays_so g.W.Wire.transacts
