use Rattle.law_devices.proofs.lemmas.control_requests.Resting.{an_event_leaves_a_queue_at_rest}
use Rattle.law_devices.proofs.control_requests.an_event_leaves_a_queue_at_rest.Goals as goal

pub returns : goal.returns
returns g c = an_event_leaves_a_queue_at_rest g.W.Wire.begins g.W.Wire.transacts
