use Rattle.law_devices.proofs.lemmas.ring_requests.RestingEnded.{queue_done, queue_halted}
use Rattle.law_devices.proofs.ring_requests.rest_laws.a_queue_comes_to_rest.Goals as goal

pub returns : goal.returns
returns c = record { done = queue_done; halted = queue_halted }
