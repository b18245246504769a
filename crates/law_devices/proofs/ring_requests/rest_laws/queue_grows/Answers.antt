use Rattle.law_devices.proofs.lemmas.ring_requests.RestingGrows.{queue_grows}
use Rattle.law_devices.proofs.ring_requests.rest_laws.queue_grows.Goals as goal

pub returns : goal.returns
returns c = queue_grows
