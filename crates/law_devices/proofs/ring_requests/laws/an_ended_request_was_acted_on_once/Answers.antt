use Rattle.law_devices.proofs.lemmas.ring_requests.Windows.{window_ended}
use Rattle.law_devices.proofs.ring_requests.laws.an_ended_request_was_acted_on_once.Goals as goal

pub returns : goal.returns
returns g c = window_ended
