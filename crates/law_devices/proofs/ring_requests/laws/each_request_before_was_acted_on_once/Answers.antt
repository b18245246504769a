use Rattle.law_devices.proofs.lemmas.ring_requests.Windows.{each_request_before_was_acted_on_once}
use Rattle.law_devices.proofs.ring_requests.laws.each_request_before_was_acted_on_once.Goals as goal

pub returns : goal.returns
returns g c = each_request_before_was_acted_on_once
