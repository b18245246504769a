use Rattle.law_devices.proofs.lemmas.ring_requests.Telling.{a_request_opens_its_window}
use Rattle.law_devices.proofs.ring_requests.laws.a_request_opens_its_window.Goals as goal

pub returns : goal.returns
returns c = a_request_opens_its_window
