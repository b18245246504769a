use Rattle.law_devices.proofs.lemmas.ring_requests.Telling.{requests_open_their_windows}
use Rattle.law_devices.proofs.ring_requests.laws.requests_open_their_windows.Goals as goal

pub returns : goal.returns
returns c = requests_open_their_windows
