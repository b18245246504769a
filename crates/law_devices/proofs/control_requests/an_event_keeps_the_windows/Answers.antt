use Rattle.law_devices.proofs.lemmas.control_requests.Keeping.{an_event_keeps_the_windows}
use Rattle.law_devices.proofs.control_requests.an_event_keeps_the_windows.Goals as goal

pub returns : goal.returns
returns g c = an_event_keeps_the_windows g.W.Wire.begins g.W.Wire.transacts
