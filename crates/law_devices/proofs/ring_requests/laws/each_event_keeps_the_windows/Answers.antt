use Rattle.law_devices.proofs.lemmas.ring_requests.Windows.{each_event_keeps_the_windows}
use Rattle.law_devices.proofs.ring_requests.laws.each_event_keeps_the_windows.Goals as goal

pub returns : goal.returns
returns g c = each_event_keeps_the_windows g.W.Wire.transacts
