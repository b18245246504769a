use Rattle.law_devices.proofs.lemmas.ring_requests.Windows.{each_window_is_right}
use Rattle.law_devices.proofs.ring_requests.laws.each_window_is_right.Goals as goal

pub returns : goal.returns
returns g c = each_window_is_right
