use Rattle.law_devices.proofs.Asking.{a_scripted_bus_sends_its_streams}
use Rattle.law_devices.proofs.a_scripted_bus_sends_its_streams.Goals as goal

pub returns : goal.returns
returns c = a_scripted_bus_sends_its_streams
