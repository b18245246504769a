use Rattle.law_devices.proofs.lemmas.scripted_takers.Asking.{a_scripted_bus_takes_its_streams}
use Rattle.law_devices.proofs.scripted_takers.a_scripted_bus_takes_its_streams.Goals as goal

pub returns : goal.returns
returns c = a_scripted_bus_takes_its_streams
