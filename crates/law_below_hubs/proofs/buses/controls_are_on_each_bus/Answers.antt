use Rattle.law_below_hubs.proofs.ControlBuses.{controls_on, controls_at}
use Rattle.law_below_hubs.proofs.buses.controls_are_on_each_bus.Goals as goal

pub returns : goal.returns
returns c = record { below = controls_on; above = controls_at }
