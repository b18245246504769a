use Rattle.law_below_hubs.proofs.LowBuses.{all_takers_below}
use Rattle.law_below_hubs.proofs.HighBuses.{takers_above}
use Rattle.law_below_hubs.proofs.buses.takers_are_on_each_bus.Goals as goal

pub returns : goal.returns
returns c = record { below = all_takers_below; above = takers_above }
