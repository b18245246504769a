use Rattle.law_below_hubs.proofs.LowBuses.{all_senders_below}
use Rattle.law_below_hubs.proofs.HighBuses.{senders_above}
use Rattle.law_below_hubs.proofs.buses.senders_are_on_each_bus.Goals as goal

pub returns : goal.returns
returns c = record { below = all_senders_below; above = senders_above }
