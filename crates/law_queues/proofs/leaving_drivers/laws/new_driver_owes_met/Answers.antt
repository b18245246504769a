use Rattle.law_queues.proofs.lemmas.leaving_drivers.Owing.{new_driver_owes_met}
use Rattle.law_queues.proofs.leaving_drivers.laws.new_driver_owes_met.Goals as goal

pub returns : goal.returns
returns c = new_driver_owes_met
