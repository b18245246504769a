use Rattle.law_queues.proofs.lemmas.leaving_drivers.Owing.{events_owe_met}
use Rattle.law_queues.proofs.leaving_drivers.laws.events_owe_met.Goals as goal

pub returns : goal.returns
returns c = events_owe_met
