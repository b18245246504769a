use Rattle.law_queues.proofs.lemmas.leaving_drivers.Owing.{commands_owe_met}
use Rattle.law_queues.proofs.leaving_drivers.laws.commands_owe_met.Goals as goal

pub returns : goal.returns
returns c = commands_owe_met
