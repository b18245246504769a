use Rattle.law_queues.proofs.lemmas.harvest_laws.Opening.{return_holds}
use Rattle.law_queues.proofs.harvest_laws.held_laws.return_holds.Goals as goal

pub returns : goal.returns
returns c = return_holds
