use Rattle.law_queues.proofs.lemmas.harvest_laws.Opening.{opening_there}
use Rattle.law_queues.proofs.harvest_laws.held_worked.nothing_to_return.Goals as goal

pub returns : goal.returns
returns c = opening_there
