use Rattle.law_queues.proofs.lemmas.open_laws.Standing.{open_stands}
use Rattle.law_queues.proofs.open_laws.store_laws.open_stands.Goals as goal

pub returns : goal.returns
returns c = open_stands
