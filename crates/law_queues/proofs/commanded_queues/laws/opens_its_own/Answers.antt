use Rattle.law_queues.proofs.lemmas.commanded_queues.Which.{opens_its_own}
use Rattle.law_queues.proofs.commanded_queues.laws.opens_its_own.Goals as goal

pub returns : goal.returns
returns c = opens_its_own
