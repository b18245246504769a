use Rattle.law_queues.proofs.lemmas.shared_memory.Sharing.{the_opening_is_shared}
use Rattle.law_queues.proofs.shared_memory.laws.the_opening_is_shared.Goals as goal

pub returns : goal.returns
returns c = the_opening_is_shared
