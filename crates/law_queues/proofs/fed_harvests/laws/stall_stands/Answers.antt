use Rattle.law_queues.proofs.lemmas.fed_harvests.Stalls.{stall_stands}
use Rattle.law_queues.proofs.fed_harvests.laws.stall_stands.Goals as goal

pub returns : goal.returns
returns c = stall_stands
