use Rattle.law_queues.proofs.lemmas.stalled_fronts.Stalled.{stall_keeps_fronts}
use Rattle.law_queues.proofs.stalled_fronts.laws.stall_keeps_fronts.Goals as goal

pub returns : goal.returns
returns c = stall_keeps_fronts
