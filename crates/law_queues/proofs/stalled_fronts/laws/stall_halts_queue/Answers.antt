use Rattle.law_queues.proofs.lemmas.stalled_fronts.Halted.{stall_halts_queue}
use Rattle.law_queues.proofs.stalled_fronts.laws.stall_halts_queue.Goals as goal

pub returns : goal.returns
returns c = stall_halts_queue
