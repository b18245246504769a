use Rattle.law_queues.proofs.lemmas.stalled_fronts.Stalled.{stall_moves_fronts}
use Rattle.law_queues.proofs.lemmas.stalled_fronts.Halted.{stall_stops_queue}
use Rattle.law_queues.proofs.stalled_fronts.laws.a_stall_in_any_queue.Goals as goal

pub returns : goal.returns
returns c = record { fronts = stall_moves_fronts; halts = stall_stops_queue }
