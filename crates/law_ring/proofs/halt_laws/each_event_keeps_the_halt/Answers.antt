use Rattle.law_ring.proofs.Walking.{walk_keeps_halts, halted_queue_stays}
use Rattle.law_ring.proofs.halt_laws.each_event_keeps_the_halt.Goals as goal

pub returns : goal.returns
returns g c = record { halts = walk_keeps_halts g.W.Wire.transacts; stays = halted_queue_stays g.W.Wire.transacts }
