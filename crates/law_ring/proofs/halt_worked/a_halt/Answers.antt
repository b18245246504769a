use Rattle.law_ring.proofs.HaltSampled.{halted, has_front, stops}
use Rattle.law_ring.proofs.halt_worked.a_halt.Goals as goal

pub returns : goal.returns
returns c = record { halted = halted; front = has_front; stops = stops }
