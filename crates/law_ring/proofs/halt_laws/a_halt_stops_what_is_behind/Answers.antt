use Rattle.law_ring.proofs.HaltSparing.{none_behind_is_moved, one_is_halted}
use Rattle.law_ring.proofs.halt_laws.a_halt_stops_what_is_behind.Goals as goal

pub returns : goal.returns
returns c = record { none = none_behind_is_moved; one = one_is_halted }
