use Rattle.std.proofs.Common.{◌≡◌, ◌++◌, map, drop}
use Rattle.bus_wire.specs.Seats.{seat_at}
use Rattle.bus_wire.proofs.build.seat_endpoints.Given as goal

abbrev pub invariant-loop-ep : goal.invariant-loop-ep
invariant-loop-ep l = l.seats.items ++ map (seat_at l.device) (drop l.ep-index l.eps) ≡ l.initial.seats.items ++ map (seat_at l.device) l.eps
