use Rattle.std.proofs.Common.{◌≡◌, ◌++◌, drop}
use Rattle.bus_wire.specs.Seats.{seats_from}
use Rattle.bus_wire.proofs.build.seats_by_device.Given as goal

abbrev pub invariant-loop-device : goal.invariant-loop-device
invariant-loop-device l = l.seats.items ++ seats_from l.device (drop l.device l.devices) ≡ seats_from 0 l.devices
