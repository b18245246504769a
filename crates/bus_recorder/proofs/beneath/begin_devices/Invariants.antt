use Rattle.std.proofs.Common.{◌≡◌, ◌++◌, map, take, drop}
use Rattle.bus_wire.specs.Bus.{begun_at}
use Rattle.bus_recorder.proofs.beneath.begin_devices.Given as goal

abbrev pub invariant-loop-device : goal.invariant-loop-device
invariant-loop-device l =
    l.devices ≡ map (begun_at l.frindex) (take l.device-index l.initial.devices) ++ drop l.device-index l.initial.devices
