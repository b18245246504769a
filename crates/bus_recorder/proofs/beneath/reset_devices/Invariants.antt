use Rattle.std.proofs.Common.{◌≡◌, ◌++◌, map, take, drop}
use Rattle.endpoint_script.specs.Resets.{device_reset}
use Rattle.bus_recorder.proofs.beneath.reset_devices.Given as goal

abbrev pub invariant-loop-device : goal.invariant-loop-device
invariant-loop-device l =
    l.devices ≡ map (device_reset l.name) (take l.device-index l.initial.devices) ++ drop l.device-index l.initial.devices
