use Rattle.std.proofs.Common.{◌≡◌, map}
use Rattle.script_world.specs.Draft.{device_text}
use Rattle.script_world.proofs.draft.Draft.into_script.Given as goal

abbrev pub invariant-loop-device : goal.invariant-loop-device
invariant-loop-device l = l.devices.items ≡ map device_text l.yielded
