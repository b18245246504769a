use Rattle.std.proofs.Common.{◌≡◌, ◌-◌, ◌++◌, replicate, None}
use Rattle.script_world.proofs.changes.no_devices.Given as goal

abbrev pub invariant-loop-port : goal.invariant-loop-port
invariant-loop-port l = l.new.items ++ replicate (l.ports - l.port) None ≡ replicate l.ports None
