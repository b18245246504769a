-- The ports so far are those of the devices so far, and there is room for the others.
use Rattle.std.proofs.Common.{◌≡◌, ◌≤◌, length, map, take, vec_capacity}
use Rattle.hub_ports.specs.Ports.{opened_port}
use Rattle.hub_ports.proofs.ports.Ports.build.Given as goal

abbrev pub invariant-loop-speed : goal.invariant-loop-speed
invariant-loop-speed l = (l.ports.items ≡ map opened_port (take l.speed-index l.attached)) × (length l.attached ≤ vec_capacity l.ports)
