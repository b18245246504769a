use Rattle.std.proofs.Common.{◌≡◌, ◌++◌, map, take, drop}
use Rattle.root_ports.specs.Ports.{after_owner}
use Rattle.root_ports.proofs.root_ports.route_all.Given as goal

abbrev pub invariant-loop-port : goal.invariant-loop-port
invariant-loop-port l = l.ports ≡ map (after_owner l.owner) (take l.port-index l.initial.ports) ++ drop l.port-index l.initial.ports
