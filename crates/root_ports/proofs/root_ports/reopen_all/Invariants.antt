use Rattle.std.proofs.Common.{◌≡◌, ◌++◌, map, take, drop}
use Rattle.root_ports.specs.Ports.{reopened}
use Rattle.root_ports.proofs.root_ports.reopen_all.Given as goal

abbrev pub invariant-loop-port : goal.invariant-loop-port
invariant-loop-port l = l.ports ≡ map reopened (take l.port-index l.initial.ports) ++ drop l.port-index l.initial.ports
