use Rattle.std.proofs.Common.{◌≡◌, map, take}
use Rattle.std.specs.Prelude.{is_some}
use Rattle.root_ports.specs.Ports.{opened_port}
use Rattle.root_ports.proofs.root_ports.RootPorts.new.Given as goal

abbrev pub invariant-loop-thing : goal.invariant-loop-thing
invariant-loop-thing l = l.ports.items ≡ map (λ thing. opened_port thing (is_some thing)) (take l.thing-index l.fn.things)
