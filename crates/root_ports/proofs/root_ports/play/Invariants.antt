use Rattle.std.proofs.Common.{◌≡◌, take}
use Rattle.root_ports.specs.Ports.{opened, played}
use Rattle.root_ports.proofs.root_ports.play.Given as goal

abbrev pub invariant-loop-e : goal.invariant-loop-e
invariant-loop-e l = l.ports ≡ played (opened l.fn.things l.fn.n) (take l.e-index l.events)
