use Rattle.std.proofs.Common.{◌≡◌, ◌++◌, map, take, drop}
use Rattle.hub_class.specs.EndpointZero.{hub_reset}
use Rattle.bus_wire.proofs.bus.reset_hubs.Given as goal

abbrev pub invariant-loop-hub : goal.invariant-loop-hub
invariant-loop-hub l =
    l.hubs ≡ map (hub_reset l.name) (take l.hub-index l.initial.hubs) ++ drop l.hub-index l.initial.hubs
