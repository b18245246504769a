use Rattle.bus_wire.proofs.Hubs.{HaveWorked}
use Rattle.bus_wire.proofs.bus.work_hubs.Given as goal

abbrev pub invariant-loop-hub : goal.invariant-loop-hub
invariant-loop-hub l = HaveWorked l.initial.below.fixed l.frindex l.initial.hubs l.initial.below.floor l.hub-index l.hubs l.below
