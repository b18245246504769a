use Rattle.hc_core.specs.Controller.{content}
use Rattle.example_ring.specs.Runs.{StaysUnderWay, EventsFollow}
use Rattle.example_ring.proofs.runs.run.Given as goal

-- so many events were made, and a ring has stayed one
abbrev pub invariant-loop-made : goal.invariant-loop-made
invariant-loop-made g l = record {
  made : EventsFollow g.W.Wire.begins g.W.Wire.transacts (content l.fn.controller l.fn.regs l.fn.mem) l.fn.wire l.made (content l.controller l.regs l.mem) l.wire;
  stay : StaysUnderWay g.W.Wire.transacts (content l.fn.controller l.fn.regs l.fn.mem) (content l.controller l.regs l.mem);
}
