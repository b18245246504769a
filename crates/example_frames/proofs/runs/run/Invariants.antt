use Rattle.hc_core.specs.Controller.{content}
use Rattle.example_ring.specs.Runs.{EventsFollow}
use Rattle.example_frames.specs.Runs.{BothStay, NothingIsRefused}
use Rattle.example_frames.proofs.runs.run.Given as goal

-- so many events were made, a ring and the frames have stayed, and no word was refused
abbrev pub invariant-loop-made : goal.invariant-loop-made
invariant-loop-made g l = record {
  made : EventsFollow g.W.Wire.begins g.W.Wire.transacts (content l.fn.controller l.fn.regs l.fn.mem) l.fn.wire l.made (content l.controller l.regs l.mem) l.wire;
  stay : BothStay g.W.Wire.transacts (content l.fn.controller l.fn.regs l.fn.mem) (content l.controller l.regs l.mem);
  none : NothingIsRefused g.W.Wire.transacts (content l.fn.controller l.fn.regs l.fn.mem) (content l.controller l.regs l.mem);
}
