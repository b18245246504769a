use Rattle.hc_core.specs.Controller.{content}
use Rattle.example_ring.proofs.Following.{idle_keeps}
use Rattle.example_frames.proofs.Going.{both_told, both_stay, event_made, none_refused}
use Rattle.example_frames.proofs.runs.event.Goals as goal

pub returns : goal.returns
returns g c =
    let old = content c.args.controller.now c.args.regs.now c.args.mem.now in
    let new = content c.step.new.self c.step.new.regs c.step.new.mem in
    record {
      kind = c.step.ensures.kind;
      halted = c.step.ensures.idle;
      row = c.step.ensures.row;
      idle = idle_keeps g.W.Wire.begins g.W.Wire.transacts old c.args.wire.now new c.step.new.wire c.step.result c.step.ensures.row c.step.ensures.idle.0;
      told = both_told g.W.Wire.begins g.W.Wire.transacts old c.args.wire.now new c.step.new.wire c.step.ensures.row;
      under_way = both_stay g.W.Wire.begins g.W.Wire.transacts old c.args.wire.now new c.step.new.wire c.step.ensures.row;
      going = event_made g.W.Wire.transacts old c.step.result c.step.ensures.idle.0;
      not_refused = none_refused g.W.Wire.begins g.W.Wire.transacts old c.args.wire.now new c.step.new.wire c.step.ensures.row c.step.ensures.refused;
    }
