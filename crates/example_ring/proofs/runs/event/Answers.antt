use Rattle.hc_core.specs.Controller.{content}
use Rattle.example_ring.proofs.Following.{idle_keeps}
use Rattle.example_ring.proofs.Running.{event_told, event_stays, event_made}
use Rattle.example_ring.proofs.runs.event.Goals as goal

pub returns : goal.returns
returns g c =
    let old = content c.args.controller.now c.args.regs.now c.args.mem.now in
    let new = content c.step.new.self c.step.new.regs c.step.new.mem in
    record {
      kind = c.step.ensures.kind;
      halted = c.step.ensures.idle;
      row = c.step.ensures.row;
      idle = idle_keeps g.W.Wire.begins g.W.Wire.transacts old c.args.wire.now new c.step.new.wire c.step.result c.step.ensures.row c.step.ensures.idle.0;
      told = event_told g.W.Wire.begins g.W.Wire.transacts old c.args.wire.now new c.step.new.wire c.step.ensures.row;
      under_way = event_stays g.W.Wire.begins g.W.Wire.transacts old c.args.wire.now new c.step.new.wire c.step.ensures.row;
      going = event_made g.W.Wire.transacts old c.step.result c.step.ensures.idle.0;
    }
