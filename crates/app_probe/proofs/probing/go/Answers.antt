use Rattle.std.proofs.Common.{arith}
use Rattle.word_mem.proofs.ByController.{by_nothing, by_both}
use Rattle.hc_core.specs.Controller.{content}
use Rattle.app_probe.specs.Probe.Events.{none}
use Rattle.app_probe.proofs.Making.{one_more_made}
use Rattle.app_probe.proofs.probing.go.Goals as goal

pub loop-event-init : goal.loop-event-init
loop-event-init g c = record { made = none; few = omega arith; only_lent = by_nothing (g.M.HcMemory.mem c.args.mem.now) }

pub loop-event-preserved : goal.loop-event-preserved
loop-event-preserved g c = record {
  made =
      one_more_made _ (content c.loop-event.controller c.loop-event.regs (g.M.HcMemory.mem c.loop-event.mem)) (content c.step.new.self c.step.new.regs (g.M.HcMemory.mem c.step.new.mem)) _ _ _ _ c.loop-event.wire c.step.new.wire
      c.loop-event.invariant.made c.step.ensures.row c.step.ensures.kind c.steps_of-steps.ensures.steps;
  few = omega (arith, c.loop-event.invariant.few, c.steps_of-steps.ensures.few);
  only_lent = by_both _ _ _ c.loop-event.invariant.only_lent c.step.ensures.only_lent;
}
