use Rattle.word_mem.proofs.ByController.{by_nothing, by_both}
use Rattle.hc_core.specs.Controller.{content}
use Rattle.hc_microframe.specs.Microframe.Goes.{none}
use Rattle.hc_microframe.proofs.Going.{one_more}
use Rattle.hc_microframe.proofs.making.make.Goals as goal

pub loop-event-init : goal.loop-event-init
loop-event-init c = record { goes = none; only_lent = by_nothing c.args.mem.now }

pub loop-event-preserved : goal.loop-event-preserved
loop-event-preserved c = record {
  goes =
      one_more _ _ _ (content c.loop-event.controller c.loop-event.regs c.loop-event.mem) c.loop-event.desk
      (content c.step-step.new.self c.step-step.new.regs c.step-step.new.mem) c.step-step.new.wire
      _ _ _ _ c.loop-event.invariant.goes c.step-step.ensures.row c.is_asked.ensures c.if-is_asked.false c.step-step.ensures.kind
      c.running.ensures c.is_last.ensures c.if-is_last.false;
  only_lent = by_both _ _ _ c.loop-event.invariant.only_lent c.step-step.ensures.only_lent;
}
