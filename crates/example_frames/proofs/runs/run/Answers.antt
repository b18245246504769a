use Rattle.std.proofs.Common.{◌∙◌, inr, ap, refl}
use Rattle.hc_core.specs.Controller.{Content, content}
use Rattle.example_ring.specs.Runs.EventsFollow.{none, another}
use Rattle.example_ring.proofs.Following.{runs_by, follow_kept}
use Rattle.example_frames.proofs.Going.{not_idle}
use Rattle.example_frames.proofs.runs.run.Goals as goal

pub returns-in-Idle-clause-made : goal.returns-in-Idle-clause-made
returns-in-Idle-clause-made g c =
    follow_kept g.W.Wire.begins g.W.Wire.transacts (content c.args.controller.now c.args.regs.now c.args.mem.now) c.args.wire.now c.loop-made.made
    (content c.loop-made.controller c.loop-made.regs c.loop-made.mem) c.loop-made.wire (content c.event.new.controller c.event.new.regs c.event.new.mem) c.event.new.wire c.loop-made.invariant.made
    (c.event.ensures.idle c.in-Idle.is)

pub returns-in-Idle-clause-stops : goal.returns-in-Idle-clause-stops
returns-in-Idle-clause-stops g c = inr (ap (λ (x : Content). x.registers.run) (c.event.ensures.idle c.in-Idle.is).0 ∙ c.event.ensures.halted.0 c.in-Idle.is)

pub returns-in-Idle-clause-under_way : goal.returns-in-Idle-clause-under_way
returns-in-Idle-clause-under_way g c = λ base member met running. c.event.ensures.under_way base member met (c.loop-made.invariant.stay base member met running)

pub returns-in-Idle-clause-going : goal.returns-in-Idle-clause-going
returns-in-Idle-clause-going g c = λ base member met running.
    absurd (not_idle g.W.Wire.transacts (content c.loop-made.controller c.loop-made.regs c.loop-made.mem) c.event.result base member met c.event.ensures.going (c.loop-made.invariant.stay base member met running) c.in-Idle.is)

pub returns-in-Idle-clause-not_refused : goal.returns-in-Idle-clause-not_refused
returns-in-Idle-clause-not_refused g c = λ base member met running.
    c.event.ensures.not_refused base member met (c.loop-made.invariant.stay base member met running) ∙ c.loop-made.invariant.none base member met running

pub loop-made-init : goal.loop-made-init
loop-made-init g c = record { made = none; stay = λ base member met running. running; none = λ base member met running. refl }

pub loop-made-preserved : goal.loop-made-preserved
loop-made-preserved g c = record {
  made = another c.loop-made.made (content c.loop-made.controller c.loop-made.regs c.loop-made.mem) c.loop-made.wire (content c.event.new.controller c.event.new.regs c.event.new.mem) c.event.new.wire c.loop-made.invariant.made
      (runs_by c.loop-made.regs.run (λ off. c.in_default.not-Idle (c.event.ensures.halted.1 off))) c.event.ensures.row;
  stay = λ base member met running. c.event.ensures.under_way base member met (c.loop-made.invariant.stay base member met running);
  none = λ base member met running.
      c.event.ensures.not_refused base member met (c.loop-made.invariant.stay base member met running) ∙ c.loop-made.invariant.none base member met running;
}
