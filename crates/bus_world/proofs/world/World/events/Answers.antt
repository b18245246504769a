use Rattle.std.proofs.Common.{◌∙◌, ◌-◌, ◌+◌, ap, refl, arith}
use Rattle.bus_world.specs.AtWork.{StandingAtWork}
use Rattle.bus_world.specs.Orders.{Events}
use Rattle.bus_world.proofs.TicksAtWork.{gone_begins, event_more, events_done}
use Rattle.bus_world.proofs.WaysAtWork.{event_room}
use Rattle.bus_world.proofs.world.World.events.Goals as goal

pub loop-event-init : goal.loop-event-init
loop-event-init c = record { fixed = refl; room = refl; gone = gone_begins c.args.self.now (Events c.args.event) c.args.count (c.args.count - 0) (omega arith) }

pub loop-event-preserved : goal.loop-event-preserved
loop-event-preserved c = record {
  fixed = ap (λ (s : StandingAtWork). s.fixed) c.event.ensures ∙ c.loop-event.invariant.fixed;
  room = event_room c.loop-event.self c.event.new.self c.args.event c.event.ensures ∙ c.loop-event.invariant.room;
  gone =
      event_more c.args.self.now c.loop-event.self c.event.new.self c.args.event c.args.count (c.args.count - c.loop-event._event) (c.args.count - (c.loop-event._event + 1))
      (omega arith) c.event.ensures c.loop-event.invariant.fixed c.loop-event.invariant.gone;
}

pub returns-clause-done : goal.returns-clause-done
returns-clause-done c = events_done c.args.self.now c.loop-event.self c.args.event c.args.count (c.args.count - c.loop-event._event) (omega arith) c.loop-event.invariant.gone
