use Rattle.app_trace.proofs.Going.{goes_on}
use Rattle.app_trace.proofs.running.Run.events.Goals as goal

pub loop-event-preserved : goal.loop-event-preserved
loop-event-preserved c =
    goes_on c.args.self.now.choice c.loop-event.self.choice c.event.new.self.choice c.args.self.now.host c.loop-event.self.host c.event.new.self.host c.args.self.now.text.items
    c.loop-event.self.text.items c.event.new.self.text.items c.loop-event.invariant c.in_ok-event.ensures
