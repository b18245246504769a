use Rattle.app_trace.proofs.Going.{goes_on}
use Rattle.app_trace.proofs.running.Run.wait.Goals as goal

pub loop-event-preserved : goal.loop-event-preserved
loop-event-preserved c =
    goes_on c.args.self.now.choice c.loop-event.self.choice c.driver.new.self.choice c.args.self.now.host c.loop-event.self.host
    c.driver.new.self.host c.args.self.now.text.items c.loop-event.self.text.items c.driver.new.self.text.items c.loop-event.invariant
    c.in_ok-driver.ensures
