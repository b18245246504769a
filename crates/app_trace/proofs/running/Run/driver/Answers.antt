use Rattle.app_trace.proofs.Going.{if_driven}
use Rattle.app_trace.proofs.running.Run.driver.Goals as goal

pub returns : goal.returns
returns c =
    if_driven c.put.result c.args.self.now.choice c.put.new.self.choice c.args.self.now.host c.driver_event-entry.new.self c.put.new.self.host c.args.self.now.text.items c.put.new.self.text.items
    c.driver_event-entry.result c.driver_event-entry.ensures c.put.ensures
