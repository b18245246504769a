use Rattle.app_trace.proofs.Going.{goes_on}
use Rattle.app_trace.proofs.running.Run.turn.Goals as goal

pub returns : goal.returns
returns c =
    goes_on c.args.self.now.choice c.controller.new.self.choice c.driver.new.self.choice c.args.self.now.host c.controller.new.self.host c.driver.new.self.host c.args.self.now.text.items
    c.controller.new.self.text.items c.driver.new.self.text.items c.in_ok-ended.ensures c.in_ok-driver.ensures
