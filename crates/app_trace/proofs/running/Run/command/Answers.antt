use Rattle.app_trace.proofs.Going.{goes_on}
use Rattle.app_trace.proofs.running.Run.command.Goals as goal

pub returns : goal.returns
returns c =
    goes_on c.args.self.now.choice c.prepare.new.self.choice c.offer.new.self.choice c.args.self.now.host c.prepare.new.self.host
    c.offer.new.self.host c.args.self.now.text.items c.prepare.new.self.text.items c.offer.new.self.text.items c.in_ok-prepare.ensures
    c.in_ok-offer.ensures
