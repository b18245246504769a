use Rattle.app_trace.proofs.Going.{goes_on}
use Rattle.app_trace.proofs.running.Run.microframes.Goals as goal

pub returns-then-not-branch : goal.returns-then-not-branch
returns-then-not-branch g c =
    goes_on c.args.self.now.choice c.loop-microframe.self.choice c.microframe.new.self.choice c.args.self.now.host c.loop-microframe.self.host c.microframe.new.self.host c.args.self.now.text.items
    c.loop-microframe.self.text.items c.microframe.new.self.text.items c.loop-microframe.invariant c.in_ok-microframe.ensures

pub loop-microframe-preserved : goal.loop-microframe-preserved
loop-microframe-preserved g c =
    goes_on c.args.self.now.choice c.loop-microframe.self.choice c.microframe.new.self.choice c.args.self.now.host c.loop-microframe.self.host c.microframe.new.self.host c.args.self.now.text.items
    c.loop-microframe.self.text.items c.microframe.new.self.text.items c.loop-microframe.invariant c.in_ok-microframe.ensures
