use Rattle.app_trace.proofs.Going.{goes_on}
use Rattle.app_trace.proofs.running.Run.lines.Goals as goal

pub returns-then-not-branch : goal.returns-then-not-branch
returns-then-not-branch g c =
    goes_on c.args.self.now.choice c.loop-entry.self.choice c.line.new.self.choice c.args.self.now.host c.loop-entry.self.host c.line.new.self.host c.args.self.now.text.items
    c.loop-entry.self.text.items c.line.new.self.text.items c.loop-entry.invariant c.in_ok-line.ensures

pub loop-entry-preserved : goal.loop-entry-preserved
loop-entry-preserved g c =
    goes_on c.args.self.now.choice c.loop-entry.self.choice c.line.new.self.choice c.args.self.now.host c.loop-entry.self.host c.line.new.self.host c.args.self.now.text.items
    c.loop-entry.self.text.items c.line.new.self.text.items c.loop-entry.invariant c.in_ok-line.ensures
