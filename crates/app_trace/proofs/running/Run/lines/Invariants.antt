use Rattle.app_trace.specs.Traced.{Goes}
use Rattle.app_trace.proofs.running.Run.lines.Given as goal

abbrev pub invariant-loop-entry : goal.invariant-loop-entry
invariant-loop-entry g l = Goes l.initial.self.choice l.initial.self.host l.initial.self.text.items l.self.choice l.self.host l.self.text.items
