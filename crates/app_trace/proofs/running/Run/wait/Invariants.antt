use Rattle.app_trace.specs.Traced.{Goes}
use Rattle.app_trace.proofs.running.Run.wait.Given as goal

abbrev pub invariant-loop-event : goal.invariant-loop-event
invariant-loop-event l = Goes l.initial.self.choice l.initial.self.host l.initial.self.text.items l.self.choice l.self.host l.self.text.items
