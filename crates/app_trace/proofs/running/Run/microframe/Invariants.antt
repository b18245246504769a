use Rattle.app_trace.specs.Traced.{Goes}
use Rattle.app_trace.proofs.running.Run.microframe.Given as goal

abbrev pub invariant-loop-turn : goal.invariant-loop-turn
invariant-loop-turn l = Goes l.initial.self.choice l.initial.self.host l.initial.self.text.items l.self.choice l.self.host l.self.text.items
