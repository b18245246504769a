use Rattle.std.proofs.Common.{◌≡◌}
use Rattle.app_trace.proofs.host.Host.note_works.Given as goal

abbrev pub invariant-loop-place : goal.invariant-loop-place
invariant-loop-place l = l.self ≡ l.initial.self
