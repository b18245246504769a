use Rattle.std.proofs.Common.{◌+◌, ◌≤◌}
use Rattle.bench_admission.proofs.fill.fill.Given as goal

abbrev pub invariant-loop-left : goal.invariant-loop-left
invariant-loop-left l = l.placed + l.left ≤ l.wants

abbrev pub decreases-loop-left : goal.decreases-loop-left
decreases-loop-left l = l.left
