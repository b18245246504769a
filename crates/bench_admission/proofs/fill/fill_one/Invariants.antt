use Rattle.std.proofs.Common.{◌≤◌}
use Rattle.bench_admission.proofs.fill.fill_one.Given as goal

abbrev pub invariant-loop-id : goal.invariant-loop-id
invariant-loop-id l = l.placed ≤ l.id
