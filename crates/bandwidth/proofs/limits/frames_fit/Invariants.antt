use Rattle.std.proofs.Common.{◌≡◌, ◌+◌, ◌<◌, ◌≤◌, ◌/◌, ℕ, true, get_or}
use Rattle.bandwidth.specs.Placements.{frame_period}
use Rattle.bandwidth.specs.Sums.{is_active}
use Rattle.bandwidth.proofs.limits.frames_fit.Given as goal

abbrev pub invariant-loop-k : goal.invariant-loop-k
invariant-loop-k g l = record {
  fits :
      (f : ℕ) → f < 1024 → is_active l.placement f ≡ true
      → f / frame_period l.placement.period < l.k
      → get_or l.table f 0 + l.amount ≤ l.limit;
  steps : l.steps ≡ l.initial.steps + l.k;
}
