use Rattle.std.proofs.Common.{◌≡◌, ◌+◌, ◌-◌, ◌*◌, ◌<◌, ◌≤◌, ◌/◌, ◌%◌, ℕ, true, get_or}
use Rattle.bandwidth.specs.Placements.{frame_period}
use Rattle.bandwidth.specs.Sums.{is_active}
use Rattle.bandwidth.proofs.limits.microframes_fit.Given as goal

abbrev pub invariant-loop-k : goal.invariant-loop-k
invariant-loop-k g l = record {
  fits :
      (u : ℕ) → u < 8192 → is_active l.placement (u / 8) ≡ true
      → u / 8 / frame_period l.placement.period < l.k
      → get_or l.table u 0 + get_or l.amounts.each (u % 8) 0 ≤ l.limit;
  steps : l.steps ≤ l.initial.steps + l.k * (l.amounts.to - l.amounts.from);
}
