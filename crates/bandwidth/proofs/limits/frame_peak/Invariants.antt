use Rattle.std.proofs.Common.{◌≡◌, ◌+◌, ◌-◌, ◌*◌, ◌<◌, ◌≤◌, ℕ, get_or}
use Rattle.bandwidth.proofs.limits.frame_peak.Given as goal

abbrev pub invariant-loop-m : goal.invariant-loop-m
invariant-loop-m g l = record {
  at_least : l.so_far ≤ l.peak;
  covers :
      (m : ℕ) → m < l.m → 1 ≤ get_or l.amounts.each m 0
      → get_or l.table (8 * l.frame + m) 0 + get_or l.amounts.each m 0 ≤ l.peak;
  least :
      (b : ℕ) → l.so_far ≤ b
      → ((m : ℕ) → m < 8 → 1 ≤ get_or l.amounts.each m 0
      → get_or l.table (8 * l.frame + m) 0 + get_or l.amounts.each m 0 ≤ b)
      → l.peak ≤ b;
  steps : l.steps ≡ l.initial.steps + (l.m - l.amounts.from);
}
