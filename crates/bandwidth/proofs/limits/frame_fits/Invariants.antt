use Rattle.std.proofs.Common.{◌≡◌, ◌+◌, ◌-◌, ◌*◌, ◌<◌, ◌≤◌, ℕ, get_or}
use Rattle.bandwidth.proofs.limits.frame_fits.Given as goal

abbrev pub invariant-loop-m : goal.invariant-loop-m
invariant-loop-m g l = record {
  fits : (m : ℕ) → m < l.m → get_or l.table (8 * l.frame + m) 0 + get_or l.amounts.each m 0 ≤ l.limit;
  steps : l.steps ≡ l.initial.steps + (l.m - l.amounts.from);
}
