use Rattle.std.proofs.Common.{◌≡◌, ◌<◌, ◌≤◌, ℕ, get_or, length}
use Rattle.bandwidth.specs.Sums.{laid_in}
use Rattle.bandwidth.proofs.asks.byte_times_of.Given as goal

abbrev pub invariant-loop-m : goal.invariant-loop-m
invariant-loop-m l = record {
  cells : length l.bytes ≡ 8;
  laid : (m : ℕ) → m < l.m → get_or l.bytes m 0 ≡ laid_in l.want l.placement m;
  bound : (m : ℕ) → m < l.m → get_or l.bytes m 0 ≤ 188;
}
