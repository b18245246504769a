use Rattle.std.proofs.Common.{◌≡◌, ◌<◌, ℕ, false}
use Rattle.bandwidth.specs.Placements.{has}
use Rattle.report_schedule.proofs.masks.first_bit.Given as goal

abbrev pub invariant-loop-m : goal.invariant-loop-m
invariant-loop-m l = (k : ℕ) → k < l.m → has l.mask k ≡ false
