use Rattle.std.proofs.Common.{◌≡◌, ◌+◌}
use Rattle.std.specs.Prelude.{nat_le, nat_lt, ◌&&◌}
use Rattle.bandwidth.proofs.Microframes.{mask_part}
use Rattle.report_schedule.proofs.masks.run_of.Given as goal

abbrev pub invariant-loop-m : goal.invariant-loop-m
invariant-loop-m l = l.mask ≡ mask_part (λ m. nat_le l.from m && nat_lt m (l.from + l.count)) l.m
