use Rattle.std.proofs.Common.{◌≡◌, ◌%◌}
use Rattle.std.specs.Prelude.{nat_eq}
use Rattle.bandwidth.proofs.Microframes.{mask_part}
use Rattle.report_schedule.proofs.masks.every_of.Given as goal

abbrev pub invariant-loop-m : goal.invariant-loop-m
invariant-loop-m l = l.mask ≡ mask_part (λ m. nat_eq (m % l.period) l.from) l.m
