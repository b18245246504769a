use Rattle.std.proofs.Common.{◌≡◌, ◌+◌, ap, ◌∙◌, arith}
use Rattle.std.specs.Prelude.{nat_le, nat_lt, ◌&&◌}
use Rattle.bandwidth.proofs.Microframes.{mask_part, mask_whole}
use Rattle.report_schedule.proofs.masks.run_of.Goals as goal

pub returns : goal.returns
returns c =
    let end : c.loop-m.m ≡ 8 = omega arith in
    c.loop-m.invariant
    ∙ ap (mask_part (λ m. nat_le c.args.from m && nat_lt m (c.args.from + c.args.count))) end
    ∙ mask_whole _
