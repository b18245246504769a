use Rattle.std.proofs.Common.{◌≡◌, ◌%◌, ap, ◌∙◌, arith}
use Rattle.std.specs.Prelude.{nat_eq}
use Rattle.bandwidth.proofs.Microframes.{mask_part, mask_whole}
use Rattle.report_schedule.proofs.masks.every_of.Goals as goal

pub returns : goal.returns
returns c =
    let end : c.loop-m.m ≡ 8 = omega arith in
    c.loop-m.invariant
    ∙ ap (mask_part (λ m. nat_eq (m % c.args.period) c.args.from)) end
    ∙ mask_whole _
