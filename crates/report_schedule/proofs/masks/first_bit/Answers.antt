use Rattle.std.proofs.Common.{sym, ◌∙◌, arith}
use Rattle.bandwidth.proofs.Microframes.{first_is, first_none}
use Rattle.report_schedule.proofs.masks.first_bit.Goals as goal

pub returns-then-has_bit-clause-value : goal.returns-then-has_bit-clause-value
returns-then-has_bit-clause-value c =
    first_is c.args.mask c.loop-m.m (omega arith) c.loop-m.invariant (sym c.has_bit.ensures ∙ c.if-has_bit.true)

pub returns-clause-value : goal.returns-clause-value
returns-clause-value c = first_none c.args.mask (λ k h. c.loop-m.invariant k (omega arith))
