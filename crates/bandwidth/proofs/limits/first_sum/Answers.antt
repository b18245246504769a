use Rattle.std.proofs.Common.{arith}
use Rattle.bandwidth.proofs.limits.first_sum.Goals as goal

pub returns-clause-least : goal.returns-clause-least
returns-clause-least g c = λ b within.
    c.cell_peak.ensures.least b (omega arith) (λ some.
    omega (arith, c.get-sum.ensures.cell, within c.args.amounts.now.from (omega (arith, c.if-amounts.false, c.requires.amounts.end)) some))
