use Rattle.std.proofs.Common.{sym, ap, ◌∙◌}
use Rattle.bandwidth.proofs.Ids.{without_none, without_one}
use Rattle.bandwidth.proofs.plan.Plan.remove.Goals as goal

pub returns-then-not-has-clause-plan : goal.returns-then-not-has-clause-plan
returns-then-not-has-clause-plan c =
    let left = without_none c.args.self.now.placed c.args.id (sym c.has.ensures.found ∙ c.if-not-has.true) in
    ap (λ ps. record c.args.self.now { placed = ps }) left

pub returns-clause-one : goal.returns-clause-one
returns-clause-one c =
    let one = without_one c.args.self.now.placed c.args.id c.has.ensures.ids (sym c.has.ensures.found ∙ c.if-not-has.false) in
    rw (c.remove.ensures.placed, ← c.self.view_is) (rw (← c.self.view_is) at one)
