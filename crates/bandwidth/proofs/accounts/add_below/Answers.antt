use Rattle.std.proofs.Common.{arith, sym, ◌∙◌}
use Rattle.bandwidth.proofs.Cells.{more_turns}
use Rattle.bandwidth.proofs.Budgets.{own_at}
use Rattle.bandwidth.proofs.Pools.{pool_alone, pool_joined, adds_as}
use Rattle.bandwidth.proofs.Spans.{shape_bytes}
use Rattle.bandwidth.proofs.accounts.add_below.Goals as goal

pub returns-in_default-clause-pool : goal.returns-in_default-clause-pool
returns-in_default-clause-pool g c placed is =
    pool_alone placed c.args.pool.now c.args.want.now c.args.placement.now (sym c.in_default.ensures) is

pub add-requires-clause-free : goal.add-requires-clause-free
add-requires-clause-free g c =
    c.requires.free c.in-Some.translator c.get-number.ensures.bound (sym c.translator_for.ensures ∙ c.in-Some.is)

pub add-requires-clause-within : goal.add-requires-clause-within
add-requires-clause-within g c =
    c.requires.within c.in-Some.translator c.get-number.ensures.bound (sym c.translator_for.ensures ∙ c.in-Some.is)

pub returns-clause-pool : goal.returns-clause-pool
returns-clause-pool g c placed is =
    let w = c.args.want.now in
    let p = c.args.placement.now in
    let x = c.args.shape.now in
    let at = c.add.ensures.adds in
    pool_joined placed c.args.pool.now c.add.new.self w p c.in-Some.translator at.was at.now
    (own_at w c.in-Some.translator c.requires.want.tt (sym c.translator_for.ensures ∙ c.in-Some.is)) c.get-number.ensures.bound is at.had
    (adds_as _ _ _ _ p at.was at.now c.requires.shape.time (shape_bytes w x p c.requires.shape c.requires.place) at.adds)
    at.hubs

pub returns-clause-steps : goal.returns-clause-steps
returns-clause-steps g c =
    more_turns _ _ _ _ _ c.add.ensures.steps (omega (arith, c.requires.shape.laid_span))
