use Rattle.std.proofs.Common.{sym, arith}
use Rattle.bandwidth.proofs.Cells.{more_turns}
use Rattle.bandwidth.proofs.Pools.{within_at, none_below}
use Rattle.bandwidth.proofs.Spans.{shape_bytes, laid_bound}
use Rattle.bandwidth.proofs.accounts.Accounts.translator_keeps.Goals as goal

pub keep-requires-clause-within : goal.keep-requires-clause-within
keep-requires-clause-within g c =
    within_at c.args.self.now.placed c.args.self.now.pool c.args.translator _ c.in-Some.ensures.number
    c.in-Some.ensures.book.fits c.in-Some.ensures.book.pool (sym c.in-Some.ensures.tables)

pub returns-in-Some-clause-fits : goal.returns-in-Some-clause-fits
returns-in-Some-clause-fits g c = rw (← c.in-Some.ensures.tables) c.keep.ensures.fits

pub returns-in-Some-clause-steps : goal.returns-in-Some-clause-steps
returns-in-Some-clause-steps g c = more_turns _ _ _ _ _ c.keep.ensures.steps (omega (arith, c.requires.shape.laid_span))

pub returns-in-None-clause-fits : goal.returns-in-None-clause-fits
returns-in-None-clause-fits g c =
    let w = c.args.want.now in
    let p = c.args.placement.now in
    let x = c.args.shape.now in
    rw (← c.in-None.ensures.tables)
    (none_below c.args.shape.now.time _ p c.requires.place.place
    (λ m h. rw (shape_bytes w x p c.requires.shape c.requires.place m h) (laid_bound w p m)))
