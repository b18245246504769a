use Rattle.std.proofs.Common.{arith}
use Rattle.bandwidth.specs.Sums.{translator_of}
use Rattle.bandwidth.specs.Tables.{sheet_at}
use Rattle.bandwidth.proofs.Cells.{two_turns}
use Rattle.bandwidth.proofs.Budgets.{passes, loads_kept, peak_is, cells_in, cells_out}
use Rattle.bandwidth.proofs.Books.{sums_for, loads_small, below_needed, below_enough}
use Rattle.bandwidth.proofs.accounts.Accounts.kept_peak.Goals as goal

pub peak_within-requires-clause-room : goal.peak_within-requires-clause-room
peak_within-requires-clause-room g c = loads_small _ c.self.invariant.0

pub returns-in_default-clause-none : goal.returns-in_default-clause-none
returns-in_default-clause-none g c =
    let w = c.args.want.now in
    let p = c.args.placement.now in
    let x = c.args.shape.now in
    rw (← c.self.view_is)
    (λ kept.
    passes (sheet_at (record { room = c.self.inside.room; placed = c.self.inside.placed.items; loads = c.self.inside.loads; pool = c.self.inside.pool }) (translator_of w)) w p c.args.limit (sums_for _ (translator_of w) c.self.invariant.0)
    (λ within. c.in_default.ensures.none (cells_out _ w x p c.args.limit c.requires.shape c.requires.place within)))

pub returns-then-not-below_keeps-clause-none : goal.returns-then-not-below_keeps-clause-none
returns-then-not-below_keeps-clause-none g c kept =
    let on =
    below_needed c.args.self.now c.args.want.now c.args.placement.now c.below_keeps.result c.requires.want.tt
    c.below_keeps.ensures.book c.below_keeps.ensures.tells kept in
    let off = c.if-not-below_keeps.true in
    cc

pub returns-clause-keeps : goal.returns-clause-keeps
returns-clause-keeps g c =
    let w = c.args.want.now in
    let p = c.args.placement.now in
    let x = c.args.shape.now in
    below_enough c.args.self.now w p c.below_keeps.result c.below_keeps.ensures.book c.below_keeps.ensures.tells
    (rw (← c.self.view_is)
    (loads_kept (sheet_at (record { room = c.self.inside.room; placed = c.self.inside.placed.items; loads = c.self.inside.loads; pool = c.self.inside.pool }) (translator_of w)) w p c.in-Some.peak (sums_for _ (translator_of w) c.self.invariant.0) c.self.invariant.0.fits
    (omega (arith, c.in-Some.ensures.limit, c.requires.limit))
    (cells_in _ w x p c.in-Some.peak c.requires.shape c.requires.place c.in-Some.ensures.covers)))
    c.if-not-below_keeps.false

pub returns-clause-peak : goal.returns-clause-peak
returns-clause-peak g c =
    let w = c.args.want.now in
    let p = c.args.placement.now in
    let x = c.args.shape.now in
    rw (← c.self.view_is)
    (peak_is (sheet_at (record { room = c.self.inside.room; placed = c.self.inside.placed.items; loads = c.self.inside.loads; pool = c.self.inside.pool }) (translator_of w)) w p c.in-Some.peak c.requires.want (sums_for _ (translator_of w) c.self.invariant.0)
    (cells_in _ w x p c.in-Some.peak c.requires.shape c.requires.place c.in-Some.ensures.covers)
    (λ b all. c.in-Some.ensures.least b (cells_out _ w x p b c.requires.shape c.requires.place all)))

pub returns-then-not-below_keeps-clause-steps : goal.returns-then-not-below_keeps-clause-steps
returns-then-not-below_keeps-clause-steps g c =
    two_turns _ _ _ _ _ _ _ c.in-Some.ensures.steps c.below_keeps.ensures.steps (omega (arith, c.requires.shape.cost_span))

pub returns-clause-steps : goal.returns-clause-steps
returns-clause-steps g c =
    two_turns _ _ _ _ _ _ _ c.in-Some.ensures.steps c.below_keeps.ensures.steps (omega (arith, c.requires.shape.cost_span))
